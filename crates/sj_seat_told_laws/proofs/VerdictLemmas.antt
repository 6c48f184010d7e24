-- The verdict of a run with seats: by how the parties stand, and where it is done.
use Rattle.std.proofs.Common.{◌≡◌, ℕ, zero, suc, ◌+◌, nat_lt, Bool, true, false, cond, ◌&&◌, ◌||◌, List, [], ◌∷◌, length, map, slice_get, Option, Some, None, is_some, refl, ap, sym, ◌∙◌, arith, if◌then◌else◌}
use Rattle.std.specs.List.{list_all, list_any}
use Rattle.std.proofs.lemmas.Bool.{and_from, and_parts}
use Rattle.sj_base.specs.declared.EndId.{EndId}
use Rattle.sj_lang.specs.FileAt.{FileAt}
use Rattle.sj_lang.specs.Place.{Place}
use Rattle.sj_semantics.specs.declared.State.{State}
use Rattle.sj_semantics.specs.declared.State.TheVariants as states
use Rattle.sj_semantics.specs.declared.Limit.TheVariants as limits
use Rattle.sj_semantics.specs.declared.Verdict.{Verdict}
use Rattle.sj_semantics.specs.declared.Verdict.TheVariants as verdicts
use Rattle.sj_semantics.specs.Ends.{end_at, next_for}
use Rattle.sj_semantics.specs.Program.{Program}
use Rattle.sj_semantics.specs.Requests.{first_offer, limit_of_requests}
use Rattle.sj_semantics.specs.State.{has_ended, is_accepted, is_at_limit, opened_in, state_of_program, states_from, states_of}
use Rattle.sj_semantics.specs.World.{World}
use Rattle.sj_rules.specs.Node as wanted
use Rattle.sj_rules.specs.Node.{Want}
use Rattle.sj_told.specs.declared.told.Stand.{Stand}
use Rattle.sj_seat_laws.specs.Calls.{SeatedAt}
use Rattle.sj_seat_laws.specs.Guards.{seated_want}
use Rattle.sj_seat_laws.specs.SeatedStart.{no_program}
use Rattle.sj_seat_laws.specs.SeatsHeadline.{IsAllDone}
use Rattle.sj_seat_laws.specs.SeatsWorld.{SeatsWorld, seat_of}
use Rattle.sj_seat_laws.proofs.SeatsLemmas.{IsSeats, one_holds}
use Rattle.sj_seat_told_laws.proofs.OpenLemmas.{none_open, open_none}
use Rattle.sj_seat_told_laws.proofs.OpenedLemmas.{all_accepted}
use Rattle.sj_seat_told_laws.specs.FirstOpen.{first_open}
use Rattle.sj_seat_told_laws.specs.SeatsOpened.{unnamed}
use Rattle.sj_seat_told_laws.specs.SeatsStands.{AreSeatsStands, player_state, seats_states, seats_states_from, seats_verdict, state_by_open, state_calling, state_holding, state_of_seat, verdict_with}

-- ---- by how the parties stand

any_map : (f : State → Bool) (xs : List Stand) → list_any f (map (λ s. s.state) xs) ≡ list_any (λ s. f s.state) xs
any_map f [] = refl
any_map f (x ∷ xs) = ap (λ b. f x.state || b) (any_map f xs)

all_map : (f : State → Bool) (xs : List Stand) → list_all f (map (λ s. s.state) xs) ≡ list_all (λ s. f s.state) xs
all_map f [] = refl
all_map f (x ∷ xs) = ap (λ b. f x.state && b) (all_map f xs)

abbrev verdict_so : Bool → Bool → Verdict
verdict_so long over = if long then verdicts.Long else (if over then verdicts.Done else verdicts.Blocked)

pub verdict_is : (t : SeatsWorld) (stands : List Stand) → AreSeatsStands t stands → verdict_with stands (map unnamed (opened_in t.world)) ≡ seats_verdict t
verdict_is t stands are =
    let long = sym (any_map is_at_limit stands) ∙ ap (list_any is_at_limit) are.states in
    let ended = sym (all_map has_ended stands) ∙ ap (list_all has_ended) are.states in
    let accepted = all_accepted (opened_in t.world) in
    λ i. verdict_so (long i) (ended i && accepted i)

-- ---- one that is played by code has ended where it holds no open end

not_ended : (b : Bool) (x y : State) → has_ended x ≡ false → has_ended y ≡ false → has_ended (cond b x y) ≡ false
not_ended true x y h k = h
not_ended false x y h k = k

calls_on : (w : World) (p : ℕ) (want : Want Place) → has_ended (state_calling w p want) ≡ false
calls_on w p wanted.ended = refl
calls_on w p wanted.local = refl
calls_on w p (wanted.sends e m) = refl
calls_on w p (wanted.closes e) = refl
calls_on w p (wanted.requests place to) = not_ended (nat_lt (length (w.requests p)) limit_of_requests) states.Ready (states.AtLimit limits.Requests) refl refl
calls_on w p (wanted.accepts place from) = not_ended (is_some (first_offer p (w.requests from))) states.Ready (states.WaitsOpen from) refl refl
calls_on w p (wanted.takes e place) = not_ended (is_some (next_for w.sessions e)) states.Ready (states.Waits e) refl refl
calls_on w p (wanted.delegates c e) = not_ended (nat_lt (end_at w.sessions e).hops 100) states.Ready (states.AtLimit (limits.Hops e)) refl refl

holds_on : (w : World) (p : ℕ) (e : EndId) (steps : ℕ) (want : Want Place) → has_ended (state_holding w p e steps want) ≡ false
holds_on w p e steps wanted.ended = refl
holds_on w p e steps wanted.local = not_ended (nat_lt steps 10000) (state_calling w p wanted.local) (states.AtLimit limits.Steps) (calls_on w p wanted.local) refl
holds_on w p e steps (wanted.sends f m) = not_ended (nat_lt steps 10000) (state_calling w p (wanted.sends f m)) (states.AtLimit limits.Steps) (calls_on w p (wanted.sends f m)) refl
holds_on w p e steps (wanted.closes f) = not_ended (nat_lt steps 10000) (state_calling w p (wanted.closes f)) (states.AtLimit limits.Steps) (calls_on w p (wanted.closes f)) refl
holds_on w p e steps (wanted.requests place to) = not_ended (nat_lt steps 10000) (state_calling w p (wanted.requests place to)) (states.AtLimit limits.Steps) (calls_on w p (wanted.requests place to)) refl
holds_on w p e steps (wanted.accepts place from) = not_ended (nat_lt steps 10000) (state_calling w p (wanted.accepts place from)) (states.AtLimit limits.Steps) (calls_on w p (wanted.accepts place from)) refl
holds_on w p e steps (wanted.takes f place) = not_ended (nat_lt steps 10000) (state_calling w p (wanted.takes f place)) (states.AtLimit limits.Steps) (calls_on w p (wanted.takes f place)) refl
holds_on w p e steps (wanted.delegates c f) = not_ended (nat_lt steps 10000) (state_calling w p (wanted.delegates c f)) (states.AtLimit limits.Steps) (calls_on w p (wanted.delegates c f)) refl

ended_open : (w : World) (p steps : ℕ) (want : Want Place) (o : Option EndId) → has_ended (state_by_open w p steps want o) ≡ true → o ≡ None
ended_open w p steps want None h = refl
ended_open w p steps want (Some e) h = let clash : false ≡ true = sym (holds_on w p e steps want) ∙ h in absurd (cc clash)

open_ended : (w : World) (p steps : ℕ) (want : Want Place) (o : Option EndId) → o ≡ None → has_ended (state_by_open w p steps want o) ≡ true
open_ended w p steps want None h = refl
open_ended w p steps want (Some e) h = cc

-- ---- all of them

ended_within : (x : State) → has_ended x ≡ true → is_at_limit x ≡ false
ended_within states.Ended h = refl
ended_within states.Ready h = cc
ended_within (states.Waits e) h = cc
ended_within (states.WaitsOpen q) h = cc
ended_within (states.AtLimit l) h = cc

all_within : (xs : List State) → list_all has_ended xs ≡ true → list_any is_at_limit xs ≡ false
all_within [] h = refl
all_within (x ∷ xs) h =
    let parts = and_parts (has_ended x) (list_all has_ended xs) h in
    ap (λ b. b || list_any is_at_limit xs) (ended_within x parts.0) ∙ all_within xs parts.1

-- the verdict is done exactly where all have ended and each session was accepted
done_parts : (xs : List State) (b : Bool) → verdict_so (list_any is_at_limit xs) (list_all has_ended xs && b) ≡ verdicts.Done → (list_all has_ended xs ≡ true) × (b ≡ true)
done_parts xs b h = by (list_any is_at_limit xs) (list_all has_ended xs && b) refl h
  where
    by : (long over : Bool) → list_all has_ended xs && b ≡ over → verdict_so long over ≡ verdicts.Done → (list_all has_ended xs ≡ true) × (b ≡ true)
    by true over is k = cc
    by false true is k = and_parts (list_all has_ended xs) b is
    by false false is k = cc

parts_done : (xs : List State) (b : Bool) → list_all has_ended xs ≡ true → b ≡ true → verdict_so (list_any is_at_limit xs) (list_all has_ended xs && b) ≡ verdicts.Done
parts_done xs b all one = ap (λ c. verdict_so c (list_all has_ended xs && b)) (all_within xs all) ∙ ap (λ c. verdict_so false c) (and_from (list_all has_ended xs) b all one)

module _ (file : FileAt) (n : ℕ) (t : SeatsWorld) (i : IsSeats file n t) where
  abbrev w : World
  w = t.world

  -- whose programs are these, from party p on
  abbrev AreIdle : ℕ → List Program → Type 0
  AreIdle p gs = (k : ℕ) (g : Program) (s : SeatedAt) → slice_get gs k ≡ Some g → seat_of t.seats (p + k) ≡ Some s → g ≡ no_program file

  later_idle : (p : ℕ) (g : Program) (gs : List Program) → AreIdle p (g ∷ gs) → AreIdle (p + 1) gs
  later_idle p g gs idle k h s at there = idle (suc k) h s at (ap (seat_of t.seats) (let same : p + suc k ≡ p + 1 + k = omega arith in same) ∙ there)

  all_idle : AreIdle 0 w.parties
  all_idle k g s at there =
      let both : Some (no_program file) ≡ Some g = sym (i.idle k s (ap (seat_of t.seats) (let same : k ≡ 0 + k = omega arith in same) ∙ there)) ∙ at in
      let it : no_program file ≡ g = cc in
      sym it

  -- a party that is played by code has ended in the world beside it
  file_ended : (p : ℕ) (g : Program) (o : Option SeatedAt) → ((s : SeatedAt) → o ≡ Some s → g ≡ no_program file) → has_ended (player_state w p g o) ≡ true → has_ended (state_of_program w p g) ≡ true
  file_ended p g None idle h = h
  file_ended p g (Some s) idle h = ap (λ (x : Program). has_ended (state_of_program w p x)) (idle s refl)

  here_idle : (p : ℕ) (g : Program) (gs : List Program) → AreIdle p (g ∷ gs) → (s : SeatedAt) → seat_of t.seats p ≡ Some s → g ≡ no_program file
  here_idle p g gs idle s at = idle 0 g s refl (ap (seat_of t.seats) (let same : p + 0 ≡ p = omega arith in same) ∙ at)

  files_ended : (p : ℕ) (gs : List Program) → AreIdle p gs → list_all has_ended (seats_states_from t p gs) ≡ true → list_all has_ended (states_from w p gs) ≡ true
  files_ended p [] idle h = refl
  files_ended p (g ∷ gs) idle h =
      let parts = and_parts (has_ended (player_state w p g (seat_of t.seats p))) (list_all has_ended (seats_states_from t (p + 1) gs)) h in
      and_from (has_ended (state_of_program w p g)) (list_all has_ended (states_from w (p + 1) gs)) (file_ended p g (seat_of t.seats p) (here_idle p g gs idle) parts.0) (files_ended (p + 1) gs (later_idle p g gs idle) parts.1)

  seat_ended : (p : ℕ) (gs : List Program) (k : ℕ) (g : Program) (s : SeatedAt) → slice_get gs k ≡ Some g → seat_of t.seats (p + k) ≡ Some s → list_all has_ended (seats_states_from t p gs) ≡ true → has_ended (state_of_seat w (p + k) s) ≡ true
  seat_ended p [] k g s at there h = absurd (cc at)
  seat_ended p (x ∷ gs) zero g s at there h =
      let parts = and_parts (has_ended (player_state w p x (seat_of t.seats p))) (list_all has_ended (seats_states_from t (p + 1) gs)) h in
      let same : p ≡ p + 0 = omega arith in
      sym (ap (λ (k : ℕ). has_ended (state_of_seat w k s)) same) ∙ sym (ap (λ (o : Option SeatedAt). has_ended (player_state w p x o)) (ap (seat_of t.seats) same ∙ there)) ∙ parts.0
  seat_ended p (x ∷ gs) (suc k) g s at there h =
      let parts = and_parts (has_ended (player_state w p x (seat_of t.seats p))) (list_all has_ended (seats_states_from t (p + 1) gs)) h in
      let same : p + 1 + k ≡ p + suc k = omega arith in
      sym (ap (λ (j : ℕ). has_ended (state_of_seat w j s)) same) ∙ seat_ended (p + 1) gs k g s at (ap (seat_of t.seats) same ∙ there) parts.1

  seats_ended : (p : ℕ) (gs : List Program) → ((q : ℕ) (s : SeatedAt) → seat_of t.seats q ≡ Some s → has_ended (state_of_seat w q s) ≡ true) → list_all has_ended (states_from w p gs) ≡ true → list_all has_ended (seats_states_from t p gs) ≡ true
  seats_ended p [] codes h = refl
  seats_ended p (g ∷ gs) codes h =
      let parts = and_parts (has_ended (state_of_program w p g)) (list_all has_ended (states_from w (p + 1) gs)) h in
      and_from (has_ended (player_state w p g (seat_of t.seats p))) (list_all has_ended (seats_states_from t (p + 1) gs)) (one (seat_of t.seats p) refl parts.0) (seats_ended (p + 1) gs codes parts.1)
    where
      one : (o : Option SeatedAt) → seat_of t.seats p ≡ o → has_ended (state_of_program w p g) ≡ true → has_ended (player_state w p g o) ≡ true
      one None at k = k
      one (Some s) at k = codes p s at

  pub done_is_all_done : seats_verdict t ≡ verdicts.Done → IsAllDone t
  done_is_all_done h =
      let parts = done_parts (seats_states t) (list_all is_accepted (opened_in w)) h in
      record {
        others = parts_done (states_of w) (list_all is_accepted (opened_in w)) (files_ended 0 w.parties all_idle parts.0) parts.1;
        codes = λ q s at.
            let same : 0 + q ≡ q = omega arith in
            let ended = sym (ap (λ (k : ℕ). has_ended (state_of_seat w k s)) same) ∙ seat_ended 0 w.parties q (no_program file) s (i.idle q s at) (ap (seat_of t.seats) same ∙ at) parts.0 in
            λ e place held. none_open s.ends (ended_open w q s.steps (seated_want s) (first_open s.ends) ended) e place held;
      }

  pub all_done_is_done : IsAllDone t → seats_verdict t ≡ verdicts.Done
  all_done_is_done over =
      let parts = done_parts (states_of w) (list_all is_accepted (opened_in w)) over.others in
      let codes : (q : ℕ) (s : SeatedAt) → seat_of t.seats q ≡ Some s → has_ended (state_of_seat w q s) ≡ true = λ q s at.
      open_ended w q s.steps (seated_want s) (first_open s.ends) (open_none s.ends (λ e. omega (arith, i.once e, one_holds t.seats q s at e)) (over.codes q s at)) in
      parts_done (seats_states t) (list_all is_accepted (opened_in w)) (seats_ended 0 w.parties codes parts.0) parts.1
