-- Where nobody can go on, a party stands by its program or its calls alone.
use Rattle.std.proofs.Common.{◌≡◌, ℕ, suc, ◌+◌, nat_lt, not, Bool, true, false, cond, List, [], ◌∷◌, map, length, slice_get, Option, Some, None, is_some, option_map, refl, ap, sym, ◌∙◌, arith}
use Rattle.sj_base.specs.declared.EndId.{EndId}
use Rattle.sj_lang.specs.Place.{Place}
use Rattle.sj_semantics.specs.declared.Limit.TheVariants as limits
use Rattle.sj_semantics.specs.declared.Passed.{Passed}
use Rattle.sj_semantics.specs.declared.State.TheVariants as states
use Rattle.sj_semantics.specs.Ends.{end_at, next_for}
use Rattle.sj_semantics.specs.Program.{Program}
use Rattle.sj_semantics.specs.Requests.{first_offer, limit_of_requests, opened_number}
use Rattle.sj_semantics.specs.State.{state_if}
use Rattle.sj_semantics.specs.Uses as uses
use Rattle.sj_semantics.specs.World.{World, act_of, begun_by, session_message}
use Rattle.sj_rules.specs.Node as wanted
use Rattle.sj_rules.specs.Node.{Want}
use Rattle.sj_told.specs.declared.told.Stand.{Stand}
use Rattle.sj_told_laws.proofs.StillLemmas.{stands_still}
use Rattle.sj_seat_laws.specs.Calls.{SeatedAt}
use Rattle.sj_seat_laws.specs.Guards.{seated_want}
use Rattle.sj_seat_laws.specs.SeatedPlay.{seated}
use Rattle.sj_seat_laws.specs.SeatedWorld.{Doing, accepting, after_doing, beside, doing_by, doing_of, plain_doing, requesting}
use Rattle.sj_seat_laws.specs.SeatsWorld.{Seats, SeatsWorld, all_beside, player_by, seat_of, seats_act, seats_act_by, with_seat}
use Rattle.sj_seat_told_laws.specs.FirstOpen.{first_open}
use Rattle.sj_seat_told_laws.specs.SeatsStands.{AreSeatsStands, player_state, player_steps, seats_states_from, seats_steps_from, state_by_open, state_calling, state_holding, state_of_seat}
use Rattle.sj_seat_told_laws.specs.StillSeats.{IsStandOf, steps_of_player, still_by_open, still_calling, still_holding, still_player}

-- ---- a party that is played by code

module _ (p : ℕ) (w : World) where
  -- a call that can't be made
  calling : (want : Want Place) → doing_by p w want ≡ None → state_calling w p want ≡ still_calling want
  calling wanted.ended h = refl
  calling wanted.local h = refl
  calling (wanted.sends e m) h = refl
  calling (wanted.closes e) h = refl
  calling (wanted.takes e place) h = by (next_for w.sessions e) h
    where
      by : (o : Option Passed) → ◌≡◌ {A = Option Doing} (option_map (λ (x : Passed). plain_doing (Some x.msg) ((e, uses.takes x.msg) ∷ begun_by place x.msg)) o) None → cond (is_some o) states.Ready (states.Waits e) ≡ states.Waits e
      by None k = refl
      by (Some x) k = cc
  calling (wanted.delegates c e) h = by (nat_lt (end_at w.sessions e).hops 100) h
    where
      by : (b : Bool) → ◌≡◌ {A = Option Doing} (cond b (Some (plain_doing None ((e, uses.delegates) ∷ (c, uses.sends (session_message e p)) ∷ []))) None) None
          → cond b states.Ready (states.AtLimit (limits.Hops e)) ≡ states.AtLimit (limits.Hops e)
      by true k = cc
      by false k = refl
  calling (wanted.requests place to) h = by (nat_lt (length (w.requests p)) limit_of_requests) h
    where
      by : (b : Bool) → ◌≡◌ {A = Option Doing} (cond b (Some (requesting (opened_number p (length (w.requests p))) place to)) None) None → cond b states.Ready (states.AtLimit limits.Requests) ≡ states.AtLimit limits.Requests
      by true k = cc
      by false k = refl
  calling (wanted.accepts place from) h = by (first_offer p (w.requests from)) h
    where
      by : (o : Option ℕ) → ◌≡◌ {A = Option Doing} (option_map (accepting from place) o) None → cond (is_some o) states.Ready (states.WaitsOpen from) ≡ states.WaitsOpen from
      by None k = refl
      by (Some j) k = cc

  by_steps : (b : Bool) (want : Want Place) → cond (not b) None (doing_by p w want) ≡ None → cond b (state_calling w p want) (states.AtLimit limits.Steps) ≡ cond b (still_calling want) (states.AtLimit limits.Steps)
  by_steps true want h = calling want h
  by_steps false want h = refl

  holding : (e : EndId) (steps : ℕ) (want : Want Place) → cond (not (nat_lt steps 10000)) None (doing_by p w want) ≡ None → state_holding w p e steps want ≡ still_holding e steps want
  holding e steps wanted.ended h = refl
  holding e steps wanted.local h = by_steps (nat_lt steps 10000) wanted.local h
  holding e steps (wanted.sends f m) h = by_steps (nat_lt steps 10000) (wanted.sends f m) h
  holding e steps (wanted.delegates c f) h = by_steps (nat_lt steps 10000) (wanted.delegates c f) h
  holding e steps (wanted.takes f place) h = by_steps (nat_lt steps 10000) (wanted.takes f place) h
  holding e steps (wanted.closes f) h = by_steps (nat_lt steps 10000) (wanted.closes f) h
  holding e steps (wanted.requests place to) h = by_steps (nat_lt steps 10000) (wanted.requests place to) h
  holding e steps (wanted.accepts place from) h = by_steps (nat_lt steps 10000) (wanted.accepts place from) h

  by_open : (steps : ℕ) (want : Want Place) (o : Option EndId) → cond (not (nat_lt steps 10000)) None (doing_by p w want) ≡ None → state_by_open w p steps want o ≡ still_by_open steps want o
  by_open steps want None h = refl
  by_open steps want (Some e) h = holding e steps want h

  pub seat_stands_still : (s : SeatedAt) → doing_of p (beside s w) ≡ None → state_of_seat w p s ≡ still_player (seated s)
  seat_stands_still s h = by_open s.steps (seated_want s) (first_open s.ends) h

-- ---- whoever it is

pub no_doing : (f : Doing → SeatsWorld) (o : Option Doing) → ◌≡◌ {A = Option SeatsWorld} (option_map f o) None → o ≡ None
no_doing f None h = refl
no_doing f (Some d) h = cc

pub no_world : (seats : Seats) (o : Option World) → ◌≡◌ {A = Option SeatsWorld} (option_map (all_beside seats) o) None → o ≡ None
no_world seats None h = refl
no_world seats (Some v) h = cc

module _ (t : SeatsWorld) where
  still_by : (p : ℕ) (g : Program) → slice_get t.world.parties p ≡ Some g → (o : Option SeatedAt) → seats_act_by t p o ≡ None → player_state t.world p g o ≡ still_player (player_by o g)
  still_by p g there None h = sym (ap (state_if t.world p) there) ∙ stands_still t.world p g there (no_world t.seats (act_of t.world p) h)
  still_by p g there (Some s) h = seat_stands_still p t.world s (no_doing (λ d. with_seat p t.seats (after_doing p (beside s t.world) d)) (doing_of p (beside s t.world)) h)

  pub player_stands_still : (p : ℕ) (g : Program) → slice_get t.world.parties p ≡ Some g → seats_act t p ≡ None → player_state t.world p g (seat_of t.seats p) ≡ still_player (player_by (seat_of t.seats p) g)
  player_stands_still p g there h = still_by p g there (seat_of t.seats p) h

  steps_by : (g : Program) (o : Option SeatedAt) → player_steps g o ≡ steps_of_player (player_by o g)
  steps_by g None = refl
  steps_by g (Some s) = refl

  pub player_steps_are : (p : ℕ) (g : Program) → player_steps g (seat_of t.seats p) ≡ steps_of_player (player_by (seat_of t.seats p) g)
  player_steps_are p g = steps_by g (seat_of t.seats p)

  -- ---- all of them

  steps_from : (gs : List Program) (stands : List Stand) (p : ℕ) → length stands ≡ length gs
      → ((k : ℕ) (g : Program) (s : Stand) → slice_get gs k ≡ Some g → slice_get stands k ≡ Some s → s.steps ≡ player_steps g (seat_of t.seats (p + k))) → map (λ s. s.steps) stands ≡ seats_steps_from t p gs
  steps_from [] [] p many each = refl
  steps_from [] (s ∷ ss) p many each = absurd (omega (arith, many))
  steps_from (g ∷ gs) [] p many each = absurd (omega (arith, many))
  steps_from (g ∷ gs) (s ∷ ss) p many each =
      let here : p + 0 ≡ p = omega arith in
      let head = each 0 g s refl refl ∙ ap (λ k. player_steps g (seat_of t.seats k)) here in
      let rest = steps_from gs ss (p + 1) (omega (arith, many)) (λ k h x at there. let next : p + suc k ≡ p + 1 + k = omega arith in each (suc k) h x at there ∙ ap (λ j. player_steps h (seat_of t.seats j)) next) in
      ap (λ n. n ∷ map (λ x. x.steps) ss) head ∙ ap (λ ns. player_steps g (seat_of t.seats p) ∷ ns) rest

  states_from : (gs : List Program) (stands : List Stand) (p : ℕ) → length stands ≡ length gs
      → ((k : ℕ) (g : Program) (s : Stand) → slice_get gs k ≡ Some g → slice_get stands k ≡ Some s → s.state ≡ player_state t.world (p + k) g (seat_of t.seats (p + k)))
      → map (λ s. s.state) stands ≡ seats_states_from t p gs
  states_from [] [] p many each = refl
  states_from [] (s ∷ ss) p many each = absurd (omega (arith, many))
  states_from (g ∷ gs) [] p many each = absurd (omega (arith, many))
  states_from (g ∷ gs) (s ∷ ss) p many each =
      let here : p + 0 ≡ p = omega arith in
      let head = each 0 g s refl refl ∙ ap (λ k. player_state t.world k g (seat_of t.seats k)) here in
      let rest = states_from gs ss (p + 1) (omega (arith, many)) (λ k h x at there. let next : p + suc k ≡ p + 1 + k = omega arith in each (suc k) h x at there ∙ ap (λ j. player_state t.world j h (seat_of t.seats j)) next) in
      ap (λ n. n ∷ map (λ x. x.state) ss) head ∙ ap (λ ns. player_state t.world p g (seat_of t.seats p) ∷ ns) rest

  pub stands_are : (stands : List Stand) → length stands ≡ length t.world.parties → ((p : ℕ) → seats_act t p ≡ None)
      → ((p : ℕ) (g : Program) (s : Stand) → slice_get t.world.parties p ≡ Some g → slice_get stands p ≡ Some s → IsStandOf (player_by (seat_of t.seats p) g) s) → AreSeatsStands t stands
  stands_are stands many none each = record {
    steps = steps_from t.world.parties stands 0 many (λ k g s at there. (each k g s at there).steps ∙ sym (player_steps_are k g) ∙ ap (λ j. player_steps g (seat_of t.seats j)) (from_zero k));
    states = states_from t.world.parties stands 0 many (λ k g s at there. (each k g s at there).state ∙ sym (player_stands_still k g at (none k)) ∙ ap (λ j. player_state t.world j g (seat_of t.seats j)) (from_zero k));
  }
    where
      from_zero : (k : ℕ) → k ≡ 0 + k
      from_zero k = omega arith
