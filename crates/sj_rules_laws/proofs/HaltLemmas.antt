-- In a kept and lawful world a party acts exactly where no cause keeps it from it.
use Rattle.std.proofs.Common.{◌≡◌, ℕ, ◌+◌, ◌<◌, nat_lt, Bool, true, false, not, ◌&&◌, cond, if◌then◌else◌, List, [], ◌∷◌, ◌++◌, slice_get, Option, Some, None, option_map, refl, ap, sym, ◌∙◌}
use Rattle.std.proofs.lemmas.Bool.{and_from, eq-eqb, true≢false, false_from_ne_true, both_ways}
use Rattle.sj_base.specs.declared.EndId.{EndId}
use Rattle.sj_base.specs.declared.Msg.{Msg}
use Rattle.sj_base.specs.declared.Msg.TheVariants as msgs
use Rattle.sj_lang.specs.declared.proto.Way.TheVariants.{Out, Into}
use Rattle.sj_rules.specs.Record.{Fin, HeldAt, MainAt, Held, Closed, Expected, Parked, other_end, offered_end}
use Rattle.sj_rules.specs.Rows.{Worked}
use Rattle.sj_rules.specs.Node.{Want, ended, local, sends, delegates, takes, closes, requests, accepts, Play, NodeAt, with_main, with_old, put, work_of_take, held_behind_take, is_free, send_act, delegate_act, take_act, take_from, close_act, act_by, acts}
use Rattle.sj_rules.specs.World.{WorldAt, after_event}
use Rattle.sj_rules.specs.Seat.{Seat, held, parked, claimed, signalled, given, closed, gone, source_for}
use Rattle.sj_rules.specs.PlainSide.{PlainAt}
use Rattle.sj_rules.specs.Linked.{user_of, IsKept}
use Rattle.sj_rules.specs.HeldStands.{HeldStands}
use Rattle.sj_rules.specs.Premises.{FitsDelegate, FitsTake, FitsClose, FitsStep, IsLawful}
use Rattle.sj_rules.specs.Halts.{Halt, awaits, delegated_enough, no_message, requested_enough, no_offer, is_expected, is_delegated_enough, lacks_message, is_empty, halt_if, halt_by, is_at_end, halt_of}
use Rattle.sj_rules.specs.Worked.{mails_of}
use Rattle.sj_rules_laws.proofs.CoreActLemmas.{Has, has_by, has_map, map_has}
use Rattle.std.specs.Bool.{⊤}
use Rattle.sj_rules.specs.Limits.{limit_of_requests}
use Rattle.sj_rules.specs.Opened.{opened_in}
use Rattle.sj_rules.specs.Shown.{bodies}
use Rattle.sj_rules.specs.Reading.{is_opening, reading, IsOpenKept}
use Rattle.sj_rules.specs.Acts.{plain_accepted}
use Rattle.sj_rules.specs.Moves.{with_side, with_opened, with_program}
use Rattle.sj_opened_lemmas.proofs.OpenStandsLemmas.{opening_stands}
use Rattle.sj_opened_lemmas.proofs.AcceptKeepLemmas.{accept_keeps}
use Rattle.sj_rules_laws.proofs.PlainActsLemmas.{gives_accept}
use Rattle.sj_rules_laws.proofs.KeptLemmas.{kept_stands}
use Rattle.sj_rules_laws.proofs.QuietWorldLemmas.{main_at, open_free_by}

-- an end that a party binds is Held there, or awaited
data BoundMain {P : Type 0} (o : Option (MainAt P)) : Type 0 where
  is_held : (h : HeldAt P) → o ≡ Some (Held h) → BoundMain o
  is_awaited : is_expected o ≡ true → BoundMain o

-- the want is no accept
abbrev AcceptsNothing : {P : Type 0} → Want P → Type 0
AcceptsNothing ended = ⊤
AcceptsNothing local = ⊤
AcceptsNothing (sends e m) = ⊤
AcceptsNothing (delegates carrier e) = ⊤
AcceptsNothing (takes e place) = ⊤
AcceptsNothing (closes e) = ⊤
AcceptsNothing (requests place to) = ⊤
AcceptsNothing (accepts place from) = ⊥

no_halt : (b : Bool) (h : Halt) (rest : Option Halt) → halt_if b h rest ≡ None → (b ≡ false) × (rest ≡ None)
no_halt true h rest k = cc
no_halt false h rest k = (refl, k)

is_below : (b : Bool) → not b ≡ false → b ≡ true
is_below true k = refl
is_below false k = cc

module _ {P Q : Type 0} (IsOver : P → Type 0) (play : Play P Q) (binds : Q → EndId → Bool) (parties : ℕ) (core : WorldAt P Q) (plain : PlainAt P Q)
    (opened : IsOpenKept IsOver binds play.blank core plain) (lawful : IsLawful IsOver play binds parties plain) (p : ℕ) where
  abbrev n : NodeAt P Q
  n = core.nodes p

  abbrev u : WorldAt P Q
  u = reading play.blank core

  abbrev kept : IsKept IsOver binds u plain
  kept = opened.kept

  abbrev g : Q
  g = plain.programs p

  bound_by : (e : EndId) → e.side < 2 → (seat : Seat P) → (kept.sessions.sides e).seat ≡ seat → user_of seat ≡ Some p → BoundMain ((u.nodes p).main e)
  bound_by e lt (held at h) is user =
      let it : p ≡ at = (let s : at ≡ p = cc in sym s) in
      is_held h (main_at IsOver binds u plain kept p e lt (held at h) is ∙ ap (λ (b : Bool). cond b (Some (Held h)) None) (eq-eqb p at it))
  bound_by e lt (claimed at to k) is user =
      let it : p ≡ to = (let s : to ≡ p = cc in sym s) in
      is_awaited (ap is_expected (main_at IsOver binds u plain kept p e lt (claimed at to k) is ∙ ap (λ (b : Bool). cond b (Some (Expected at (kept.sessions.sides e).place [])) None) (eq-eqb p to it)))
  bound_by e lt (signalled at to k ds) is user =
      let it : p ≡ to = (let s : to ≡ p = cc in sym s) in
      let from : ℕ = source_for (kept.sessions.sides (other_end e)).seat (signalled at to k ds) in
      is_awaited (ap is_expected (main_at IsOver binds u plain kept p e lt (signalled at to k ds) is
      ∙ ap (λ (b : Bool). cond b (Some (Expected at (kept.sessions.sides e).place (mails_of from ds))) None) (eq-eqb p to it)))
  bound_by e lt (given at to k resend ds) is user =
      let it : p ≡ to = (let s : to ≡ p = cc in sym s) in
      let from : ℕ = source_for (kept.sessions.sides (other_end e)).seat (given at to k resend ds) in
      is_awaited (ap is_expected (main_at IsOver binds u plain kept p e lt (given at to k resend ds) is
      ∙ ap (λ (b : Bool). cond b (Some (Expected at (kept.sessions.sides e).place (mails_of from ds))) None) (eq-eqb p to it)))
  bound_by e lt (parked at k) is user = cc
  bound_by e lt (closed at k) is user = cc
  bound_by e lt gone is user = cc

  accepted : (e : EndId) → binds g e ≡ true → (plain.sides e).offered ≡ false
  accepted e b = false_from_ne_true (plain.sides e).offered (λ o. both_ways (binds g e) (lawful.unbound p e o) b)

  -- an accepted end is in no Open
  there_now : (e : EndId) → binds g e ≡ true → is_opening core p e ≡ false
  there_now e b = false_from_ne_true (is_opening core p e) (λ o.
      both_ways (plain.sides e).offered (accepted e b) (opening_stands IsOver binds play.blank core plain opened p e o).offered)

  -- where it isn't awaited, it is Held
  pub held_here : (e : EndId) → binds g e ≡ true → is_expected (n.main e) ≡ false → (h : HeldAt P) × (n.main e ≡ Some (Held h)) × HeldStands plain e h
  held_here e b free = by (bound_by e lt (kept.sessions.sides e).seat refl ((kept.bound p e lt (accepted e b)).0 b))
    where
      lt : e.side < 2
      lt = (lawful.proper p e b).0

      same : (u.nodes p).main e ≡ n.main e
      same = rw (there_now e b) refl

      by : BoundMain ((u.nodes p).main e) → (h : HeldAt P) × (n.main e ≡ Some (Held h)) × HeldStands plain e h
      by (is_held h there) = (h, sym same ∙ there, kept_stands IsOver binds u plain kept p e h lt (accepted e b) there)
      by (is_awaited waits) = absurd (true≢false (sym waits ∙ ap is_expected same ∙ free))

  send_on : (n' : NodeAt P Q) (e : EndId) (m : Msg) (o : Option (MainAt P)) (h : HeldAt P) (place : P) → o ≡ Some (Held h) → HeldStands plain e h → play.next (plain.sides e).place Out m ≡ Some place → Has (send_act play n' e m o)
  send_on n' e m o h place there stands next =
      has_by (send_act play n' e m o) (send_act play n' e m (Some (Held h))) (ap (send_act play n' e m) there)
      (has_map _ (play.next h.end.place Out m) (record { some = place; is = ap (λ q. play.next q Out m) stands.place ∙ next }))

  delegate_on : (carrier e : EndId) → FitsDelegate IsOver play binds plain p g carrier e → halt_by n (delegates carrier e) ≡ None → Has (act_by play p n (delegates carrier e))
  delegate_on carrier e fit k =
      let first = no_halt (is_expected (n.main carrier)) (awaits carrier) _ k in
      let second = no_halt (is_expected (n.main e)) (awaits e) _ first.1 in
      let third = no_halt (is_delegated_enough (n.main e)) (delegated_enough e) None second.1 in
      let own = held_here e fit.handed second.0 in
      let on = held_here carrier fit.bound first.0 in
      let few : nat_lt own.0.end.hops 100 ≡ true = is_below (nat_lt own.0.end.hops 100) (sym (ap is_delegated_enough own.1) ∙ third.0) in
      let parked : NodeAt P Q = with_main e None (with_old e (Some (Parked (record own.0.end { hops = own.0.end.hops + 1 }))) n) in
      has_by (delegate_act play p n carrier e (n.main e)) (send_act play parked carrier (msgs.Sess e.sess e.side p) (put e None n.main carrier))
      (ap (delegate_act play p n carrier e) own.1
      ∙ ap (λ (b : Bool). cond b (send_act play parked carrier (msgs.Sess e.sess e.side p) (put e None n.main carrier)) None) few)
      (send_on parked carrier (msgs.Sess e.sess e.side p) (put e None n.main carrier) on.0 fit.place
      (ap (λ (b : Bool). cond b None (n.main carrier)) fit.apart ∙ on.1) on.2 fit.after)

  take_on : (e : EndId) (place : P) → FitsTake play binds plain g e place → halt_by n (takes e place) ≡ None → Has (act_by play p n (takes e place))
  take_on e place fit k =
      let first = no_halt (is_expected (n.main e)) (awaits e) _ k in
      let second = no_halt (lacks_message (n.main e)) (no_message e) None first.1 in
      let own = held_here e fit.bound first.0 in
      has_by (take_act play n e place (n.main e)) (take_from play n e place own.0 own.0.untaken) (ap (take_act play n e place) own.1)
      (by own.0 own.2 own.0.untaken refl (sym (ap lacks_message own.1) ∙ second.0))
    where
      by : (h : HeldAt P) → HeldStands plain e h → (ms : List Msg) → h.untaken ≡ ms → is_empty ms ≡ false → Has (take_from play n e place h ms)
      by h stands [] head filled = cc
      by h stands (m ∷ ms) head filled =
          let waits = ap (λ xs. slice_get xs 0) (stands.waits ∙ ap (λ t. t ++ stands.rest) head) in
          let fits = fit.head m waits in
          let test : (play.fits n.program m && is_free n m) ≡ true =
          and_from (play.fits n.program m) (is_free n m) (ap (λ x. play.fits x m) (kept.programs p) ∙ fits.fits) (open_free_by IsOver binds play.blank core plain opened p e (lawful.proper p e fit.bound).0 m waits) in
          let after = λ (q : P). work_of_take place m (with_main e (Some (Held (held_behind_take h ms q))) (record n { program = play.goes n.program (Some m) })) in
          has_by (take_from play n e place h (m ∷ ms)) (option_map after (play.next h.end.place Into m))
          (ap (λ (t : Bool). cond t (option_map after (play.next h.end.place Into m)) None) test)
          (has_map after (play.next h.end.place Into m) (record { some = fits.place; is = ap (λ q. play.next q Into m) stands.place ∙ fits.after }))

  close_on : (e : EndId) → FitsClose IsOver play binds plain g e → halt_by n (closes e) ≡ None → Has (act_by play p n (closes e))
  close_on e fit k =
      let own = held_here e fit.bound (no_halt (is_expected (n.main e)) (awaits e) None k).0 in
      let closed : NodeAt P Q = with_main e (if own.0.fin then None else Some (Closed own.0.end)) (record n { program = play.goes n.program None }) in
      let done : Worked P (NodeAt P Q) = record { state = closed; posts = record { party = own.0.end.peer; body = Fin (other_end own.0.end.id) own.0.end.conn own.0.end.sent } ∷ [] } in
      has_by (close_act play n e (n.main e)) (Some done)
      (ap (close_act play n e) own.1 ∙ ap (λ (b : Bool). cond b (Some done) None) (ap play.is_over own.2.place ∙ fit.is_over))
      (record { some = done; is = refl })

  -- an act that accepts nothing
  step_on : (want : Want P) → FitsStep IsOver play binds plain p g want → halt_by n want ≡ None → AcceptsNothing want → Has (act_by play p n want)
  step_on ended fit k other = cc
  step_on local fit k other = record { some = _; is = refl }
  step_on (sends e m) fit k other = let own = held_here e fit.bound (no_halt (is_expected (n.main e)) (awaits e) None k).0 in send_on n e m (n.main e) own.0 fit.place own.1 own.2 fit.after
  step_on (delegates carrier e) fit k other = delegate_on carrier e fit k
  step_on (takes e place) fit k other = take_on e place fit k
  step_on (closes e) fit k other = close_on e fit k
  step_on (requests place to) fit k other =
      let few : nat_lt n.requests limit_of_requests ≡ true =
      is_below (nat_lt n.requests limit_of_requests) (no_halt (not (nat_lt n.requests limit_of_requests)) requested_enough None k).0 in
      rw few (record { some = _; is = refl })
  step_on (accepts place from) fit k other = absurd other

  -- the first session that is offered is accepted
  accept_acts : (place : P) (from : ℕ) → play.wants g ≡ accepts place from → play.is_worn g ≡ false → (l : List ℕ) → n.offers from ≡ l → is_empty l ≡ false → Has (acts play p n)
  accept_acts place from is fresh [] there filled = absurd (cc filled)
  accept_acts place from is fresh (s ∷ others) there filled =
      let rest : List ℕ = opened_in (bodies (core.lanes from p)) in
      let first : plain.offers from p ≡ s ∷ (others ++ rest) = sym (opened.offers from p) ∙ ap (λ l. l ++ rest) there in
      let facts = gives_accept IsOver play binds parties plain lawful p place from s (others ++ rest) is first in
      let next : PlainAt P Q = with_side (offered_end s) (λ x. plain_accepted x place) (with_opened from p (others ++ rest) (with_program p (play.opened g (offered_end s)) plain)) in
      let k = accept_keeps IsOver binds play core plain next opened p fresh place from s (others ++ rest) is facts others there (λ old told. old) in
      map_has (after_event core p (n.clock + 1) core.lanes) (acts play p n) k.0 k.1

  -- the act by a want is the party's act
  acts_by_want : (want : Want P) → play.wants g ≡ want → play.is_worn g ≡ false → Has (act_by play p n want) → Has (acts play p n)
  acts_by_want want is fresh has =
      has_by (acts play p n) (act_by play p n want)
      (ap (λ x. cond (play.is_worn x) None (act_by play p n (play.wants x))) (kept.programs p) ∙ ap (λ (b : Bool). cond b None (act_by play p n (play.wants g))) fresh ∙ ap (act_by play p n) is) has

  wants_on : (want : Want P) → play.wants g ≡ want → play.is_worn g ≡ false → FitsStep IsOver play binds plain p g want → halt_by n want ≡ None → Has (acts play p n)
  wants_on ended is fresh fit k = cc
  wants_on local is fresh fit k = acts_by_want local is fresh (step_on local fit k tt)
  wants_on (sends e m) is fresh fit k = acts_by_want (sends e m) is fresh (step_on (sends e m) fit k tt)
  wants_on (delegates carrier e) is fresh fit k = acts_by_want (delegates carrier e) is fresh (step_on (delegates carrier e) fit k tt)
  wants_on (takes e place) is fresh fit k = acts_by_want (takes e place) is fresh (step_on (takes e place) fit k tt)
  wants_on (closes e) is fresh fit k = acts_by_want (closes e) is fresh (step_on (closes e) fit k tt)
  wants_on (requests place to) is fresh fit k = acts_by_want (requests place to) is fresh (step_on (requests place to) fit k tt)
  wants_on (accepts place from) is fresh fit k = accept_acts place from is fresh (n.offers from) refl (no_halt (is_empty (n.offers from)) (no_offer from) None k).0

  -- where no cause keeps it from it, the party acts: nothing is ever unfit
  pub acts_unless_halted : halt_of play n ≡ None → Has (acts play p n)
  acts_unless_halted k =
      let first = no_halt (is_at_end (play.wants n.program)) _ _ k in
      let second = no_halt (play.is_worn n.program) _ _ first.1 in
      wants_on (play.wants g) refl (ap play.is_worn (sym (kept.programs p)) ∙ second.0) (lawful.steps p) (sym (ap (λ x. halt_by n (play.wants x)) (kept.programs p)) ∙ second.1)
