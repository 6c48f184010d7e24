-- A party can act exactly where it is ready.
use Rattle.std.proofs.Common.{◌≡◌, ℕ, nat_lt, Bool, true, false, cond, [], ◌∷◌, slice_get, length, Option, Some, None, option_map, is_some, refl, ap, ◌∙◌}
use Rattle.sj_base.specs.declared.EndId.{EndId}
use Rattle.sj_semantics.specs.declared.Want.{Want}
use Rattle.sj_semantics.specs.declared.Want.TheVariants as wants
use Rattle.sj_semantics.specs.declared.Passed.{Passed}
use Rattle.sj_semantics.specs.declared.State.{State}
use Rattle.sj_semantics.specs.declared.State.TheVariants as states
use Rattle.sj_semantics.specs.Program.{Program}
use Rattle.sj_semantics.specs.Wants.{want_of}
use Rattle.sj_semantics.specs.Steps.{local_of, sent_of, closed_of}
use Rattle.sj_semantics.specs.Ends.{end_at, next_for}
use Rattle.sj_semantics.specs.Uses.{sends, delegates}
use Rattle.sj_semantics.specs.World.{World, Change, plain_change, session_message, change_by_taking, change_by_opening, change_by_accepting, change_by, changed_world, act_of}
use Rattle.sj_semantics.specs.Requests.{first_offer, opened_number}
use Rattle.sj_semantics.specs.declared.Limit.{Limit}
use Rattle.sj_semantics.specs.declared.Limit.TheVariants as limits
use Rattle.sj_lang.specs.FileAt.{body_named}
use Rattle.sj_semantics.specs.State.{state_wanting, state_wanting_if, state_if, state_of}
use Rattle.sj_semantics_laws.proofs.ChangeLemmas.{rests_on, from_rests}
use Rattle.sj_semantics_laws.proofs.CommuteLemmas.{doing_of, act_from}

pub when_below : (b : Bool) (s t : State) → b ≡ true → cond b s t ≡ s
when_below true s t h = refl
when_below false s t h = cc

limited_ready : (b : Bool) (c d : Change) (l : Limit) → cond b (Some c) None ≡ Some d → cond b states.Ready (states.AtLimit l) ≡ states.Ready
limited_ready true c d l h = refl
limited_ready false c d l h = cc

option_ready : {X : Type 0} (f : X → Change) (t : State) (d : Change) (o : Option X) → option_map f o ≡ Some d → cond (is_some o) states.Ready t ≡ states.Ready
option_ready f t d None h = cc
option_ready f t d (Some x) h = refl

want_ready : (w : World) (p : ℕ) (g : Program) (d : Change) (want : Want) → nat_lt g.steps 10000 ≡ true → change_by w p g want ≡ Some d → state_wanting w p g.steps want ≡ states.Ready
want_ready w p g d wants.Ended below h = cc
want_ready w p g d wants.Local below h = when_below (nat_lt g.steps 10000) states.Ready (states.AtLimit limits.Steps) below
want_ready w p g d (wants.Send e m) below h = when_below (nat_lt g.steps 10000) states.Ready (states.AtLimit limits.Steps) below
want_ready w p g d (wants.Close e) below h = when_below (nat_lt g.steps 10000) states.Ready (states.AtLimit limits.Steps) below
want_ready w p g d (wants.Delegate e y) below h =
    when_below (nat_lt g.steps 10000) (cond (nat_lt (end_at w.sessions y).hops 100) states.Ready (states.AtLimit (limits.Hops y))) (states.AtLimit limits.Steps) below
    ∙ limited_ready (nat_lt (end_at w.sessions y).hops 100) (plain_change (sent_of g) ((y, delegates) ∷ (e, sends (session_message y p)) ∷ [])) d (limits.Hops y) h
want_ready w p g d (wants.Take e a) below h =
    when_below (nat_lt g.steps 10000) (cond (is_some (next_for w.sessions e)) states.Ready (states.Waits e)) (states.AtLimit limits.Steps) below
    ∙ option_ready (change_by_taking w.protocols g e a) (states.Waits e) d (next_for w.sessions e) h
want_ready w p g d (wants.Request n q) below h =
    when_below (nat_lt g.steps 10000) (cond (nat_lt (length (w.requests p)) 100) states.Ready (states.AtLimit limits.Requests)) (states.AtLimit limits.Steps) below
    ∙ limited_ready (nat_lt (length (w.requests p)) 100) (change_by_opening g (opened_number p (length (w.requests p))) (body_named w.protocols n) q) d limits.Requests h
want_ready w p g d (wants.Accept n q) below h =
    when_below (nat_lt g.steps 10000) (cond (is_some (first_offer p (w.requests q))) states.Ready (states.WaitsOpen q)) (states.AtLimit limits.Steps) below
    ∙ option_ready (change_by_accepting g q (body_named w.protocols n)) (states.WaitsOpen q) d (first_offer p (w.requests q)) h

pub act_is_ready : (w v : World) (p : ℕ) → act_of w p ≡ Some v → state_of w p ≡ states.Ready
act_is_ready w v p h =
    let a = doing_of w p v h in
    let r = rests_on w p a.program a.change a.made in
    ap (state_if w p) a.there ∙ ap (state_wanting_if w p a.program.steps) r.wants_it ∙ want_ready w p a.program a.change r.want r.steps_left r.by_it

-- ---- the other way

record Makes (w : World) (p : ℕ) (g : Program) (want : Want) : Type 0 where
  change : Change
  by_it : change_by w p g want ≡ Some change

makes_if : (b : Bool) (c : Change) (w : World) (p : ℕ) (g : Program) (want : Want) (l : Limit) → change_by w p g want ≡ cond b (Some c) None → cond b states.Ready (states.AtLimit l) ≡ states.Ready → Makes w p g want
makes_if true c w p g want l h ready = record { change = c; by_it = h }
makes_if false c w p g want l h ready = cc

taking_makes : (w : World) (p : ℕ) (g : Program) (want : Want) (e : EndId) (f : Passed → Change) (o : Option Passed) → change_by w p g want ≡ option_map f o → cond (is_some o) states.Ready (states.Waits e) ≡ states.Ready → Makes w p g want
taking_makes w p g want e f None h ready = cc
taking_makes w p g want e f (Some x) h ready = record { change = f x; by_it = h }

accepting_makes : (w : World) (p : ℕ) (g : Program) (want : Want) (q : ℕ) (f : ℕ → Change) (o : Option ℕ) → change_by w p g want ≡ option_map f o → cond (is_some o) states.Ready (states.WaitsOpen q) ≡ states.Ready → Makes w p g want
accepting_makes w p g want q f None h ready = cc
accepting_makes w p g want q f (Some k) h ready = record { change = f k; by_it = h }

pub below_if : (b : Bool) (s : State) → cond b s (states.AtLimit limits.Steps) ≡ states.Ready → (b ≡ true) × (s ≡ states.Ready)
below_if true s h = (refl, h)
below_if false s h = cc

-- a want that isn't to end
abbrev Waiting : World → ℕ → Program → Want → Type 0
Waiting w p g want = (nat_lt g.steps 10000 ≡ true) × Makes w p g want

want_makes : (w : World) (p : ℕ) (g : Program) (want : Want) → state_wanting w p g.steps want ≡ states.Ready → Waiting w p g want
want_makes w p g wants.Ended ready = cc
want_makes w p g wants.Local ready = ((below_if (nat_lt g.steps 10000) states.Ready ready).0, record { change = plain_change (local_of g) []; by_it = refl })
want_makes w p g (wants.Send e m) ready = ((below_if (nat_lt g.steps 10000) states.Ready ready).0, record { change = plain_change (sent_of g) ((e, sends m) ∷ []); by_it = refl })
want_makes w p g (wants.Close e) ready = ((below_if (nat_lt g.steps 10000) states.Ready ready).0, record { change = plain_change (closed_of g) []; by_it = refl })
want_makes w p g (wants.Delegate e y) ready =
    let b = below_if (nat_lt g.steps 10000) (cond (nat_lt (end_at w.sessions y).hops 100) states.Ready (states.AtLimit (limits.Hops y))) ready in
    (b.0, makes_if (nat_lt (end_at w.sessions y).hops 100) (plain_change (sent_of g) ((y, delegates) ∷ (e, sends (session_message y p)) ∷ [])) w p g (wants.Delegate e y) (limits.Hops y) refl b.1)
want_makes w p g (wants.Take e a) ready =
    let b = below_if (nat_lt g.steps 10000) (cond (is_some (next_for w.sessions e)) states.Ready (states.Waits e)) ready in
    (b.0, taking_makes w p g (wants.Take e a) e (change_by_taking w.protocols g e a) (next_for w.sessions e) refl b.1)
want_makes w p g (wants.Request n q) ready =
    let b = below_if (nat_lt g.steps 10000) (cond (nat_lt (length (w.requests p)) 100) states.Ready (states.AtLimit limits.Requests)) ready in
    (b.0, makes_if (nat_lt (length (w.requests p)) 100) (change_by_opening g (opened_number p (length (w.requests p))) (body_named w.protocols n) q) w p g (wants.Request n q) limits.Requests refl b.1)
want_makes w p g (wants.Accept n q) ready =
    let b = below_if (nat_lt g.steps 10000) (cond (is_some (first_offer p (w.requests q))) states.Ready (states.WaitsOpen q)) ready in
    (b.0, accepting_makes w p g (wants.Accept n q) q (change_by_accepting g q (body_named w.protocols n)) (first_offer p (w.requests q)) refl b.1)

program_makes : (w : World) (p : ℕ) (g : Program) (o : Option Want) → slice_get w.parties p ≡ Some g → want_of g ≡ o → state_wanting_if w p g.steps o ≡ states.Ready → (v : World) × (act_of w p ≡ Some v)
program_makes w p g None there wants_it ready = cc
program_makes w p g (Some want) there wants_it ready =
    let m = want_makes w p g want ready in
    (changed_world w p m.1.change, act_from w p g m.1.change there (from_rests w p g m.1.change (record { steps_left = m.0; want = want; wants_it = wants_it; by_it = m.1.by_it })))

ready_by : (w : World) (p : ℕ) (o : Option Program) → slice_get w.parties p ≡ o → state_if w p o ≡ states.Ready → (v : World) × (act_of w p ≡ Some v)
ready_by w p None there ready = cc
ready_by w p (Some g) there ready = program_makes w p g (want_of g) there refl ready

pub ready_can_act : (w : World) (p : ℕ) → state_of w p ≡ states.Ready → (v : World) × (act_of w p ≡ Some v)
ready_can_act w p ready = ready_by w p (slice_get w.parties p) refl ready
