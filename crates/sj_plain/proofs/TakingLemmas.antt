-- What a ready party's next step can do.
use Rattle.std.proofs.Common.{◌≡◌, ℕ, nat_lt, Bool, true, false, cond, List, Option, Some, None, length, option_map, is_some, unwrap_or, refl, ap, sym, ◌∙◌}
use Rattle.sj_base.specs.declared.EndId.{EndId}
use Rattle.sj_table.specs.declared.table.Table.{Table}
use Rattle.sj_lang.specs.FileAt.{body_named}
use Rattle.sj_semantics.specs.declared.Awaits.{Awaits}
use Rattle.sj_semantics.specs.declared.Opened.{Opened}
use Rattle.sj_semantics.specs.declared.Passed.{Passed}
use Rattle.sj_semantics.specs.declared.Limit.TheVariants as limits
use Rattle.sj_semantics.specs.declared.State.TheVariants as states
use Rattle.sj_semantics.specs.declared.Want.{Want}
use Rattle.sj_semantics.specs.declared.Want.TheVariants as wants
use Rattle.sj_semantics.specs.Ends.{next_for}
use Rattle.sj_semantics.specs.Program.{Program}
use Rattle.sj_semantics.specs.Requests.{first_offer, opened_number}
use Rattle.sj_semantics.specs.State.{state_by, state_wanting, state_wanting_if, state_of_program}
use Rattle.sj_semantics.specs.Wants.{want_of}
use Rattle.sj_semantics.specs.World.{World, Change, change_by, change_by_accepting, change_by_opening, change_by_taking}
use Rattle.sj_semantics_laws.proofs.ChangeLemmas.{from_rests}
use Rattle.sj_semantics_laws.proofs.StateLemmas.{below_if}
use Rattle.sj_plain.specs.declared.ends.Session.{Session as Lying}
use Rattle.sj_plain.specs.Opened.{requests_in}
use Rattle.sj_plain.specs.Stepping.{Makes, after_change, next_move, sessions_at, world_around}

-- the steps that are left, what the party wants, and that it can do that
pub record CanDo (w : World) (p : ℕ) (g : Program) (want : Want) : Type 0 where
  pub steps_left : nat_lt g.steps 10000 ≡ true
  pub wants_it : want_of g ≡ Some want
  pub ready : state_by w p want ≡ states.Ready

ready_by : (w : World) (p : ℕ) (steps : ℕ) (want : Want) → state_wanting w p steps want ≡ states.Ready → (nat_lt steps 10000 ≡ true) × (state_by w p want ≡ states.Ready)
ready_by w p steps wants.Ended h = cc
ready_by w p steps wants.Local h = below_if (nat_lt steps 10000) (state_by w p wants.Local) h
ready_by w p steps (wants.Send e m) h = below_if (nat_lt steps 10000) (state_by w p (wants.Send e m)) h
ready_by w p steps (wants.Delegate e y) h = below_if (nat_lt steps 10000) (state_by w p (wants.Delegate e y)) h
ready_by w p steps (wants.Take e a) h = below_if (nat_lt steps 10000) (state_by w p (wants.Take e a)) h
ready_by w p steps (wants.Close e) h = below_if (nat_lt steps 10000) (state_by w p (wants.Close e)) h
ready_by w p steps (wants.Request n q) h = below_if (nat_lt steps 10000) (state_by w p (wants.Request n q)) h
ready_by w p steps (wants.Accept n q) h = below_if (nat_lt steps 10000) (state_by w p (wants.Accept n q)) h

can_do_if : (w : World) (p : ℕ) (g : Program) (want : Want) (o : Option Want) → want_of g ≡ o → state_wanting_if w p g.steps o ≡ states.Ready → want ≡ unwrap_or o wants.Ended → CanDo w p g want
can_do_if w p g want None h ready it = cc
can_do_if w p g want (Some v) h ready it =
    let r = ready_by w p g.steps want (ap (state_wanting w p g.steps) it ∙ ready) in
    record { steps_left = r.0; wants_it = h ∙ ap Some (sym it); ready = r.1 }

pub can_do : (w : World) (p : ℕ) (g : Program) (want : Want) → state_of_program w p g ≡ states.Ready → want ≡ unwrap_or (want_of g) wants.Ended → CanDo w p g want
can_do w p g want ready it = can_do_if w p g want (want_of g) refl ready it

-- the move that the party's change makes
moves_by : (w : World) (p : ℕ) (g : Program) (want : Want) (c : Change) → CanDo w p g want → change_by w p g want ≡ Some c → next_move p w g ≡ Some (after_change p w c)
moves_by w p g want c can made = ap (option_map (after_change p w)) (from_rests w p g c (record { steps_left = can.steps_left; want = want; wants_it = can.wants_it; by_it = made }))

moves_on : (t : Table) (zs ys : List Lying) (old new : List Opened) (p : ℕ) (g h : Program) (c : Change) → Makes t p c zs ys old new h → after_change p (world_around t zs old) c ≡ (h, sessions_at t ys, requests_in new)
moves_on t zs ys old new p g h c made = λ i. (sym made.program i, sym made.sessions i, λ q. sym (made.requests q) i)

pub moves : (t : Table) (zs ys : List Lying) (old new : List Opened) (p : ℕ) (g h : Program) (want : Want) (c : Change) → CanDo (world_around t zs old) p g want → change_by (world_around t zs old) p g want ≡ Some c → Makes t p c zs ys old new h
    → next_move p (world_around t zs old) g ≡ Some (h, sessions_at t ys, requests_in new)
moves t zs ys old new p g h want c can by made = moves_by (world_around t zs old) p g want c can by ∙ ap Some (moves_on t zs ys old new p g h c made)

-- ---- a message is there, a request is left, and a session is offered

message_if : (o : Option Passed) (e : EndId) → cond (is_some o) states.Ready (states.Waits e) ≡ states.Ready → (x : Passed) × (o ≡ Some x)
message_if None e h = cc
message_if (Some x) e h = (x, refl)

pub message_there : (w : World) (p : ℕ) (g : Program) (e : EndId) (a : Awaits) → CanDo w p g (wants.Take e a) → (x : Passed) × (next_for w.sessions e ≡ Some x)
message_there w p g e a can = message_if (next_for w.sessions e) e can.ready

request_if : (b : Bool) → cond b states.Ready (states.AtLimit limits.Requests) ≡ states.Ready → b ≡ true
request_if true h = refl
request_if false h = cc

pub request_left : (w : World) (p : ℕ) (g : Program) (n q : ℕ) → CanDo w p g (wants.Request n q) → nat_lt (length (w.requests p)) 100 ≡ true
request_left w p g n q can = request_if (nat_lt (length (w.requests p)) 100) can.ready

offer_if : (o : Option ℕ) (q : ℕ) → cond (is_some o) states.Ready (states.WaitsOpen q) ≡ states.Ready → (k : ℕ) × (o ≡ Some k)
offer_if None q h = cc
offer_if (Some k) q h = (k, refl)

pub offer_there : (w : World) (p : ℕ) (g : Program) (n q : ℕ) → CanDo w p g (wants.Accept n q) → (k : ℕ) × (first_offer p (w.requests q) ≡ Some k)
offer_there w p g n q can = offer_if (first_offer p (w.requests q)) q can.ready

-- ---- the changes

pub taking : (w : World) (p : ℕ) (g : Program) (e : EndId) (a : Awaits) (x : Passed) → next_for w.sessions e ≡ Some x → change_by w p g (wants.Take e a) ≡ Some (change_by_taking w.protocols g e a x)
taking w p g e a x there = ap (option_map (change_by_taking w.protocols g e a)) there

pub opening : (w : World) (p : ℕ) (g : Program) (n q : ℕ) → nat_lt (length (w.requests p)) 100 ≡ true → change_by w p g (wants.Request n q) ≡ Some (change_by_opening g (opened_number p (length (w.requests p))) (body_named w.protocols n) q)
opening w p g n q few = ap (λ (b : Bool). cond b (Some (change_by_opening g (opened_number p (length (w.requests p))) (body_named w.protocols n) q)) None) few

pub accepting : (w : World) (p : ℕ) (g : Program) (n q k : ℕ) → first_offer p (w.requests q) ≡ Some k → change_by w p g (wants.Accept n q) ≡ Some (change_by_accepting g q (body_named w.protocols n) k)
accepting w p g n q k there = ap (option_map (change_by_accepting g q (body_named w.protocols n))) there
