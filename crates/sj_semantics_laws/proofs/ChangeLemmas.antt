-- The change that a step makes, and what it rests on.
use Rattle.std.proofs.Common.{◌≡◌, ℕ, nat_lt, Bool, true, false, cond, List, [], ◌∷◌, length, Option, Some, None, option_map, option_and_then, refl, ap, sym, ◌∙◌, subst, inl, inr}
use Rattle.std.specs.Bool.{⊤}
use Rattle.std.proofs.lemmas.Bool.{cases_Bool}
use Rattle.sj_base.specs.declared.EndId.{EndId}
use Rattle.sj_base.specs.declared.Msg.{Msg}
use Rattle.sj_base.specs.declared.Msg.TheVariants as msgs
use Rattle.sj_lang.specs.Place.{Place}
use Rattle.sj_lang.specs.FileAt.{ProtocolAt, body_named}
use Rattle.sj_semantics.specs.declared.Awaits.{Awaits}
use Rattle.sj_semantics.specs.declared.Awaits.TheVariants as awaits
use Rattle.sj_semantics.specs.declared.Want.{Want}
use Rattle.sj_semantics.specs.declared.Want.TheVariants as wants
use Rattle.sj_semantics.specs.declared.Passed.{Passed}
use Rattle.sj_semantics.specs.Program.{Program, limit_of_steps}
use Rattle.sj_semantics.specs.Wants.{want_of}
use Rattle.sj_semantics.specs.Steps.{sent_of}
use Rattle.sj_semantics.specs.Ends.{EndAt, end_at, next_for, limit_of_hops}
use Rattle.sj_semantics.specs.Requests.{first_offer, limit_of_requests, opened_number}
use Rattle.sj_semantics.specs.Uses.{sends, delegates}
use Rattle.sj_semantics.specs.World.{World, Change, plain_change, session_message, begun_by, begun_at, change_by_taking, change_by_opening, change_by_accepting, change_by, change_of_program}
use Rattle.sj_semantics_laws.specs.Bound.{IsBound, AreBound, UsesBound}
use Rattle.sj_semantics_laws.proofs.BoundLemmas.{want_bound}

abbrev UsesBoundIf : List (ℕ × EndId) → Option Change → Type 0
UsesBoundIf ends None = ⊤
UsesBoundIf ends (Some c) = UsesBound ends c.uses

-- for a party with these ends: each that is bound there is left, and so are its next message, the
-- party's requests and what is offered to it
pub record LeavesParty (q : ℕ) (ends : List (ℕ × EndId)) (old new : World) : Type 0 where
  pub keeps : (e : EndId) → IsBound e ends → end_at new.sessions e ≡ end_at old.sessions e
  pub next : (e : EndId) (x : Passed) → IsBound e ends → next_for old.sessions e ≡ Some x → next_for new.sessions e ≡ Some x
  pub protocols : new.protocols ≡ old.protocols
  pub asked : length (new.requests q) ≡ length (old.requests q)
  pub offers : (a k : ℕ) → first_offer q (old.requests a) ≡ Some k → first_offer q (new.requests a) ≡ Some k

cond_bound : (ends : List (ℕ × EndId)) (b : Bool) (c : Change) → UsesBound ends c.uses → UsesBoundIf ends (cond b (Some c) None)
cond_bound ends true c h = h
cond_bound ends false c h = tt

begun_bound : (ends : List (ℕ × EndId)) (place : Place) (m : Msg) → UsesBound ends (begun_by place m)
begun_bound ends place (msgs.Sess s d k) = (tt, tt)
begun_bound ends place (msgs.Int n) = tt
begun_bound ends place (msgs.Bool b) = tt
begun_bound ends place (msgs.Text n) = tt
begun_bound ends place (msgs.Label l) = tt
begun_bound ends place (msgs.More b) = tt

begun_at_bound : (ends : List (ℕ × EndId)) (ps : List ProtocolAt) (a : Awaits) (m : Msg) → UsesBound ends (begun_at ps a m)
begun_at_bound ends ps (awaits.Session p) m = begun_bound ends (body_named ps p) m
begun_at_bound ends ps (awaits.Value k) m = tt
begun_at_bound ends ps awaits.OneOf m = tt
begun_at_bound ends ps awaits.MoreOrStop m = tt

taking_bound : (ps : List ProtocolAt) (g : Program) (e : EndId) (a : Awaits) (o : Option Passed) → IsBound e g.ends → UsesBoundIf g.ends (option_map (change_by_taking ps g e a) o)
taking_bound ps g e a None b = tt
taking_bound ps g e a (Some x) b = (b, begun_at_bound g.ends ps a x.msg)

accepting_bound : (g : Program) (q : ℕ) (place : Place) (o : Option ℕ) → UsesBoundIf g.ends (option_map (change_by_accepting g q place) o)
accepting_bound g q place None = tt
accepting_bound g q place (Some k) = (tt, tt)

by_bound : (w : World) (p : ℕ) (g : Program) (want : Want) → AreBound g.ends want → UsesBoundIf g.ends (change_by w p g want)
by_bound w p g wants.Ended b = tt
by_bound w p g wants.Local b = tt
by_bound w p g (wants.Send e m) b = (b, tt)
by_bound w p g (wants.Delegate e y) b = cond_bound g.ends (nat_lt (end_at w.sessions y).hops limit_of_hops) _ (b.1, (b.0, tt))
by_bound w p g (wants.Take e a) b = taking_bound w.protocols g e a (next_for w.sessions e) b
by_bound w p g (wants.Close e) b = tt
by_bound w p g (wants.Request n q) b = cond_bound g.ends (nat_lt (length (w.requests p)) limit_of_requests) (change_by_opening g (opened_number p (length (w.requests p))) (body_named w.protocols n) q) (tt, (tt, tt))
by_bound w p g (wants.Accept n q) b = accepting_bound g q (body_named w.protocols n) (first_offer p (w.requests q))

-- what a change rests on: the program's next step
pub record Rests (w : World) (p : ℕ) (g : Program) (c : Change) : Type 0 where
  pub steps_left : nat_lt g.steps limit_of_steps ≡ true
  pub want : Want
  pub wants_it : want_of g ≡ Some want
  pub by_it : change_by w p g want ≡ Some c

and_then_rests : (w : World) (p : ℕ) (g : Program) (c : Change) (o : Option Want) → nat_lt g.steps limit_of_steps ≡ true → want_of g ≡ o → option_and_then (change_by w p g) o ≡ Some c → Rests w p g c
and_then_rests w p g c None lt e h = cc
and_then_rests w p g c (Some want) lt e h = record { steps_left = lt; want = want; wants_it = e; by_it = h }

pub rests_on : (w : World) (p : ℕ) (g : Program) (c : Change) → change_of_program w p g ≡ Some c → Rests w p g c
rests_on w p g c h =
    elim (cases_Bool (nat_lt g.steps limit_of_steps)) [
      | inl below ↦ and_then_rests w p g c (want_of g) below refl (ap (λ (t : Bool). cond t (option_and_then (change_by w p g) (want_of g)) None) (sym below) ∙ h)
      | inr above ↦ let none : None ≡ Some c = ap (λ (t : Bool). cond t (option_and_then (change_by w p g) (want_of g)) None) (sym above) ∙ h in cc
    ]

pub from_rests : (w : World) (p : ℕ) (g : Program) (c : Change) → Rests w p g c → change_of_program w p g ≡ Some c
from_rests w p g c r = ap (λ (t : Bool). cond t (option_and_then (change_by w p g) (want_of g)) None) r.steps_left ∙ ap (option_and_then (change_by w p g)) r.wants_it ∙ r.by_it

pub uses_bound : (w : World) (p : ℕ) (g : Program) (c : Change) → Rests w p g c → UsesBound g.ends c.uses
uses_bound w p g c r = subst (UsesBoundIf g.ends) r.by_it (by_bound w p g r.want (want_bound g r.want r.wants_it))

option_stays : {X : Type 0} (f : X → Change) (c : Change) (o q : Option X) → ((x : X) → o ≡ Some x → q ≡ Some x) → option_map f o ≡ Some c → option_map f q ≡ Some c
option_stays f c None q same h = cc
option_stays f c (Some x) q same h = ap (option_map f) (same x refl) ∙ h

by_stays : (old new : World) (p : ℕ) (g : Program) (c : Change) (want : Want) → AreBound g.ends want → LeavesParty p g.ends old new → change_by old p g want ≡ Some c → change_by new p g want ≡ Some c
by_stays old new p g c wants.Ended b left h = h
by_stays old new p g c wants.Local b left h = h
by_stays old new p g c (wants.Send e m) b left h = h
by_stays old new p g c (wants.Delegate e y) b left h =
    ap (λ (t : EndAt). cond (nat_lt t.hops limit_of_hops) (Some (plain_change (sent_of g) ((y, delegates) ∷ (e, sends (session_message y p)) ∷ []))) None) (left.keeps y b.1) ∙ h
by_stays old new p g c (wants.Take e a) b left h =
    ap (λ (ps : List ProtocolAt). option_map (change_by_taking ps g e a) (next_for new.sessions e)) left.protocols
    ∙ option_stays (change_by_taking old.protocols g e a) c (next_for old.sessions e) (next_for new.sessions e) (λ x. left.next e x b) h
by_stays old new p g c (wants.Close e) b left h = h
by_stays old new p g c (wants.Request n q) b left h =
    ap (λ (k : ℕ). cond (nat_lt k limit_of_requests) (Some (change_by_opening g (opened_number p k) (body_named new.protocols n) q)) None) left.asked
    ∙ ap (λ (ps : List ProtocolAt). cond (nat_lt (length (old.requests p)) limit_of_requests) (Some (change_by_opening g (opened_number p (length (old.requests p))) (body_named ps n) q)) None) left.protocols ∙ h
by_stays old new p g c (wants.Accept n q) b left h =
    ap (λ (ps : List ProtocolAt). option_map (change_by_accepting g q (body_named ps n)) (first_offer p (new.requests q))) left.protocols
    ∙ option_stays (change_by_accepting g q (body_named old.protocols n)) c (first_offer p (old.requests q)) (first_offer p (new.requests q)) (left.offers q) h

-- a program's change stays where its party is left alone
pub change_stays : (old new : World) (p : ℕ) (g : Program) (c : Change) → LeavesParty p g.ends old new → Rests old p g c → change_of_program new p g ≡ Some c
change_stays old new p g c left r =
    from_rests new p g c (record { steps_left = r.steps_left; want = r.want; wants_it = r.wants_it; by_it = by_stays old new p g c r.want (want_bound g r.want r.wants_it) left r.by_it })
