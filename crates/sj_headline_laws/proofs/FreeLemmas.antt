-- An end that an act begins is free until then: it is to come, or the message
-- that the act takes names it.
use Rattle.std.proofs.Common.{◌≡◌, ◌≢◌, ℕ, zero, suc, nat_lt, Bool, true, false, cond, List, [], ◌∷◌, length, slice_get, Option, Some, None, option_map, option_and_then, refl, ap, ◌∙◌, subst, arith}
use Rattle.std.specs.Bool.{⊤}
use Rattle.std.proofs.lemmas.Bool.{ltb-true}
use Rattle.sj_base.specs.declared.EndId.{EndId}
use Rattle.sj_base.specs.declared.Msg.{Msg}
use Rattle.sj_base.specs.declared.Msg.TheVariants as msgs
use Rattle.sj_lang.specs.Dual.{dual_of}
use Rattle.sj_lang.specs.FileAt.{ProtocolAt, body_named}
use Rattle.sj_lang.specs.Place.{Place}
use Rattle.sj_semantics.specs.declared.Awaits.{Awaits}
use Rattle.sj_semantics.specs.declared.Awaits.TheVariants as awaits
use Rattle.sj_semantics.specs.declared.Passed.{Passed}
use Rattle.sj_semantics.specs.declared.Want.{Want}
use Rattle.sj_semantics.specs.declared.Want.TheVariants as wants
use Rattle.sj_semantics.specs.Ends.{end_at, next_for, limit_of_hops}
use Rattle.sj_semantics.specs.Program.{Program}
use Rattle.sj_semantics.specs.Requests.{first_offer, limit_of_requests, opened_number}
use Rattle.sj_semantics.specs.Steps.{sent_of}
use Rattle.sj_semantics.specs.Uses.{Use, sends, takes, delegates, begins}
use Rattle.sj_semantics.specs.World.{World, Change, plain_change, session_message, begun_by, begun_at, change_by_taking, change_by_opening, change_by_accepting, change_by, change_of, change_of_program}
use Rattle.sj_semantics_laws.specs.Runs.{IsBoundNowhere}
use Rattle.sj_semantics_laws.specs.Unshared.{bindings_of, names_end, IsToCome, to_open, to_accept, IsUnshared}
use Rattle.sj_semantics_laws.proofs.AlteredLemmas.{one-le-sum_by}
use Rattle.sj_semantics_laws.proofs.BoundLemmas.{is_end-self}
use Rattle.sj_semantics_laws.proofs.ChangeLemmas.{rests_on}
use Rattle.sj_semantics_laws.proofs.MomentLemmas.{unclaimed_nowhere}
use Rattle.sj_semantics_laws.proofs.ToComeLemmas.{first_is_offer}
use Rattle.sj_headline_laws.specs.Begins.{IsOnItsWay, IsTakenIn, BeginFreeEnds}
use Rattle.sj_headline_laws.proofs.TouchedLemmas.{side}
use Rattle.sj_headline_laws.proofs.UnnamedLemmas.{come_uncarried, named_carried}

-- why the end is free, where an act makes these uses
pub data Free (w : World) (all : List (EndId × Use)) (e : EndId) : Type 0 where
  comes : IsToCome w e → Free w all e
  fetched : (f : EndId) (x : Passed) → next_for w.sessions f ≡ Some x → names_end e x.msg ≡ true → IsTakenIn all e → Free w all e

pub free_ends : (w : World) (all : List (EndId × Use)) → IsUnshared w → ((e : EndId) (n : ℕ) (place : Place) → slice_get all n ≡ Some (e, begins place) → Free w all e) → BeginFreeEnds w all
free_ends w all one free = λ e begun. by e (free e begun.0 begun.1 begun.2)
  where
    by : (e : EndId) → Free w all e → IsBoundNowhere w e × (IsOnItsWay w e → IsTakenIn all e)
    by e (comes come) = (unclaimed_nowhere w e (one.to_come e come), λ on. absurd (omega (arith, on, come_uncarried w e one come)))
    by e (fetched f x next names taken) = (
      λ p b. absurd (omega (arith, one.once e, b.2.some_name, one-le-sum_by (λ (g : Program). bindings_of e g.ends) w.parties p b.0 b.1, named_carried w e f x next names)),
      λ on. taken,
    )

-- ---- the uses of an act

-- what is begun in the one list is free, where all uses are those of the other
abbrev pub AllFree : World → (all us : List (EndId × Use)) → Type 0
AllFree w all us = (e : EndId) (n : ℕ) (place : Place) → slice_get us n ≡ Some (e, begins place) → Free w all e

module _ (w : World) (all : List (EndId × Use)) where
  pub none_begun : AllFree w all []
  none_begun e n place h = cc

  -- a use that is no beginning
  pub other_use : (f : EndId) (u : Use) (us : List (EndId × Use)) → ((place : Place) → u ≢ begins place) → AllFree w all us → AllFree w all ((f, u) ∷ us)
  other_use f u us not rest e zero place h =
      let both : ◌≡◌ {A = EndId × Use} (f, u) (e, begins place) = cc in
      absurd (not place (ap (λ (v : EndId × Use). v.1) both))
  other_use f u us not rest e (suc n) place h = rest e n place h

  pub begun_use : (f : EndId) (place : Place) (us : List (EndId × Use)) → Free w all f → AllFree w all us → AllFree w all ((f, begins place) ∷ us)
  begun_use f at us free rest e zero place h =
      let both : ◌≡◌ {A = EndId × Use} (f, begins at) (e, begins place) = cc in
      subst (Free w all) (ap (λ (v : EndId × Use). v.0) both) free
  begun_use f at us free rest e (suc n) place h = rest e n place h

  -- the end that a message names which is taken
  pub named_begun : (place : Place) (f : EndId) (x : Passed) (m : Msg) → next_for w.sessions f ≡ Some x → x.msg ≡ m → slice_get all 0 ≡ Some (f, takes x.msg) → AllFree w all (begun_by place m)
  named_begun place f x (msgs.Sess s d k) next is first =
      let names : names_end (side s d) x.msg ≡ true = ap (names_end (side s d)) is ∙ is_end-self (side s d) in
      begun_use (side s d) place [] (fetched f x next names (0, f, x.msg, first, names)) none_begun
  named_begun place f x (msgs.Int i) next is first = none_begun
  named_begun place f x (msgs.Bool i) next is first = none_begun
  named_begun place f x (msgs.Text i) next is first = none_begun
  named_begun place f x (msgs.Label i) next is first = none_begun
  named_begun place f x (msgs.More i) next is first = none_begun

  named_begun_at : (ps : List ProtocolAt) (a : Awaits) (f : EndId) (x : Passed) → next_for w.sessions f ≡ Some x → slice_get all 0 ≡ Some (f, takes x.msg) → AllFree w all (begun_at ps a x.msg)
  named_begun_at ps (awaits.Session q) f x next first = named_begun (body_named ps q) f x x.msg next refl first
  named_begun_at ps (awaits.Value k) f x next first = none_begun
  named_begun_at ps awaits.OneOf f x next first = none_begun
  named_begun_at ps awaits.MoreOrStop f x next first = none_begun

abbrev FreeIf : World → Option Change → Type 0
FreeIf w None = ⊤
FreeIf w (Some c) = AllFree w c.uses c.uses

cond_free : (w : World) (b : Bool) (c : Change) → (b ≡ true → AllFree w c.uses c.uses) → FreeIf w (cond b (Some c) None)
cond_free w true c h = h refl
cond_free w false c h = tt

taking_free : (w : World) (g : Program) (a : Awaits) (f : EndId) (o : Option Passed) → next_for w.sessions f ≡ o → FreeIf w (option_map (change_by_taking w.protocols g f a) o)
taking_free w g a f None next = tt
taking_free w g a f (Some x) next =
    let all : List (EndId × Use) = (f, takes x.msg) ∷ begun_at w.protocols a x.msg in
    other_use w all f (takes x.msg) (begun_at w.protocols a x.msg) (λ place h. cc) (named_begun_at w all w.protocols a f x next refl)

accepting_free : (w : World) (p : ℕ) (g : Program) (q : ℕ) (place : Place) (o : Option ℕ) → first_offer p (w.requests q) ≡ o → FreeIf w (option_map (change_by_accepting g q place) o)
accepting_free w p g q place None h = tt
accepting_free w p g q place (Some k) h =
    let offer = first_is_offer p (w.requests q) k h in
    let end : EndId = side (opened_number q k) 1 in
    let all : List (EndId × Use) = (end, begins place) ∷ [] in
    begun_use w all end place [] (comes (to_accept q k offer.0 offer.1 offer.3 refl refl)) (none_begun w all)

by_free : (w : World) (p : ℕ) (g : Program) (want : Want) → FreeIf w (change_by w p g want)
by_free w p g wants.Ended = tt
by_free w p g wants.Local = none_begun w []
by_free w p g (wants.Send e m) = other_use w ((e, sends m) ∷ []) e (sends m) [] (λ place h. cc) (none_begun w ((e, sends m) ∷ []))
by_free w p g (wants.Delegate e y) =
    let all : List (EndId × Use) = (y, delegates) ∷ (e, sends (session_message y p)) ∷ [] in
    cond_free w (nat_lt (end_at w.sessions y).hops limit_of_hops) (plain_change (sent_of g) all)
    (λ t. other_use w all y delegates ((e, sends (session_message y p)) ∷ []) (λ place h. cc) (other_use w all e (sends (session_message y p)) [] (λ place h. cc) (none_begun w all)))
by_free w p g (wants.Take e a) = taking_free w g a e (next_for w.sessions e) refl
by_free w p g (wants.Close e) = none_begun w []
by_free w p g (wants.Request n q) =
    let k = length (w.requests p) in
    let place = body_named w.protocols n in
    let one : EndId = side (opened_number p k) 0 in
    let other : EndId = side (opened_number p k) 1 in
    let all : List (EndId × Use) = (one, begins place) ∷ (other, begins (dual_of place)) ∷ [] in
    cond_free w (nat_lt k limit_of_requests) (change_by_opening g (opened_number p k) place q)
    (λ t.
    let below = ltb-true k limit_of_requests t in
    begun_use w all one place ((other, begins (dual_of place)) ∷ []) (comes (to_open p k (omega arith) below refl))
    (begun_use w all other (dual_of place) [] (comes (to_open p k (omega arith) below refl)) (none_begun w all)))
by_free w p g (wants.Accept n q) = accepting_free w p g q (body_named w.protocols n) (first_offer p (w.requests q)) refl

pub change_free : (w : World) (p : ℕ) (c : Change) (o : Option Program) → option_and_then (change_of_program w p) o ≡ Some c → AllFree w c.uses c.uses
change_free w p c None h = cc
change_free w p c (Some g) h = let r = rests_on w p g c h in subst (FreeIf w) r.by_it (by_free w p g r.want)

pub begins_free : (w : World) (p : ℕ) (c : Change) → IsUnshared w → change_of w p ≡ Some c → BeginFreeEnds w c.uses
begins_free w p c one h = free_ends w c.uses one (change_free w p c (slice_get w.parties p) h)
