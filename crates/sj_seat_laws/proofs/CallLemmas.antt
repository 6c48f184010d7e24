-- What a guarded call finds at its places, and that others leave an end that is held alone.
use Rattle.std.proofs.Common.{◌≡◌, ◌≢◌, ℕ, zero, suc, ◌≤◌, Bool, true, false, not, List, [], ◌∷◌, length, slice_get, Option, Some, None, option_map, refl, ap, ◌∙◌, subst, arith}
use Rattle.std.specs.Prelude.{is_some}
use Rattle.std.proofs.lemmas.Bool.{and_parts, eqb-true, false_from_ne_true}
use Rattle.sj_base.specs.declared.EndId.{EndId}
use Rattle.sj_base.specs.declared.Msg.{Msg}
use Rattle.sj_base.specs.declared.Msg.TheVariants as msgs
use Rattle.sj_lang.specs.declared.proto.Way.TheVariants.{Into, Out}
use Rattle.sj_lang.specs.After.{after_place, at_label, followed_by}
use Rattle.sj_lang.specs.FileAt.{FileAt}
use Rattle.sj_lang.specs.ItemCount.{is_done}
use Rattle.sj_lang.specs.Meet.{StandsFor}
use Rattle.sj_lang.specs.MeetTests.{stands_for}
use Rattle.sj_lang.specs.Place.{Choices, Place, boolean, choice, done, int, message, repeat, session, text}
use Rattle.sj_lang.proofs.MeetTestLemmas.{meets-Decides}
use Rattle.sj_semantics.specs.Balanced.{FitsNext}
use Rattle.sj_semantics.specs.Ends.{Session, end_at, is_end, is_same_side}
use Rattle.sj_semantics.specs.Program.{Program}
use Rattle.sj_semantics.specs.Uses.{Use}
use Rattle.sj_semantics.specs.World.{World}
use Rattle.sj_semantics_laws.specs.Bound.{IsBound}
use Rattle.sj_semantics_laws.specs.Unshared.{IsToCome, bindings_of, names_end, to_accept, to_open}
use Rattle.sj_semantics_laws.proofs.BoundLemmas.{bindings_of-le, is_end_sym, is_end_trans}
use Rattle.sj_semantics_laws.proofs.EndLemmas.{IsUnusedBy}
use Rattle.sj_semantics_laws.proofs.MineLemmas.{AllMine, Mine, accepting, bound, coming, opening}
use Rattle.sj_headline_laws.proofs.TouchedLemmas.{side}
use Rattle.sj_headline_laws.proofs.UnnamedLemmas.{bound_claims, named_carried}
use Rattle.sj_rules.specs.Binding.{NamesNoEnd}
use Rattle.sj_seat_laws.specs.Calls.{Ends}
use Rattle.sj_seat_laws.specs.Guards.{carried_next, may_carry, may_send}
use Rattle.sj_seat_laws.proofs.GuardLemmas.{Guarded}
use Rattle.sj_seat_laws.proofs.HeldLemmas.{holds}

-- ---- places

-- a place follows the message, which fits and names no end
pub record SendsOn (zs : List Session) (q : Place) (m : Msg) : Type 0 where
  pub next : Place
  pub after : after_place q Out m ≡ Some next
  pub fits : FitsNext zs q m
  pub none : NamesNoEnd m

arm_by : (zs : List Session) (arms : Choices) (next : Place) (l : ℕ) (o : Option Place) → at_label l arms ≡ o → is_some o ≡ true → SendsOn zs (choice Out arms next) (msgs.Label l)
arm_by zs arms next l None at h = cc
arm_by zs arms next l (Some q) at h = record { next = followed_by q next; after = ap (option_map (λ s. followed_by s next)) at; fits = tt; none = tt }

pub sends_on : (zs : List Session) (q : Place) (m : Msg) → may_send q m ≡ true → SendsOn zs q m
sends_on zs (message Out int next) (msgs.Int n) h = record { next = next; after = refl; fits = tt; none = tt }
sends_on zs (message Out boolean next) (msgs.Bool b) h = record { next = next; after = refl; fits = tt; none = tt }
sends_on zs (message Out text next) (msgs.Text n) h = record { next = next; after = refl; fits = tt; none = tt }
sends_on zs (choice Out arms next) (msgs.Label l) h = arm_by zs arms next l (at_label l arms) refl h
sends_on zs (repeat Out body next) (msgs.More b) h = record { next = _; after = refl; fits = tt; none = tt }
sends_on zs q m h = cc

pub names_nothing : (m : Msg) (f : EndId) → NamesNoEnd m → names_end f m ≡ false
names_nothing (msgs.Sess s d k) f h = absurd h
names_nothing (msgs.Int n) f h = refl
names_nothing (msgs.Bool b) f h = refl
names_nothing (msgs.Text n) f h = refl
names_nothing (msgs.Label n) f h = refl
names_nothing (msgs.More b) f h = refl

-- an end at that place can be carried next
pub record CarriesOut (q own : Place) : Type 0 where
  pub kind : Place
  pub next : Place
  pub is : q ≡ message Out (session kind) next
  pub stands : StandsFor own kind
  pub full : kind ≢ done

-- nothing is ahead
pub done_by : (q : Place) → is_done q ≡ true → q ≡ done
done_by done h = refl
done_by q h = cc

full_by : (p : Place) → is_done p ≡ false → StandsFor p done → ⊥
full_by done k t = cc
full_by (message w kind next) k t = t
full_by (choice w arms next) k t = t
full_by (repeat w body next) k t = t

not_true : (b : Bool) → not b ≡ true → b ≡ false
not_true true h = cc
not_true false h = refl

pub carries_out : (q own : Place) → may_carry q own ≡ true → CarriesOut q own
carries_out (message Out (session kind) next) own h =
    let parts = and_parts (not (is_done own)) (stands_for own kind) h in
    let stands : StandsFor own kind = (meets-Decides _ _).0 parts.1 in
    record { kind = kind; next = next; is = refl; stands = stands; full = λ e. full_by own (not_true (is_done own) parts.0) (subst (StandsFor own) e stands) }
carries_out q own h = cc

-- a session message that is next is of a session kind, for which the end that it names stands
pub taken_kind : (zs : List Session) (q next : Place) (s d k : ℕ) → after_place q Into (msgs.Sess s d k) ≡ Some next → FitsNext zs q (msgs.Sess s d k)
    → (carried_next q ≢ done) × StandsFor (end_at zs (side s d)).place (carried_next q)
taken_kind zs (message Into (session kind) rest) next s d k h f = f
taken_kind zs (message Into int rest) next s d k h f = absurd (cc h)
taken_kind zs (message Into boolean rest) next s d k h f = absurd (cc h)
taken_kind zs (message Into text rest) next s d k h f = absurd (cc h)
taken_kind zs (message Out kind rest) next s d k h f = absurd (cc h)
taken_kind zs (choice Into arms rest) next s d k h f = absurd (cc h)
taken_kind zs (choice Out arms rest) next s d k h f = absurd (cc h)
taken_kind zs (repeat Into body rest) next s d k h f = absurd (cc h)
taken_kind zs (repeat Out body rest) next s d k h f = absurd (cc h)
taken_kind zs done next s d k h f = absurd (cc h)

-- ---- others leave an end that is held alone

names_same : (e f : EndId) (m : Msg) → is_end e f ≡ true → names_end f m ≡ true → names_end e m ≡ true
names_same e f (msgs.Sess s d k) same h = is_end_trans e f (side s d) same h
names_same e f (msgs.Int n) same h = h
names_same e f (msgs.Bool b) same h = h
names_same e f (msgs.Text n) same h = h
names_same e f (msgs.Label n) same h = h
names_same e f (msgs.More b) same h = h

side_trans : (c d : ℕ) → is_same_side c d ≡ true → is_same_side 1 d ≡ true → is_same_side 1 c ≡ true
side_trans zero zero h k = cc
side_trans zero (suc d) h k = cc
side_trans (suc c) zero h k = cc
side_trans (suc c) (suc d) h k = refl

module _ (file : FileAt) (w : World) (bs : Ends) (guarded : Guarded file w bs) (e : EndId) (held : 1 ≤ holds e bs) where
  not_come : IsToCome w e → ⊥
  not_come come = absurd (omega (arith, guarded.apart e come, held))

  pub mine_apart : (q : ℕ) (g : Program) (u : EndId) → slice_get w.parties q ≡ Some g → Mine w q g u → is_end e u ≡ true → ⊥
  mine_apart q g u there (bound b) same =
      let more : bindings_of u g.ends ≤ bindings_of e g.ends = bindings_of-le e u g.ends same in
      let here : IsBound e g.ends = record { some_name = omega (arith, more, b.some_name) } in
      absurd (omega (arith, guarded.once e, held, bound_claims w q g e there here))
  mine_apart q g u there (coming f x b next names) same =
      absurd (omega (arith, guarded.once e, held, named_carried w e f x next (names_same e u x.msg same names)))
  mine_apart q g u there (opening few is) same =
      not_come (to_open q (length (w.requests q)) (omega arith) few (eqb-true e.sess u.sess (and_parts _ _ same).0 ∙ is))
  mine_apart q g u there (accepting r k offer is second) same =
      let parts = and_parts _ _ same in
      not_come (to_accept r k offer.0 offer.1 offer.3 (eqb-true e.sess u.sess parts.0 ∙ is) (side_trans e.side u.side parts.1 second))

  -- so their acts don't use it
  pub mine_unused : (q : ℕ) (g : Program) (us : List (EndId × Use)) → slice_get w.parties q ≡ Some g → AllMine w q g us → IsUnusedBy e us
  mine_unused q g [] there mine = tt
  mine_unused q g (u ∷ us) there mine = (
    false_from_ne_true (is_end u.0 e) (λ t. absurd (mine_apart q g u.0 there mine.0 (is_end_sym u.0 e t))),
    mine_unused q g us there mine.1,
  )
