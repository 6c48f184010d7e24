-- What is on its way names no end that is used, and an end that is used is one of its party's.
use Rattle.std.proofs.Common.{◌≡◌, ℕ, zero, suc, ◌≤◌, Bool, true, false, cond, List, slice_get, Some, sum_by, refl, ap, sym, ◌∙◌, arith, subst, inl, inr}
use Rattle.std.proofs.lemmas.Bool.{cases_Bool, false_from_ne_true}
use Rattle.sj_base.specs.declared.EndId.{EndId}
use Rattle.sj_base.specs.declared.Msg.{Msg}
use Rattle.sj_base.specs.declared.Msg.TheVariants as msgs
use Rattle.sj_lang.specs.Place.{Place}
use Rattle.sj_semantics.specs.declared.Passed.{Passed}
use Rattle.sj_lang.specs.FileAt.{ProtocolAt, named}
use Rattle.sj_semantics.specs.Value.{Vars}
use Rattle.sj_semantics.specs.Program.{Thing, Program, ends_without}
use Rattle.sj_semantics.specs.World.{World}
use Rattle.sj_semantics.specs.Ends.{Session, end_on, other_side, other_end, end_at, next_for, is_end}
use Rattle.sj_semantics.specs.Uses.{Use, delegates, end_after}
use Rattle.sj_semantics_laws.specs.Bound.{IsBound}
use Rattle.sj_semantics_laws.specs.Unshared.{bindings_of, names_end, carried_in, IsUnshared, IsToCome}
use Rattle.sj_semantics_laws.proofs.AlteredLemmas.{session_in, one-le-sum_by, session-le-sum_by}
use Rattle.sj_semantics_laws.proofs.BoundLemmas.{is_end-self, bindings_of-le, named_is_bound}
use Rattle.sj_semantics_laws.proofs.ClaimLemmas.{one_if, bindings_of-without, carried-takes}
use Rattle.sj_semantics_laws.proofs.EndLemmas.{touched, end_at-session, end_at-touched_other, end_at-touched_same}
use Rattle.sj_headline_laws.proofs.AgreeLemmas.{MovesTo, agrees_kept}
use Rattle.sj_headline_laws.proofs.NameLemmas.{named-without_other}
use Rattle.sj_headline_laws.proofs.TypedLemmas.{FitsTodo, KeepsPlaces}
use Rattle.sj_headline_laws.proofs.LeadLemmas.{coming, Pair}
use Rattle.sj_headline_laws.proofs.PairLemmas.{KeepsNamed, AllKept, pair_kept}
use Rattle.sj_headline_laws.proofs.TouchedLemmas.{side, PairAt, pairs_touched, pair_of}

-- ---- no message on its way names the end

abbrev pub IsUncarried : List Session → EndId → Type 0
IsUncarried zs e = sum_by (carried_in e) zs ≤ 0

coming_weight : (e : EndId) (xs : List Passed) (j : ℕ) (x : Passed) → slice_get xs j ≡ Some x → one_if (names_end e x.msg) ≤ sum_by (λ (y : Passed). cond (names_end e y.msg) 1 0) xs
coming_weight e xs j x h = one-le-sum_by (λ (y : Passed). cond (names_end e y.msg) 1 0) xs j x h

coming_in_session : (e : EndId) (d : ℕ) (z : Session) (j : ℕ) (x : Passed) → slice_get (coming (end_on d z) (end_on (other_side d) z)) j ≡ Some x → one_if (names_end e x.msg) ≤ carried_in e z
coming_in_session e zero z j x h = omega (arith, coming_weight e (coming z.first z.second) j x h)
coming_in_session e (suc d) z j x h = omega (arith, coming_weight e (coming z.second z.first) j x h)

-- a message on its way weighs on the end that it names
pub coming_carried : (e f : EndId) (zs : List Session) (j : ℕ) (x : Passed) → slice_get (coming (end_at zs f) (end_at zs (other_end f))) j ≡ Some x → one_if (names_end e x.msg) ≤ sum_by (carried_in e) zs
coming_carried e f zs j x h =
    omega (
      arith,
      coming_in_session e f.side (session_in zs f.sess) j x (sym (λ i. slice_get (coming (end_at-session zs f i) (end_at-session zs (other_end f) i)) j) ∙ h),
      session-le-sum_by (carried_in e) refl zs f.sess,
    )

no_weight : (b : Bool) → one_if b ≤ 0 → b ≡ false
no_weight true h = absurd (omega arith)
no_weight false h = refl

pub unnamed : (e f : EndId) (zs : List Session) (j : ℕ) (x : Passed) → IsUncarried zs e → slice_get (coming (end_at zs f) (end_at zs (other_end f))) j ≡ Some x → names_end e x.msg ≡ false
unnamed e f zs j x none h = no_weight (names_end e x.msg) (omega (arith, none, coming_carried e f zs j x h))

pub keeps_by_name : (p : ℕ) (zs : List Session) (e : EndId) (u : Use) (m : Msg) → names_end e m ≡ false → KeepsNamed zs (touched p zs (e, u)) m
keeps_by_name p zs e u (msgs.Sess s d k) h = ap (λ t. t.place) (end_at-touched_other p zs (e, u) (side s d) h)
keeps_by_name p zs e u (msgs.Int n) h = tt
keeps_by_name p zs e u (msgs.Bool n) h = tt
keeps_by_name p zs e u (msgs.Text n) h = tt
keeps_by_name p zs e u (msgs.Label n) h = tt
keeps_by_name p zs e u (msgs.More n) h = tt

pub all_kept : (p : ℕ) (zs : List Session) (e f : EndId) (u : Use) → IsUncarried zs e → AllKept zs (touched p zs (e, u)) (coming (end_at zs f) (end_at zs (other_end f)))
all_kept p zs e f u none j x h = keeps_by_name p zs e u x.msg (unnamed e f zs j x none h)

-- the pairs stay pairs where such an end is touched, and its own does
pub pairs_after : (p : ℕ) (zs : List Session) (e : EndId) (u : Use) → IsUncarried zs e → ((s : ℕ) → PairAt zs zs s)
    → (Pair (touched p zs (e, u)) (end_at zs e) (end_at zs (other_end e)) → Pair (touched p zs (e, u)) (end_after p u (end_at zs e)) (end_at zs (other_end e)))
    → (s : ℕ) → PairAt (touched p zs (e, u)) (touched p zs (e, u)) s
pairs_after p zs e u none pairs goes =
    let new : List Session = touched p zs (e, u) in
    let kept : (s : ℕ) → PairAt new zs s = λ s. pair_kept zs new (end_at zs (side s 0)) (end_at zs (side s 1)) (all_kept p zs e (side s 0) u none) (all_kept p zs e (side s 1) u none) (pairs s) in
    pairs_touched p zs new e u (goes (pair_of zs new e kept)) kept

-- ---- where an end is claimed

pub bound_claims : (w : World) (p : ℕ) (g : Program) (e : EndId) → slice_get w.parties p ≡ Some g → IsBound e g.ends → 1 ≤ sum_by (λ (k : Program). bindings_of e k.ends) w.parties
bound_claims w p g e there b = omega (arith, b.some_name, one-le-sum_by (λ (k : Program). bindings_of e k.ends) w.parties p g there)

pub bound_uncarried : (w : World) (p : ℕ) (g : Program) (e : EndId) → IsUnshared w → slice_get w.parties p ≡ Some g → IsBound e g.ends → IsUncarried w.sessions e
bound_uncarried w p g e one there b = omega (arith, one.once e, bound_claims w p g e there b)

pub come_uncarried : (w : World) (e : EndId) → IsUnshared w → IsToCome w e → IsUncarried w.sessions e
come_uncarried w e one come = omega (arith, one.to_come e come)

-- an end that the next message names isn't bound, and no other message names it
pub named_carried : (w : World) (e f : EndId) (x : Passed) → next_for w.sessions f ≡ Some x → names_end e x.msg ≡ true → 1 ≤ sum_by (carried_in e) w.sessions
named_carried w e f x next names = omega (arith, carried-takes e 0 w.sessions f x next, ap {B = ℕ} one_if names)

-- names for an end are names for one that is the same
bound_same : (e f : EndId) (ends : List (ℕ × EndId)) → is_end e f ≡ true → IsBound f ends → IsBound e ends
bound_same e f ends t b = record { some_name = omega (arith, b.some_name, bindings_of-le e f ends t) }

pub named_apart : (w : World) (p : ℕ) (g : Program) (e f a : EndId) (x : Passed) → IsUnshared w → slice_get w.parties p ≡ Some g → IsBound f g.ends → next_for w.sessions a ≡ Some x → names_end e x.msg ≡ true → is_end e f ≡ false
named_apart w p g e f a x one there b next names =
    false_from_ne_true (is_end e f) (λ t. absurd (omega (arith, one.once e, bound_claims w p g e there (bound_same e f g.ends t b), named_carried w e a x next names)))

pub come_apart : (w : World) (p : ℕ) (g : Program) (e f : EndId) → IsUnshared w → slice_get w.parties p ≡ Some g → IsBound f g.ends → IsToCome w e → is_end e f ≡ false
come_apart w p g e f one there b come =
    false_from_ne_true (is_end e f) (λ t. absurd (omega (arith, one.to_come e come, bound_claims w p g e there (bound_same e f g.ends t b))))

-- ---- programs

pub todo_kept : (ps : List ProtocolAt) (parties : List ℕ) (old new : List Session) (todo : List Thing) (vars : Vars) (ends : List (ℕ × EndId)) → KeepsPlaces ends old new
    → FitsTodo ps parties old todo vars ends → FitsTodo ps parties new todo vars ends
todo_kept ps parties old new todo vars ends same f = record { env = f.env; agrees = agrees_kept old new ends vars f.env f.agrees same; does = f.does }

-- two names of one party stand for two ends
pub names_apart : (ends : List (ℕ × EndId)) (x n : ℕ) (e f : EndId) → bindings_of e ends ≤ 1 → named ends x ≡ Some e → named ends n ≡ Some f → (n ≡ x → ⊥) → is_end e f ≡ false
names_apart ends x n e f le hx hn ne =
    false_from_ne_true (is_end e f) (λ t.
    absurd (omega (
      arith,
      le,
      bindings_of-without e ends x e hx,
      ap {B = ℕ} one_if (is_end-self e),
      (named_is_bound (ends_without ends x) n f (named-without_other ends x n ne ∙ hn)).some_name,
      bindings_of-le e f (ends_without ends x) t,
    )))

pub bindings_once : (w : World) (p : ℕ) (g : Program) (e : EndId) → IsUnshared w → slice_get w.parties p ≡ Some g → bindings_of e g.ends ≤ 1
bindings_once w p g e one there = omega (arith, one.once e, one-le-sum_by (λ (k : Program). bindings_of e k.ends) w.parties p g there)

-- the end under the name moves, and no other end of the party
pub moves_by : (p : ℕ) (ends : List (ℕ × EndId)) (zs : List Session) (x : ℕ) (e : EndId) (u : Use) (next : Place) → bindings_of e ends ≤ 1 → named ends x ≡ Some e
    → (end_after p u (end_at zs e)).place ≡ next → MovesTo ends zs (touched p zs (e, u)) x next
moves_by p ends zs x e u next le hx at = record {
  here = λ f h.
      let it : f ≡ e = (let both : Some f ≡ Some e = sym h ∙ hx in cc) in
      subst (λ (t : EndId). (end_at (touched p zs (e, u)) t).place ≡ next) (sym it) (ap (λ t. t.place) (end_at-touched_same p zs (e, u) e (is_end-self e)) ∙ at);
  others = λ n f ne h. ap (λ t. t.place) (end_at-touched_other p zs (e, u) f (names_apart ends x n e f le hx h ne));
}

-- what moves between two sessions moves where others come after or before that
-- leave the party's places
pub moves_behind : (ends : List (ℕ × EndId)) (zs mid new : List Session) (x : ℕ) (next : Place) → MovesTo ends zs mid x next → KeepsPlaces ends mid new → MovesTo ends zs new x next
moves_behind ends zs mid new x next m kept = record { here = λ e h. kept x e h ∙ m.here e h; others = λ n e ne h. kept n e h ∙ m.others n e ne h }

pub moves_before : (ends : List (ℕ × EndId)) (zs mid new : List Session) (x : ℕ) (next : Place) → KeepsPlaces ends zs mid → MovesTo ends mid new x next → MovesTo ends zs new x next
moves_before ends zs mid new x next kept m = record { here = m.here; others = λ n e ne h. m.others n e ne h ∙ kept n e h }

-- delegating an end moves no place
pub hands_places : (p : ℕ) (zs : List Session) (y f : EndId) → (end_at (touched p zs (y, delegates)) f).place ≡ (end_at zs f).place
hands_places p zs y f =
    elim (cases_Bool (is_end y f)) [
      | inl it ↦ ap (λ t. t.place) (end_at-touched_same p zs (y, delegates) f it)
      | inr other ↦ ap (λ t. t.place) (end_at-touched_other p zs (y, delegates) f other)
    ]
