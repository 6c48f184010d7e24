-- An expression passes its tests exactly where it has a kind, and then that one.
use Rattle.std.proofs.Common.{◌≡◌, ℕ, [], ◌++◌, Option, Some, None, true, ◌&&◌, cond, is_some, unwrap_or, refl, ap, sym, ◌∙◌, subst}
use Rattle.std.specs.Ordering.{nat_cmp}
use Rattle.std.specs.FinMap.{FinMap, get}
use Rattle.sj_lang.specs.declared.party.Scalar.{Scalar}
use Rattle.sj_lang.specs.declared.party.Scalar.TheVariants as scalars
use Rattle.sj_lang.specs.declared.party.Op.{Op}
use Rattle.sj_lang.specs.declared.party.Op.TheVariants.{Add, Sub, Mul, Less, LessEq, Equal}
use Rattle.sj_lang.specs.Term.{Term, int, boolean, text, var, not, two}
use Rattle.sj_lang.specs.Place.{Carried}
use Rattle.sj_lang.specs.Place as place
use Rattle.sj_acceptance.specs.Faults.{first_fault}
use Rattle.sj_acceptance.specs.Kinds.{HasKind, Takes, carried_by}
use Rattle.sj_acceptance.specs.KindTests.{takes, kind_of, term_tests, is_free_for}
use Rattle.sj_acceptance.specs.Sameness.{is_same_kind}
use Rattle.sj_acceptance.specs.FirstItem.{is_carried_as}
use Rattle.sj_acceptance_laws.proofs.FaultLemmas.{first_passes, all_pass, pass_both, both_true}

pub same_kind : (j k : Scalar) → is_same_kind j k ≡ true → j ≡ k
same_kind scalars.Int scalars.Int h = refl
same_kind scalars.Int scalars.Boolean h = absurd (cc)
same_kind scalars.Int scalars.Text h = absurd (cc)
same_kind scalars.Boolean scalars.Int h = absurd (cc)
same_kind scalars.Boolean scalars.Boolean h = refl
same_kind scalars.Boolean scalars.Text h = absurd (cc)
same_kind scalars.Text scalars.Int h = absurd (cc)
same_kind scalars.Text scalars.Boolean h = absurd (cc)
same_kind scalars.Text scalars.Text h = refl

pub same_kind_refl : (k : Scalar) → is_same_kind k k ≡ true
same_kind_refl scalars.Int = refl
same_kind_refl scalars.Boolean = refl
same_kind_refl scalars.Text = refl

both_int : (j k : Scalar) → (is_same_kind j scalars.Int && is_same_kind k scalars.Int) ≡ true → (j ≡ scalars.Int) × (k ≡ scalars.Int)
both_int j k h = let p = both_true (is_same_kind j scalars.Int) (is_same_kind k scalars.Int) h in (same_kind j scalars.Int p.0, same_kind k scalars.Int p.1)

takes-Takes : (op : Op) (j k : Scalar) → takes op j k ≡ true → Takes op j k
takes-Takes Add j k h = both_int j k h
takes-Takes Sub j k h = both_int j k h
takes-Takes Mul j k h = both_int j k h
takes-Takes Less j k h = both_int j k h
takes-Takes LessEq j k h = both_int j k h
takes-Takes Equal j k h = same_kind j k h

Takes-takes : (op : Op) (j k : Scalar) → Takes op j k → takes op j k ≡ true
Takes-takes Add j k h = λ i. is_same_kind (h.0 i) scalars.Int && is_same_kind (h.1 i) scalars.Int
Takes-takes Sub j k h = λ i. is_same_kind (h.0 i) scalars.Int && is_same_kind (h.1 i) scalars.Int
Takes-takes Mul j k h = λ i. is_same_kind (h.0 i) scalars.Int && is_same_kind (h.1 i) scalars.Int
Takes-takes Less j k h = λ i. is_same_kind (h.0 i) scalars.Int && is_same_kind (h.1 i) scalars.Int
Takes-takes LessEq j k h = λ i. is_same_kind (h.0 i) scalars.Int && is_same_kind (h.1 i) scalars.Int
Takes-takes Equal j k h = ap (is_same_kind j) (sym h) ∙ same_kind_refl j

module _ (line : ℕ) (known : FinMap nat_cmp Scalar) where
  known_kind : (n : ℕ) (o : Option Scalar) → get known n ≡ o → is_some o ≡ true → get known n ≡ Some (unwrap_or o scalars.Int)
  known_kind n None g h = absurd (cc)
  known_kind n (Some k) g h = g

  -- an expression that passes has its kind
  pub has_kind : (e : Term) → first_fault (term_tests line known e) ≡ None → HasKind (λ n. get known n) e (kind_of known e)
  has_kind (int n) h = refl
  has_kind (boolean b) h = refl
  has_kind (text n) h = refl
  has_kind (var n) h = known_kind n (get known n) refl (first_passes 5 line (is_some (get known n)) [] h).0
  has_kind (not e) h =
      let p = all_pass (term_tests line known e) _ h in
      let k = same_kind (kind_of known e) scalars.Boolean (first_passes 7 line _ [] p.1).0 in
      (subst (HasKind (λ n. get known n) e) k (has_kind e p.0), refl)
  has_kind (two op e f) h =
      let p = all_pass (term_tests line known e ++ term_tests line known f) _ h in
      let q = all_pass (term_tests line known e) (term_tests line known f) p.0 in
      (kind_of known e, kind_of known f, has_kind e q.0, has_kind f q.1, takes-Takes op _ _ (first_passes 7 line _ [] p.1).0, refl)

  -- an expression of a kind passes, and the kind is its
  pub kind_passes : (e : Term) (k : Scalar) → HasKind (λ n. get known n) e k → (first_fault (term_tests line known e) ≡ None) × (k ≡ kind_of known e)
  kind_passes (int n) k h = (refl, h)
  kind_passes (boolean b) k h = (refl, h)
  kind_passes (text n) k h = (refl, h)
  kind_passes (var n) k h = (ap (λ (o : Option Scalar). cond (is_some o) None (Some (5, line))) h, sym (ap (λ (o : Option Scalar). unwrap_or o scalars.Int) h))
  kind_passes (not e) k h =
      let p = kind_passes e scalars.Boolean h.0 in
      (pass_both (term_tests line known e) _ p.0 (ap (λ j. cond (is_same_kind j scalars.Boolean) None (Some (7, line))) (sym p.1)), h.1)
  kind_passes (two op e f) k h =
      let p = kind_passes e h.0 h.2 in
      let q = kind_passes f h.1 h.3 in (
        pass_both (term_tests line known e ++ term_tests line known f) _ (pass_both (term_tests line known e) (term_tests line known f) p.0 q.0)
            ((λ i. cond (takes op (sym p.1 i) (sym q.1 i)) None (Some (7, line))) ∙ ap (λ b. cond b None (Some (7, line))) (Takes-takes op _ _ h.4)),
        h.5,
      )

pub carried_is : (j : Scalar) (k : Carried) → is_carried_as j k ≡ true → k ≡ carried_by j
carried_is scalars.Int place.int h = refl
carried_is scalars.Int place.boolean h = absurd (cc)
carried_is scalars.Int place.text h = absurd (cc)
carried_is scalars.Int (place.session p) h = absurd (cc)
carried_is scalars.Boolean place.int h = absurd (cc)
carried_is scalars.Boolean place.boolean h = refl
carried_is scalars.Boolean place.text h = absurd (cc)
carried_is scalars.Boolean (place.session p) h = absurd (cc)
carried_is scalars.Text place.int h = absurd (cc)
carried_is scalars.Text place.boolean h = absurd (cc)
carried_is scalars.Text place.text h = refl
carried_is scalars.Text (place.session p) h = absurd (cc)

pub carried_by-passes : (j : Scalar) → is_carried_as j (carried_by j) ≡ true
carried_by-passes scalars.Int = refl
carried_by-passes scalars.Boolean = refl
carried_by-passes scalars.Text = refl

pub free_kind : (o : Option Scalar) (k : Scalar) → is_free_for o k ≡ true → (j : Scalar) → o ≡ Some j → j ≡ k
free_kind None k h j e = absurd (cc)
free_kind (Some i) k h j e = let f = same_kind i k h in cc

pub free_passes : (o : Option Scalar) (k : Scalar) → ((j : Scalar) → o ≡ Some j → j ≡ k) → is_free_for o k ≡ true
free_passes None k h = refl
free_passes (Some i) k h = ap (λ j. is_same_kind j k) (h i refl) ∙ same_kind_refl k
