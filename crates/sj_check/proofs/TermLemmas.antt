-- The first fault of an expression, from those of its parts.
use Rattle.std.proofs.Common.{◌≡◌, ℕ, ◌++◌, Some, None, true, false}
use Rattle.std.specs.Ordering.{nat_cmp}
use Rattle.std.specs.FinMap.{FinMap}
use Rattle.sj_lang.specs.declared.party.Scalar.{Scalar}
use Rattle.sj_lang.specs.declared.party.Scalar.TheVariants.{Boolean}
use Rattle.sj_lang.specs.declared.party.Op.{Op}
use Rattle.sj_lang.specs.Term.{Term, not, two}
use Rattle.sj_acceptance.specs.Faults.{first_fault}
use Rattle.sj_acceptance.specs.KindTests.{term_tests, kind_of, takes}
use Rattle.sj_acceptance.specs.Sameness.{is_same_kind}
use Rattle.sj_check.specs.declared.refusal.CheckRefusal.{CheckRefusal}
use Rattle.sj_check.specs.Told.{Tells}
use Rattle.sj_check.proofs.FaultLemmas.{first_fault-append, Tells-front, Tells-behind}

module _ (line : ℕ) (known : FinMap nat_cmp Scalar) where
  -- `w` is `not e`
  module _ (w e : Term) (is : w ≡ not e) where
    pub not-operand : (r : CheckRefusal) → Tells (first_fault (term_tests line known e)) r → Tells (first_fault (term_tests line known w)) r
    not-operand r h = rw is (Tells-front (term_tests line known e) _ r h)

    pub not-fails : (k : Scalar) → first_fault (term_tests line known e) ≡ None → k ≡ kind_of known e → is_same_kind k Boolean ≡ false → first_fault (term_tests line known w) ≡ Some (7, line)
    not-fails k h p q = rw (is, first_fault-append, h, ← p, q)

    pub not-passes : (k : Scalar) → first_fault (term_tests line known e) ≡ None → k ≡ kind_of known e → is_same_kind k Boolean ≡ true → first_fault (term_tests line known w) ≡ None
    not-passes k h p q = rw (is, first_fault-append, h, ← p, q)

  -- `w` is `e op f`
  module _ (w : Term) (op : Op) (e f : Term) (is : w ≡ two op e f) where
    pub two-left : (r : CheckRefusal) → Tells (first_fault (term_tests line known e)) r → Tells (first_fault (term_tests line known w)) r
    two-left r h = rw is (Tells-front (term_tests line known e ++ term_tests line known f) _ r (Tells-front (term_tests line known e) (term_tests line known f) r h))

    pub two-right : (r : CheckRefusal) → first_fault (term_tests line known e) ≡ None → Tells (first_fault (term_tests line known f)) r → Tells (first_fault (term_tests line known w)) r
    two-right r g h = rw is (Tells-front (term_tests line known e ++ term_tests line known f) _ r (Tells-behind (term_tests line known e) (term_tests line known f) r g h))

    pub two-fails : (j k : Scalar) → first_fault (term_tests line known e) ≡ None → first_fault (term_tests line known f) ≡ None
        → j ≡ kind_of known e → k ≡ kind_of known f → takes op j k ≡ false → first_fault (term_tests line known w) ≡ Some (7, line)
    two-fails j k g h p q t = rw (is, first_fault-append, first_fault-append, g, h, ← p, ← q, t)

    pub two-passes : (j k : Scalar) → first_fault (term_tests line known e) ≡ None → first_fault (term_tests line known f) ≡ None
        → j ≡ kind_of known e → k ≡ kind_of known f → takes op j k ≡ true → first_fault (term_tests line known w) ≡ None
    two-passes j k g h p q t = rw (is, first_fault-append, first_fault-append, g, h, ← p, ← q, t)
