use Rattle.std.proofs.Common.{◌≡◌, ℕ, ◌||◌, drop}
use Rattle.std.specs.Ordering.{nat_cmp}
use Rattle.std.specs.BTreeSet.{contains}
use Rattle.sj_acceptance.specs.LabelTests.{is_among}
use Rattle.sj_check.proofs.name_lists.distinct.Given as goal

-- the set, and what is left, are all
abbrev pub invariant-loop-name : goal.invariant-loop-name
invariant-loop-name l = (q : ℕ) → (contains nat_cmp l.set q || is_among q (drop l.name-index l.all)) ≡ is_among q l.all
