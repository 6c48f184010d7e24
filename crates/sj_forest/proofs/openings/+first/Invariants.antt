use Rattle.std.proofs.Common.{◌≡◌, drop, map}
use Rattle.sj_acceptance.specs.Openings.{found_in, found_in_arms}
use Rattle.sj_forest_laws.specs.Opens.{as_opening, first_line}
use Rattle.sj_lang.specs.CodeView.{code_of, arm_of, branches_of}
use Rattle.sj_forest.proofs.openings.+first.Given as goal

-- the first of those that are left is the first of all
abbrev pub invariant-in_block-loop-stmt : goal.invariant-in_block-loop-stmt
invariant-in_block-loop-stmt l = first_line (found_in as_opening (code_of (drop l.stmt-index l.stmts))) ≡ first_line (found_in as_opening (code_of l.stmts))

abbrev pub invariant-in_arms-loop-arm : goal.invariant-in_arms-loop-arm
invariant-in_arms-loop-arm l = first_line (found_in_arms as_opening (branches_of (map arm_of (drop l.arm-index l.arms)))) ≡ first_line (found_in_arms as_opening (branches_of (map arm_of l.arms)))
