use Rattle.std.proofs.Common.{◌≡◌, ◌++◌, map, drop}
use Rattle.sj_lang.specs.CodeView.{code_of, arm_of, branches_of}
use Rattle.sj_check.specs.Named.{ends_named, branch_ends}
use Rattle.sj_check.proofs.name_lists.+named.Given as goal

-- with the names in what is left they are all
abbrev pub invariant-add_block-loop-stmt : goal.invariant-add_block-loop-stmt
invariant-add_block-loop-stmt l = (l.all.items ++ ends_named (code_of (drop l.stmt-index l.stmts))) ≡ (l.fn.all.items ++ ends_named (code_of l.stmts))

abbrev pub invariant-add_arms-loop-arm : goal.invariant-add_arms-loop-arm
invariant-add_arms-loop-arm l = (l.all.items ++ branch_ends (branches_of (map arm_of (drop l.arm-index l.arms)))) ≡ (l.fn.all.items ++ branch_ends (branches_of (map arm_of l.arms)))
