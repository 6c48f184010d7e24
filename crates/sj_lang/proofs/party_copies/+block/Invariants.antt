use Rattle.std.proofs.Common.{◌≡◌, map, take}
use Rattle.sj_lang.specs.CodeView.{stmt_of, arm_of}
use Rattle.sj_lang.proofs.party_copies.+block.Given as goal

abbrev pub invariant-copied_block-loop-stmt : goal.invariant-copied_block-loop-stmt
invariant-copied_block-loop-stmt l = map stmt_of l.out.items ≡ map stmt_of (take l.stmt-index l.stmts)

abbrev pub invariant-copied_arms-loop-arm : goal.invariant-copied_arms-loop-arm
invariant-copied_arms-loop-arm l = map arm_of l.out.items ≡ map arm_of (take l.arm-index l.arms)
