use Rattle.std.proofs.Common.{◌≡◌, ◌≤◌, length, drop, take, map}
use Rattle.sj_lang.specs.CodeView.{code_of, arm_of, branches_of}
use Rattle.sj_machine.specs.Arena.{codes_of, code_in, arms_in, IsBelow, AreBelow, Grown}
use Rattle.sj_machine.proofs.builders.+build.Given as goal

abbrev pub invariant-add_block-loop-at : goal.invariant-add_block-loop-at
invariant-add_block-loop-at l = record {
  within : l.at ≤ length l.stmts;
  code : code_in (codes_of l.nodes.items) l.next ≡ code_of (drop l.at l.stmts);
  below : IsBelow (length l.nodes.items) l.next;
  grown : Grown l.fn.nodes.items l.nodes.items;
}

abbrev pub decreases-add_block-loop-at : goal.decreases-add_block-loop-at
decreases-add_block-loop-at l = l.at

abbrev pub invariant-add_arms-loop-arm : goal.invariant-add_arms-loop-arm
invariant-add_arms-loop-arm l = record {
  arms : arms_in (codes_of l.nodes.items) l.out.items ≡ branches_of (map arm_of (take l.arm-index l.arms));
  below : AreBelow (length l.nodes.items) l.out.items;
  grown : Grown l.fn.nodes.items l.nodes.items;
}
