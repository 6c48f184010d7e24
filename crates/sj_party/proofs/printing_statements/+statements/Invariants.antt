use Rattle.std.proofs.Common.{◌+◌, ◌++◌}
use Rattle.std.specs.Prelude.{map}
use Rattle.sj_text.proofs.CutLemmas.{StillTo}
use Rattle.sj_lang.specs.CodeView.{code_of, arm_of, branches_of}
use Rattle.sj_party.specs.CanonicalExpression.{spelling_of}
use Rattle.sj_party.specs.CanonicalCode.{in_block, arms_text, block_text}
use Rattle.sj_party.proofs.PrintedCode.{code_ahead, arms_ahead}
use Rattle.sj_party.proofs.printing_statements.+statements.Given as goal

abbrev pub invariant-put_block-loop-stmt : goal.invariant-put_block-loop-stmt
invariant-put_block-loop-stmt l =
    StillTo l.fn.text.items (l.lead ++ block_text (spelling_of l.names) l.n (code_of l.body)) (code_ahead (spelling_of l.names) l.n l.inner l.stmt-index l.body) l.text.items

abbrev pub invariant-put_arms-loop-arm : goal.invariant-put_arms-loop-arm
invariant-put_arms-loop-arm l =
    StillTo l.fn.text.items (in_block l.n (arms_text (spelling_of l.names) (l.n + 2) (branches_of (map arm_of l.arms)))) (arms_ahead (spelling_of l.names) l.n l.inner l.arm-index l.arms) l.text.items
