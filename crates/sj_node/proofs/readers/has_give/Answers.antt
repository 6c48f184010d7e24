use Rattle.std.proofs.Common.{arith}
use Rattle.std.proofs.lemmas.Grind.{common_steps}
use Rattle.sj_node.proofs.PlainFrameLemmas.{give_there}
use Rattle.sj_node.proofs.readers.has_give.Goals as goal

pub returns-then-is_give-clause-yes : goal.returns-then-is_give-clause-yes
returns-then-is_give-clause-yes c = λ yes none.
    let out = c.args.out.now in
    give_there out.items c.loop-at.at c.index.result.now (grind (arith, common_steps, out.ok)) c.index.ensures (c.is_give.ensures.yes c.if-is_give.true) none
