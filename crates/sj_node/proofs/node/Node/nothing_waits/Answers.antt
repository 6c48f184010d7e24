use Rattle.std.proofs.Common.{arith}
use Rattle.std.proofs.lemmas.Grind.{common_steps}
use Rattle.sj_node.proofs.ReadingLemmas.{no_frames, none_in}
use Rattle.sj_node.proofs.node.Node.nothing_waits.Goals as goal

pub returns-else-to-len : goal.returns-else-to-len
returns-else-to-len c =
    let outs = c.args.self.now.outs.items in
    let out = c.index.result.now in (
      λ yes. no_frames outs c.args.to out (grind (arith, common_steps)) c.index.ensures (grind (arith, common_steps, out.ok)),
      λ none. let empty = none_in outs c.args.to out (grind (arith, common_steps)) c.index.ensures none in grind (arith, common_steps, out.ok, empty),
    )
