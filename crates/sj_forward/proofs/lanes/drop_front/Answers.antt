use Rattle.std.proofs.Common.{arith}
use Rattle.sj_forward.proofs.LaneLemmas.{drops_so, filled_there}
use Rattle.sj_forward.proofs.lanes.drop_front.Goals as goal

pub returns : goal.returns
returns c =
    let outs = c.args.outs.now.items in
    let out = c.index_mut-out.result.now in
    let some = filled_there outs c.args.to out c.index_mut-out.ensures.value c.requires in
    drops_so outs c.args.to out c.pop_front-front.new.self c.pop_front-front.result c.index_mut-out.ensures.value c.requires c.pop_front-front.ensures.items
    (c.pop_front-front.ensures.variant.1 (omega (arith, some, out.ok.0)))
