use Rattle.std.proofs.Common.{ap, ◌∙◌, arith, length, ◌<◌}
use Rattle.std.specs.FinMap as map
use Rattle.sj_check.proofs.TableLemmas.{spots_in-set}
use Rattle.sj_check.proofs.live.LiveEnds.put.Goals as goal

pub returns : goal.returns
returns c =
    let room : c.args.end < length c.grow.new.table.items = omega (arith, c.in_ok-grow.ensures.room) in
    spots_in-set c.self.inside.table.items c.grow.new.table.items c.args.end c.args.spot room c.in_ok-grow.ensures.kept
    ∙ ap (λ m. map.insert m c.args.end c.args.spot) c.self.view_is
