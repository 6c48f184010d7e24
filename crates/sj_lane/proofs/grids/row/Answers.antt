use Rattle.std.proofs.Common.{rules, length}
use Rattle.sj_lane.proofs.GridLemmas.{grid_more}
use Rattle.sj_lane.proofs.grids.row.Goals as goal

pub loop-to-preserved : goal.loop-to-preserved
loop-to-preserved c =
    let s = c.loop-to.invariant.size in
    grid_more (length c.args.lanes.now.items) c.args.from c.loop-to.to c.loop-to.lanes.items c.link.new.lanes.items c.requires.from (search rules) (let l = c.in_ok-link.ensures in l.size) c.loop-to.invariant c.in_ok-link.ensures
