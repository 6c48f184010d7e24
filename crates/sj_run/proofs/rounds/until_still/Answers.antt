use Rattle.std.proofs.Common.{arith}
use Rattle.sj_steal.proofs.EachLemmas.{each2_trans}
use Rattle.sj_steal.proofs.RunLemmas.{each2_length}
use Rattle.sj_work.specs.Worked.{Worked}
use Rattle.sj_run.proofs.rounds.until_still.Goals as goal

pub round-requires-in-loop-clause-few : goal.round-requires-in-loop-clause-few
round-requires-in-loop-clause-few g c κs within =
    let many = each2_length (Worked g.O.OutLane g.I.InLane c.args.looks)
    c.args.workers.items c.loop.workers.items c.loop.invariant in
    omega (arith, many, c.requires.few)

pub loop-preserved : goal.loop-preserved
loop-preserved g c =
    each2_trans (Worked g.O.OutLane g.I.InLane c.args.looks)
    (Worked g.O.OutLane g.I.InLane c.args.looks)
    (Worked g.O.OutLane g.I.InLane c.args.looks)
    (λ x y z. c.calls_compose.ensures c.args.looks c.args.looks x y z) c.args.workers.items c.loop.workers.items c.in_ok-workers-2.workers.items c.loop.invariant
    c.in_ok-workers-2.ensures
