use Rattle.std.proofs.Common.{arith}
use Rattle.sj_steal.proofs.EachLemmas.{each2_trans}
use Rattle.sj_steal.proofs.RunLemmas.{each2_length}
use Rattle.sj_work.specs.Worked.{Worked}
use Rattle.sj_run.proofs.rounds.in_rounds.Goals as goal

pub round-requires-clause-few : goal.round-requires-clause-few
round-requires-clause-few g c κs within =
    let many = each2_length (Worked g.O.OutLane g.I.InLane c.min-few.result)
    c.args.workers.items c.in_ok-still.still.items c.in_ok-still.ensures in
    omega (arith, many, c.requires.few)

pub returns : goal.returns
returns g c =
    each2_trans (Worked g.O.OutLane g.I.InLane c.min-few.result)
    (Worked g.O.OutLane g.I.InLane c.args.looks)
    (Worked g.O.OutLane g.I.InLane c.args.looks)
    (λ x y z. c.calls_compose.ensures c.min-few.result c.args.looks x y z) c.args.workers.items c.in_ok-still.still.items c.in_ok-workers.workers.items c.in_ok-still.ensures
    c.in_ok-workers.ensures
