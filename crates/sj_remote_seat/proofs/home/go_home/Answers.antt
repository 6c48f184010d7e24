use Rattle.std.proofs.Common.{◌∙◌, ap}
use Rattle.sj_node.specs.Node.{log_of}
use Rattle.sj_work.specs.Views.{node_of}
use Rattle.sj_remote_seat.proofs.HandedLemmas.{home_has}
use Rattle.sj_remote_seat.proofs.SatLemmas.{put_together, resembles_same, turns_none}
use Rattle.sj_remote_seat.proofs.home.go_home.Goals as goal

pub returns-in-Ok : goal.returns-in-Ok
returns-in-Ok c =
    let a = c.args.seat in
    let b = c.with_worker.result in
    let m = node_of c.into_parts-worker.result.0 in
    let n = node_of c.carry.new.worker in
    let from = ap node_of c.into_parts-worker.ensures.worker in
    let to = ap node_of c.with_worker.ensures.worker in
    turns_none a b
    (put_together c.into_parts-worker.result.1 a b m n c.into_parts-worker.ensures.holds c.with_worker.ensures.holds from to (resembles_same m n c.carry.ensures.node))
    (ap log_of (to ∙ c.carry.ensures.node ∙ from))
    (home_has a b c.into_parts-worker.result.0 c.carry.new.worker c.into_parts-worker.ensures.worker c.with_worker.ensures.worker c.carry.ensures)
