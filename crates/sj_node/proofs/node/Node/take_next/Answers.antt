use Rattle.sj_node.specs.Calls.{place_here}
use Rattle.sj_node.proofs.SeatLemmas.{on_ok}
use Rattle.sj_node.proofs.node.Node.take_next.Goals as goal

pub returns-in_default : goal.returns-in_default
returns-in_default c =
    let of = c.call_take_value.ensures in
    let place = place_here c.args.self.now c.args.place in
    record {
      ok = on_ok c.call_take_value.result _ _ (λ does. does place) of.ok;
      err = of.err;
      connects = of.connects;
      program = of.program;
      late = of.late;
      unfit = λ unfit. of.unfit unfit place;
    }
