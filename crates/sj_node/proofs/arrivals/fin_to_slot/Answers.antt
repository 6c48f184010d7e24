use Rattle.std.proofs.Common.{ap}
use Rattle.std.specs.Prelude.{option_map}
use Rattle.std.proofs.lemmas.Result.{on_ok_weaker}
use Rattle.sj_node.specs.Arriving.{then_held}
use Rattle.sj_node.proofs.arrivals.fin_to_slot.Goals as goal

pub returns-in-Some-Held-clause-ok : goal.returns-in-Some-Held-clause-ok
returns-in-Some-Held-clause-ok c =
    rw (c.in-Some-Held.is, c.in-Some-Held.field-0-is)
    (on_ok_weaker c.fin_to_held.result (λ fits. ap (option_map then_held) (fits c.args.to)) c.fin_to_held.ensures.ok)

pub returns-in-Some-Held-clause-unfit : goal.returns-in-Some-Held-clause-unfit
returns-in-Some-Held-clause-unfit c =
    λ unfit. rw (c.in-Some-Held.is, c.in-Some-Held.field-0-is) (ap (option_map then_held) (c.fin_to_held.ensures.unfit unfit c.args.to))
