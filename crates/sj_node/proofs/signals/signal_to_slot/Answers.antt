use Rattle.sj_node.specs.declared.refusal.DeliverRefusal.TheVariants as refusals
use Rattle.std.proofs.Common.{◌≡◌, ap, subst}
use Rattle.std.specs.Prelude.{option_map}
use Rattle.sj_node.specs.Arriving.{then_held}
use Rattle.sj_node.specs.Passing.{IsUnfit}
use Rattle.sj_node.proofs.signals.signal_to_slot.Goals as goal

pub returns-in-Ok-clause-ok : goal.returns-in-Ok-clause-ok
returns-in-Ok-clause-ok c =
    rw (← c.take.ensures.value, c.in-Some-Held.is, c.in-Some-Held.field-0-is) (ap (option_map then_held) (c.in-Ok.ensures.ok c.args.to))

pub returns-in-Err-clause-unfit : goal.returns-in-Err-clause-unfit
returns-in-Err-clause-unfit c =
    λ unfit. let e : refusals.Unfit ≡ c.in-Err.refusal = cc in rw (← c.take.ensures.value, c.in-Some-Held.is, c.in-Some-Held.field-0-is)
    (ap (option_map then_held) (c.in-Err.ensures.unfit (subst IsUnfit e tt) c.args.to))
