use Rattle.std.proofs.Common.{ap, inl, inr}
use Rattle.std.specs.Prelude.{false, true}
use Rattle.sj_command.proofs.OneTask.{means_forwarding}
use Rattle.sj_command.proofs.readers.task_of.Goals as goal

pub returns-in-None-clause-none : goal.returns-in-None-clause-none
returns-in-None-clause-none c e t m =
    elim (means_forwarding _ t m) [
      | inl same ↦ c.flag_in.ensures.none c.in-None.is true (ap (λ k. k.forward) same)
      | inr off ↦ c.flag_in.ensures.none c.in-None.is false off
    ]
