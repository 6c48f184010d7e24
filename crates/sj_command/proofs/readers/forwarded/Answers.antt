use Rattle.std.proofs.Common.{◌∙◌, ap, inl, inr, sym}
use Rattle.std.specs.Prelude.{false}
use Rattle.sj_command.proofs.OneTask.{flags_differ, means_forwarding}
use Rattle.sj_command.proofs.readers.forwarded.Goals as goal

pub returns-in_default-4-clause-none : goal.returns-in_default-4-clause-none
returns-in_default-4-clause-none c e t m =
    elim (means_forwarding _ t m) [
      | inl same ↦ c.flag_in.ensures.none c.in_default.is-1 false (ap (λ k. k.log) same)
      | inr off ↦ flags_differ (sym off ∙ c.requires.forward)
    ]
