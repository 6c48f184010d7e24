use Rattle.std.proofs.Common.{rules, inl, inr}
use Rattle.std.specs.Prelude.{false}
use Rattle.sj_command.proofs.OneTask.{means_alone}
use Rattle.sj_command.proofs.readers.unforwarded.Goals as goal

pub returns-in_default-4-clause-none : goal.returns-in_default-4-clause-none
returns-in_default-4-clause-none c e t m =
    elim (means_alone _ t m) [
      | inl run ↦ search rules
      | inr (inl replay) ↦ search rules
      | inr (inr alone) ↦ c.flag_in.ensures.none c.in_default.is-0 false alone.0
    ]
