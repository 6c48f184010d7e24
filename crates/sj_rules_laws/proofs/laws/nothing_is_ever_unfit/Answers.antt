use Rattle.std.proofs.Common.{length}
use Rattle.sj_rules.specs.Party.{IsDone, play_of, binds}
use Rattle.sj_rules.specs.Plain.{plain_at}
use Rattle.sj_rules_laws.proofs.HaltLemmas.{acts_unless_halted}
use Rattle.sj_rules_laws.proofs.LawfulLemmas.{run_is_lawful}
use Rattle.sj_rules_laws.proofs.laws.nothing_is_ever_unfit.Goals as goal

pub returns : goal.returns
returns c = λ file ps w core p accepted run kept free.
    let a = acts_unless_halted IsDone (play_of file) binds (length file.parties) core (plain_at w) kept (run_is_lawful file ps w accepted run) p free in (a.some, a.is)
