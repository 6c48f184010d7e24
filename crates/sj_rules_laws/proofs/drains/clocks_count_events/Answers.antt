use Rattle.sj_rules.specs.Party.{play_of}
use Rattle.sj_rules_laws.proofs.ClockLemmas.{clock_rises}
use Rattle.sj_rules_laws.proofs.LimitLemmas.{core_run_clocks}
use Rattle.sj_rules_laws.proofs.drains.clocks_count_events.Goals as goal

pub returns-clause-low : goal.returns-clause-low
returns-clause-low c = λ file turns core run. core_run_clocks file turns core run

pub returns-clause-rises : goal.returns-clause-rises
returns-clause-rises c = λ file core after pick p event h. clock_rises (play_of file) pick core p event after h
