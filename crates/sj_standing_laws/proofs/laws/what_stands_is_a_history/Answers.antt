use Rattle.std.proofs.Common.{length, refl}
use Rattle.sj_rules.specs.Party.{play_of}
use Rattle.sj_rules.specs.Start.{core_start}
use Rattle.sj_standing_laws.proofs.StandingLemmas.{standing_join, standing_log}
use Rattle.sj_standing_laws.proofs.laws.what_stands_is_a_history.Goals as goal

pub returns-clause-joined : goal.returns-clause-joined
returns-clause-joined c = λ file pick blank states last grown. standing_join (play_of file) pick blank (length file.parties) (core_start file) states last grown (λ p q. refl)

pub returns-clause-history : goal.returns-clause-history
returns-clause-history c = λ file pick blank states last lines grown joined. standing_log (play_of file) pick blank (length file.parties) (core_start file) states last lines grown (λ p q. refl) joined
