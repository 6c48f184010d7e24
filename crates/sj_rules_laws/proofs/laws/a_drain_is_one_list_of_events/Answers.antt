use Rattle.sj_rules.specs.Party.{play_of}
use Rattle.sj_rules_laws.proofs.DrainLemmas.{drained_once}
use Rattle.sj_rules_laws.proofs.DrainEndLemmas.{drained_is_quiet}
use Rattle.sj_rules_laws.proofs.laws.a_drain_is_one_list_of_events.Goals as goal

pub returns-clause-one : goal.returns-clause-one
returns-clause-one c = λ file pick n core first second ts us a b. drained_once (play_of file) pick n core first second ts us a b

pub returns-clause-quiet : goal.returns-clause-quiet
returns-clause-quiet c = λ file pick n core last ts d. drained_is_quiet (play_of file) pick n core last ts d
