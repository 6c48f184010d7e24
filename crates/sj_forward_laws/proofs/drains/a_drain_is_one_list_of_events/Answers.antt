use Rattle.sj_forward_laws.proofs.DrainLemmas.{drained_once}
use Rattle.sj_rules.specs.Party.{play_of}
use Rattle.sj_forward_laws.proofs.drains.a_drain_is_one_list_of_events.Goals as goal

pub returns : goal.returns
returns c = λ file n w first second ts us a b. drained_once (play_of file) n w first second ts us a b
