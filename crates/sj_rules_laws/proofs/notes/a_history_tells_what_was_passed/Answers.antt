use Rattle.sj_semantics.specs.World.{start_of}
use Rattle.sj_rules_laws.proofs.SentToldLemmas.{tied_sent}
use Rattle.sj_rules_laws.proofs.TakenToldLemmas.{tied_taken}
use Rattle.sj_rules_laws.proofs.TiedLemmas.{history_is_tied}
use Rattle.sj_rules_laws.proofs.notes.a_history_tells_what_was_passed.Goals as goal

pub returns-clause-sent : goal.returns-clause-sent
returns-clause-sent c = λ file pick lines core e accepted picks history. tied_sent e lines (start_of file) (history_is_tied file accepted pick picks lines core history)

pub returns-clause-taken : goal.returns-clause-taken
returns-clause-taken c = λ file pick lines core e accepted picks history. tied_taken e lines (start_of file) (history_is_tied file accepted pick picks lines core history)
