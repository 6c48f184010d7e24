use Rattle.sj_rules_laws.proofs.TiedLemmas.{history_is_tied}
use Rattle.sj_rules_laws.proofs.notes.a_history_is_tied_to_its_plain_run.Goals as goal

pub returns : goal.returns
returns c = λ file pick lines core accepted picks history. history_is_tied file accepted pick picks lines core history
