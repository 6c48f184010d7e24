use Rattle.sj_rules_laws.proofs.CoreSampleLemmas.{accepted_gives, unaccepted_gives, opened_and_moved_gives}
use Rattle.sj_rules_laws.proofs.samples.openings_are_logged_so.Goals as goal

pub returns-clause-accepted : goal.returns-clause-accepted
returns-clause-accepted c = accepted_gives

pub returns-clause-unaccepted : goal.returns-clause-unaccepted
returns-clause-unaccepted c = unaccepted_gives

pub returns-clause-moved : goal.returns-clause-moved
returns-clause-moved c = opened_and_moved_gives
