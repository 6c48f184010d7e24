use Rattle.sj_party.proofs.ViabilityLemmas.{viable, viable_over, whole, not_within}
use Rattle.sj_party.proofs.laws.a_file_goes_on_up_to_there.Goals as goal

pub returns-clause-front : goal.returns-clause-front
returns-clause-front c = viable

pub returns-clause-over : goal.returns-clause-over
returns-clause-over c = viable_over

pub returns-clause-within : goal.returns-clause-within
returns-clause-within c = not_within

pub returns-clause-whole : goal.returns-clause-whole
returns-clause-whole c = whole
