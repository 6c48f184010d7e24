use Rattle.sj_headline_laws.proofs.SampleLemmas.{opening_is_accepted}
use Rattle.sj_headline_laws.proofs.laws.a_file_that_opens_a_session_is_accepted.Goals as goal

pub returns : goal.returns
returns c = opening_is_accepted
