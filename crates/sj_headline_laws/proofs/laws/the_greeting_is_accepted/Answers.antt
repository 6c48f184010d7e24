use Rattle.sj_headline_laws.proofs.GreetingLemmas.{greeting_is_accepted}
use Rattle.sj_headline_laws.proofs.laws.the_greeting_is_accepted.Goals as goal

pub returns : goal.returns
returns c = greeting_is_accepted
