use Rattle.sj_standing_laws.proofs.StandingLemmas.{what_stands}
use Rattle.sj_standing_laws.proofs.laws.what_stands_is_work_of_parties.Goals as goal

pub returns : goal.returns
returns c = λ play pick blank n start states last grown empty. what_stands play pick blank n start states last grown empty
