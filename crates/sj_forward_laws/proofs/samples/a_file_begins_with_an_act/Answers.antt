use Rattle.std.proofs.Common.{refl}
use Rattle.sj_forward_laws.proofs.samples.a_file_begins_with_an_act.Goals as goal

pub returns-clause-delivery : goal.returns-clause-delivery
returns-clause-delivery c = refl

pub returns-clause-act : goal.returns-clause-act
returns-clause-act c = refl
