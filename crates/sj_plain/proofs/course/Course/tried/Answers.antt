use Rattle.std.proofs.Common.{arith}
use Rattle.sj_plain.specs.Course.{world_in}
use Rattle.sj_plain.proofs.CourseLemmas.{act_costs}
use Rattle.sj_plain.proofs.course.Course.tried.Goals as goal

pub returns-in-Ok-clause-busy : goal.returns-in-Ok-clause-busy
returns-in-Ok-clause-busy c = λ _. omega (arith, act_costs (world_in c.args.self.now) (world_in c.act.new.self) c.args.party c.in-Ok.ensures.ok)
