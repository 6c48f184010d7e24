use Rattle.std.proofs.Common.{ap, arith, length}
use Rattle.sj_plain.specs.Course.{acts_in, file_in, world_in}
use Rattle.sj_plain.proofs.CountLemmas.{counts}
use Rattle.sj_plain.proofs.CourseLemmas.{still_run}
use Rattle.sj_plain.proofs.plain.Plain.act.Goals as goal

pub invariant_of-self : goal.invariant_of-self
invariant_of-self c = record {
  run = still_run c.self.inside.course c.act.new.self c.self.invariant.run c.act.ensures.on;
  ordered = c.act.ensures.ordered;
  few = omega (arith, c.act.ensures.count, c.self.invariant.few);
  connects = omega (arith, ap (λ v. length v.connects) c.act.ensures.on.kept, c.self.invariant.connects);
}

pub returns-clause-run : goal.returns-clause-run
returns-clause-run c = still_run c.self.inside.course c.act.new.self c.self.invariant.run c.act.ensures.on

pub returns-clause-parties : goal.returns-clause-parties
returns-clause-parties c = (counts (file_in c.act.new.self) (acts_in c.act.new.self) (world_in c.act.new.self) (still_run c.self.inside.course c.act.new.self c.self.invariant.run c.act.ensures.on)).0

pub returns-clause-sessions : goal.returns-clause-sessions
returns-clause-sessions c = (counts (file_in c.act.new.self) (acts_in c.act.new.self) (world_in c.act.new.self) (still_run c.self.inside.course c.act.new.self c.self.invariant.run c.act.ensures.on)).1
