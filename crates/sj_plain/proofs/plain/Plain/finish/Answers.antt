use Rattle.std.proofs.Common.{ap, arith, length}
use Rattle.std.proofs.lemmas.Result.{on_ok_weaker}
use Rattle.sj_plain.specs.Course.{acts_in, file_in, world_in}
use Rattle.sj_plain.proofs.CountLemmas.{counts}
use Rattle.sj_plain.proofs.CourseLemmas.{at_the_end, still_run}
use Rattle.sj_plain.proofs.plain.Plain.finish.Goals as goal

pub invariant_of-self : goal.invariant_of-self
invariant_of-self c = record {
  run = still_run c.self.inside.course c.finish.new.self c.self.invariant.run c.finish.ensures.on;
  ordered = c.finish.ensures.ordered;
  few = omega (arith, c.finish.ensures.count, c.self.invariant.few);
  connects = omega (arith, ap (λ v. length v.connects) c.finish.ensures.on.kept, c.self.invariant.connects);
}

pub returns-clause-end : goal.returns-clause-end
returns-clause-end c =
    on_ok_weaker c.finish.result
    (λ settled. at_the_end (file_in c.finish.new.self) (acts_in c.finish.new.self) (world_in c.finish.new.self) (omega (arith, ap (λ v. length v.connects) c.finish.ensures.on.kept, c.self.invariant.connects)) (still_run c.self.inside.course c.finish.new.self c.self.invariant.run c.finish.ensures.on) settled)
    c.finish.ensures.settled

pub returns-clause-run : goal.returns-clause-run
returns-clause-run c = still_run c.self.inside.course c.finish.new.self c.self.invariant.run c.finish.ensures.on

pub returns-clause-parties : goal.returns-clause-parties
returns-clause-parties c = (counts (file_in c.finish.new.self) (acts_in c.finish.new.self) (world_in c.finish.new.self) (still_run c.self.inside.course c.finish.new.self c.self.invariant.run c.finish.ensures.on)).0

pub returns-clause-sessions : goal.returns-clause-sessions
returns-clause-sessions c = (counts (file_in c.finish.new.self) (acts_in c.finish.new.self) (world_in c.finish.new.self) (still_run c.self.inside.course c.finish.new.self c.self.invariant.run c.finish.ensures.on)).1
