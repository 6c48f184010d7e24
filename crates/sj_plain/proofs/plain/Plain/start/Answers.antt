use Rattle.std.proofs.Common.{ap, arith, length}
use Rattle.sj_check.specs.Held.{file_in as held}
use Rattle.sj_lang.specs.FileView.{file_of}
use Rattle.sj_plain.proofs.BeginLemmas.{begins, length-start}
use Rattle.sj_plain.specs.Course.{acts_in, file_in, world_in}
use Rattle.sj_plain.proofs.CountLemmas.{counts}
use Rattle.sj_plain.proofs.plain.Plain.start.Goals as goal

pub invariant_of-result : goal.invariant_of-result
invariant_of-result c = record {
  run = begins (file_of (held c.args.accepted.now)) c.in_ok-course.course c.in_ok-course.ensures.file c.in_ok-course.ensures.acts c.in_ok-course.ensures.world;
  ordered = c.in_ok-course.ensures.ordered;
  few = omega (arith, ap (λ w. length w.parties) c.in_ok-course.ensures.world, length-start (file_of (held c.args.accepted.now)), c.in_ok-course.ensures.accepted.within.parties);
  connects = omega (arith, ap (λ v. length v.connects) c.in_ok-course.ensures.file, c.in_ok-course.ensures.accepted.within.connects);
}

pub returns-clause-parties : goal.returns-clause-parties
returns-clause-parties c =
    (counts (file_in c.in_ok-course.course) (acts_in c.in_ok-course.course) (world_in c.in_ok-course.course)
    (begins (file_of (held c.args.accepted.now)) c.in_ok-course.course c.in_ok-course.ensures.file c.in_ok-course.ensures.acts c.in_ok-course.ensures.world)).0

pub returns-clause-sessions : goal.returns-clause-sessions
returns-clause-sessions c =
    (counts (file_in c.in_ok-course.course) (acts_in c.in_ok-course.course) (world_in c.in_ok-course.course)
    (begins (file_of (held c.args.accepted.now)) c.in_ok-course.course c.in_ok-course.ensures.file c.in_ok-course.ensures.acts c.in_ok-course.ensures.world)).1
