use Rattle.std.proofs.Common.{◌≡◌, length}
use Rattle.sj_plain.specs.Course.{GoesOn, IsOrdered, world_in}
use Rattle.sj_plain.specs.Finish.{IsFinished}
use Rattle.sj_plain.specs.Finishing.{Ahead}
use Rattle.sj_plain.specs.Rounds.{steps_left}
use Rattle.sj_plain.proofs.course.Course.finish.Given as goal

abbrev pub invariant-loop : goal.invariant-loop
invariant-loop l = record {
  on : GoesOn l.fn.self l.self;
  ordered : IsOrdered l.self;
  count : length (world_in l.self).parties ≡ length (world_in l.fn.self).parties;
  ahead : Ahead IsFinished IsFinished l.fn.self l.self;
}

abbrev pub decreases-loop : goal.decreases-loop
decreases-loop l = steps_left (world_in l.self)
