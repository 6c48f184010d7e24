use Rattle.std.proofs.Common.{◌≡◌, ◌<◌, length}
use Rattle.sj_plain.specs.Course.{GoesOn, IsOrdered, world_in}
use Rattle.sj_plain.specs.Finish.{ActsOut}
use Rattle.sj_plain.specs.Finishing.{Ahead}
use Rattle.sj_plain.specs.Rounds.{steps_left}
use Rattle.sj_plain.proofs.course.Course.turn.Given as goal

abbrev pub invariant-loop : goal.invariant-loop
invariant-loop l = record {
  on : GoesOn l.fn.self l.self;
  ordered : IsOrdered l.self;
  count : length (world_in l.self).parties ≡ length (world_in l.fn.self).parties;
  ahead : Ahead (ActsOut l.fn.party) (ActsOut l.fn.party) l.fn.self l.self;
  busy : steps_left (world_in l.self) < steps_left (world_in l.fn.self);
}

abbrev pub decreases-loop : goal.decreases-loop
decreases-loop l = steps_left (world_in l.self)
