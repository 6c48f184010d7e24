use Rattle.std.proofs.Common.{◌≡◌, ◌<◌, ◌≤◌, ℕ, None, true, false, length}
use Rattle.sj_semantics.specs.World.{act_of}
use Rattle.sj_plain.specs.Course.{GoesOn, IsOrdered, world_in}
use Rattle.sj_plain.specs.Finish.{IsRound}
use Rattle.sj_plain.specs.Finishing.{Ahead}
use Rattle.sj_plain.specs.Rounds.{steps_left}
use Rattle.sj_plain.proofs.FinishingLemmas.{TurnsFrom}
use Rattle.sj_plain.proofs.course.Course.round.Given as goal

abbrev pub invariant-loop-party : goal.invariant-loop-party
invariant-loop-party l = record {
  on : GoesOn l.fn.self l.self;
  ordered : IsOrdered l.self;
  count : length (world_in l.self).parties ≡ length (world_in l.fn.self).parties;
  ahead : Ahead IsRound (TurnsFrom (length (world_in l.fn.self).parties) l.party) l.fn.self l.self;
  same : l.acted ≡ false → world_in l.self ≡ world_in l.fn.self;
  less : steps_left (world_in l.self) ≤ steps_left (world_in l.fn.self);
  busy : l.acted ≡ true → steps_left (world_in l.self) < steps_left (world_in l.fn.self);
  idle : l.acted ≡ false → (q : ℕ) → q < l.party → act_of (world_in l.self) q ≡ None;
}
