use Rattle.std.proofs.Common.{◌≡◌, map, take}
use Rattle.sj_core.specs.Replaying.{Follows}
use Rattle.sj_core.specs.Views.{line_at}
use Rattle.sj_core.specs.NodeWorld.{IsReached, file_in}
use Rattle.sj_core.proofs.node_world.NodeWorld.replay.Given as goal

abbrev pub invariant-loop-line : goal.invariant-loop-line
invariant-loop-line l = record {
  number : l.number ≡ l.line-index;
  reached : IsReached l.self;
  file : file_in l.self ≡ file_in l.initial.self;
  follows : Follows l.initial.self (map line_at (take l.line-index l.lines)) l.self;
}
