use Rattle.std.proofs.Common.{◌≡◌, map, take}
use Rattle.sj_core.specs.NodeWorld.{file_in}
use Rattle.sj_core.specs.Views.{line_at}
use Rattle.sj_core.proofs.RedoLemmas.{IsLedBy}
use Rattle.sj_core.proofs.node_world.NodeWorld.replayed.Given as goal

abbrev pub invariant-loop-done : goal.invariant-loop-done
invariant-loop-done l = record {
  led : IsLedBy l.self (map line_at (take l.done l.lines.items));
  file : file_in l.self ≡ file_in l.fn.self;
}
