use Rattle.sj_lane.specs.Rings.{Each2}
use Rattle.sj_socket.specs.Kept.{OutKept}
use Rattle.sj_socket.specs.Own.{SameSent}
use Rattle.sj_socket.specs.Streams.{told}
use Rattle.sj_socket.proofs.carries.carry_outs.Given as goal

abbrev pub invariant-loop-to : goal.invariant-loop-to
invariant-loop-to l = record {
  kept : Each2 (OutKept told) l.initial.outs.items l.outs.items;
  lists : Each2 SameSent l.initial.outs.items l.outs.items;
}
