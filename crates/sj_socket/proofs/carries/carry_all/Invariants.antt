use Rattle.std.proofs.Common.{◌≡◌, ◌<◌, ◌++◌, ℕ}
use Rattle.sj_lane.specs.Rings.{Each2}
use Rattle.sj_lane.specs.Square.{in_at, out_at}
use Rattle.sj_socket.specs.Kept.{LanesKept}
use Rattle.sj_socket.specs.Own.{IsMoved, own_came, own_sent}
use Rattle.sj_socket.proofs.carries.carry_all.Given as goal

abbrev pub invariant-loop-party : goal.invariant-loop-party
invariant-loop-party l = record {
  kept : Each2 LanesKept l.initial.lanes l.lanes;
  own : (p : ℕ) → own_came l.lanes p ++ own_sent l.lanes p ≡ own_came l.initial.lanes p ++ own_sent l.initial.lanes p;
  moved : (p : ℕ) → p < l.party → IsMoved (out_at l.lanes p p) (in_at l.lanes p p);
}
