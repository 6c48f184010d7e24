use Rattle.sj_seat_run.specs.Played.{PlayedSo}
use Rattle.sj_seat_run.proofs.parts.play_out.Given as goal

-- what became of the guest, and what was listed, so far
abbrev pub invariant-loop : goal.invariant-loop
invariant-loop g l = PlayedSo g.O.OutLane g.I.InLane l.fn.guest l.guest l.fn.opened.items l.opened.items
