use Rattle.sj_seat_told.proofs.SessionLemmas.{AreBelow}
use Rattle.sj_seat_told.proofs.openings.session_count.Given as goal

-- the sessions so far have numbers below
abbrev pub invariant-loop-session : goal.invariant-loop-session
invariant-loop-session l = AreBelow l.opened l.session-index l.count
