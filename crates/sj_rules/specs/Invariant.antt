-- The invariant of one session: s and r are its two ends, x and y what the plain world knows of
-- them.
use Rattle.std.specs.Prelude.{◌≡◌, ◌+◌}
use Rattle.sj_rules.specs.Record.{other_end}
use Rattle.sj_rules.specs.Seat.{Side}
use Rattle.sj_rules.specs.PlainSide.{PlainSide}
use Rattle.sj_rules.specs.Counts.{SeatFits, ResendFits}
use Rattle.sj_rules.specs.Numbers.{Pace, turned, NumbersFit, IsWithinHops}
use Rattle.sj_rules.specs.Coming.{Comes, AreOld}

-- one direction, from s to r
pub record Direction {P : Type 0} (IsOver : P → Type 0) (pace : Pace) (x y : PlainSide P) (s r : Side P) : Type 0 where
  -- records and counts: what r's record has, beside what the plain world knows of r
  pub fits : SeatFits IsOver r.id x y r.seat
  -- and so for the place that an Expected record of r awaits
  pub place : r.place ≡ y.place
  -- counts: a Give of s resends from what r has taken, under its new number
  pub resend : ResendFits y.taken s.seat
  -- frames: what is under r's coming number
  pub comes : Comes pace r.id x y s.seat r.seat r.live
  -- and what is under the number of a Signalled r
  pub old : AreOld pace r.id x s.seat r.seat r.old

-- the session
pub record IsSound {P : Type 0} (IsOver : P → Type 0) (pace : Pace) (x y : PlainSide P) (s r : Side P) : Type 0 where
  -- these are the two ends of one session
  pub others : s.id ≡ other_end r.id
  -- numbers: connection numbers and peers go together
  pub numbers : NumbersFit pace s.seat r.seat
  -- and stay within the handovers that were begun
  pub hops : IsWithinHops pace (x.hops + y.hops) s.seat r.seat
  -- what goes from s to r, and what goes back
  pub there : Direction IsOver pace x y s r
  pub back : Direction IsOver (turned pace) y x r s
