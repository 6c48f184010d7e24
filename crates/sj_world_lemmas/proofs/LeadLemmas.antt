-- How the numbers of two ends go together, and a session seen from its other end.
use Rattle.std.proofs.Common.{List}
use Rattle.sj_base.specs.declared.EndId.{EndId}
use Rattle.sj_rules.specs.Record.{BodyAt}
use Rattle.sj_rules.specs.Seat.{Seat, gone, peer_of, side_of}
use Rattle.sj_rules.specs.PlainSide.{PlainSide}
use Rattle.sj_rules.specs.Numbers.{Pace, ahead, Cause, by_ack, by_signal, NumbersFit, IsSignalledTo}
use Rattle.sj_rules.specs.Invariant.{IsSound}
use Rattle.sj_rules.specs.Coming.{Comes}

-- who lags is Signalled
pub behind_is_signalled : {P : Type 0} → (c : Cause) (s r : Seat P) → NumbersFit (ahead c) s r → IsSignalledTo (peer_of s) r
behind_is_signalled c gone r n = absurd (cc n.0)
behind_is_signalled c s gone n = absurd (cc n.0)
behind_is_signalled by_ack s r n = n.1
behind_is_signalled by_signal s r n = n.1

-- the same session with other frames under r's coming number
pub with_live : {P : Type 0} → (IsOver : P → Type 0) (pace : Pace) (x y : PlainSide P) (sid rid : EndId) (ps pr : P) (s r : Seat P) (so sl ro live rl : List (BodyAt P)) →
    IsSound IsOver pace x y (side_of sid ps s so sl) (side_of rid pr r ro live) → Comes pace rid x y s r rl →
    IsSound IsOver pace x y (side_of sid ps s so sl) (side_of rid pr r ro rl)
with_live IsOver pace x y sid rid ps pr s r so sl ro live rl sound comes = record {
  others = sound.others;
  numbers = sound.numbers;
  hops = sound.hops;
  there = record { fits = sound.there.fits; place = sound.there.place; resend = sound.there.resend; comes = comes; old = sound.there.old };
  back = record { fits = sound.back.fits; place = sound.back.place; resend = sound.back.resend; comes = sound.back.comes; old = sound.back.old };
}
