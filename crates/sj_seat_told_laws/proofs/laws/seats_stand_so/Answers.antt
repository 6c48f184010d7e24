use Rattle.std.proofs.Common.{ℕ, List, [], ◌∷◌, unwrap_or, refl}
use Rattle.std.specs.Fmt.{digits}
use Rattle.sj_seat_laws.specs.SeatSamples.{both, first, second}
use Rattle.sj_seat_laws.specs.SeatsStart.{Callers, seats_start}
use Rattle.sj_seat_laws.specs.SeatsWorld.{SeatsWorld, after_seats}
use Rattle.sj_semantics_laws.specs.Samples.{greeting}
use Rattle.sj_seat_told_laws.specs.SeatsTranscript.{seats_transcript}
use Rattle.sj_seat_told_laws.proofs.laws.seats_stand_so.Goals as goal

-- the world after these acts
abbrev last : Callers → List ℕ → SeatsWorld
last calls acts = unwrap_or (after_seats (seats_start greeting calls) acts) (seats_start greeting calls)

pub returns-clause-first : goal.returns-clause-first
returns-clause-first c = (last first (0 ∷ 1 ∷ 0 ∷ 1 ∷ []), refl, refl, refl)

pub returns-clause-second : goal.returns-clause-second
returns-clause-second c = (last second (0 ∷ 1 ∷ 1 ∷ 0 ∷ []), refl, refl, refl)

pub returns-clause-both : goal.returns-clause-both
unfolding seats_transcript digits
returns-clause-both c = (last both (0 ∷ 1 ∷ 0 ∷ 1 ∷ []), refl, refl)

pub returns-clause-waits : goal.returns-clause-waits
returns-clause-waits c = refl

pub returns-clause-blocked : goal.returns-clause-blocked
returns-clause-blocked c = refl

pub returns-clause-gone : goal.returns-clause-gone
unfolding seats_transcript digits
returns-clause-gone c = refl
