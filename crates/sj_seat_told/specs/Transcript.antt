-- The transcript of a world with seats that leaves nothing to do.
use Rattle.std.specs.Prelude.{◌≡◌, ℕ, List, ◌++◌}
use Rattle.sj_lang.specs.FileAt.{FileAt}
use Rattle.sj_seat_laws.specs.SeatsWorld.{SeatsWorld}
use Rattle.sj_seat_told.specs.Quiet.{IsEndOf}
use Rattle.sj_seat_told_laws.specs.SeatsTranscript.{seats_transcript}
use Rattle.sj_seats.specs.declared.seated.SeatedWorld.{SeatedWorld}
use Rattle.sj_text.specs.Cut.{IsCutShort}

-- the text is the old one, and then the transcript of the plain world at its end
pub record IsToldAfter (file : FileAt) (w : SeatedWorld) (old new : List ℕ) : Type 0 where
  pub world : SeatsWorld
  pub is : IsEndOf file w world
  pub text : new ≡ old ++ seats_transcript file world

-- the old one, and then a prefix of it
pub record IsToldInPart (file : FileAt) (w : SeatedWorld) (old new : List ℕ) : Type 0 where
  pub world : SeatsWorld
  pub is : IsEndOf file w world
  pub text : IsCutShort old (seats_transcript file world) new
