-- What a run with seats reports at its end.
use Rattle.std.specs.Prelude.{◌≡◌, ℕ, ◌<◌, Bool, List, length}
use Rattle.sj_lang.specs.FileAt.{FileAt}
use Rattle.sj_lane.specs.declared.lane.OutLane.{Ghosts as OutLane}
use Rattle.sj_lane.specs.declared.lane.InLane.{Ghosts as InLane}
use Rattle.sj_rules.specs.Log.{LineAt}
use Rattle.sj_seat_laws.specs.SeatsWorld.{SeatsWorld}
use Rattle.sj_seat_run.specs.Logged.{AreLoggedBy}
use Rattle.sj_seat_texts.specs.Named.{IsNamedBy}
use Rattle.sj_seat_told.specs.Quiet.{IsEndOf, IsQuietOf}
use Rattle.sj_seat_told_laws.specs.SeatsStands.{seats_verdict}
use Rattle.sj_seat_told_laws.specs.SeatsTranscript.{seats_transcript}
use Rattle.sj_seats.specs.Draining.{IsPrefix}
use Rattle.sj_seats.specs.Seated.{history_of, seats_of}
use Rattle.sj_seats.specs.declared.seated.SeatedWorld.{SeatedWorld}
use Rattle.sj_semantics.specs.declared.Verdict.{Verdict}

-- the acts of the world's history lead to a plain world of which that is the transcript and the verdict
pub record IsToldBy (file : FileAt) (w : SeatedWorld) (verdict : Verdict) (text : List ℕ) : Type 0 where
  pub plain : SeatsWorld
  pub is : IsEndOf file w plain
  pub transcript : text ≡ seats_transcript file plain
  pub ends : verdict ≡ seats_verdict plain

-- a world of the file that leaves nothing to do, in which code plays these parties
pub record IsAtEnd (file : FileAt) (seats : ℕ → Bool) (w : SeatedWorld) : Type 0 where
  pub quiet : IsQuietOf file w
  pub same : (p : ℕ) → p < length file.parties → seats_of w p ≡ seats p

-- its history is the joined logs of workers that ran over such lanes, and then what was left to do
pub record IsAfterRun {O I : Type 0} (outward : OutLane O) (inward : InLane I) (joined : O → I → Type 0) (file : FileAt) (looks : ℕ) (tells : Bool) (seats : ℕ → Bool) (w : SeatedWorld) : Type 0 where
  pub lines : List LineAt
  pub logged : AreLoggedBy outward inward joined file looks tells seats lines
  pub begins : IsPrefix lines (history_of w)

-- that is the transcript and the verdict of the world, its texts named by those of a run
pub record IsToldUnder (file : FileAt) (w : SeatedWorld) (verdict : Verdict) (text : List ℕ) : Type 0 where
  pub texts : List (List ℕ)
  pub named : FileAt
  pub is : IsNamedBy file texts named
  pub told : IsToldBy named w verdict text
