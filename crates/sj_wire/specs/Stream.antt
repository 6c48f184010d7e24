-- A stream of bytes that is fed in pieces.
use Rattle.std.specs.Prelude.{ℕ, ◌<◌, ⊤, List, [], ◌∷◌, ◌++◌, slice_index}
use Rattle.sj_rules.specs.Frames.{FrameAt}
use Rattle.sj_table.specs.declared.table.Spot.{Spot}
use Rattle.sj_wire.specs.Front.{Front, Cut, Refused, Whole, front_of}

-- each is a byte
abbrev pub IsBytes : List ℕ → Type 0
IsBytes bytes = (i : ℕ) → slice_index bytes i < 256

-- a call of a decoder: a piece is fed, or the next frame is asked for
pub data Call : Type 0 where
  Feed : (piece : List ℕ) → Call
  Next : Call

-- all that is fed
unfoldable pub fed_in : List Call → List ℕ
fed_in [] = []
fed_in (Feed piece ∷ calls) = piece ++ fed_in calls
fed_in (Next ∷ calls) = fed_in calls

-- the frame at the start, if any, and what the other calls answer after it
abbrev pub answered : (List ℕ → List (FrameAt Spot) × List ℕ) → Front → (unused : List ℕ) → List (FrameAt Spot) × List ℕ
answered others Cut unused = others unused
answered others (Refused w) unused = others unused
answered others (Whole f behind) unused = (f ∷ (others behind).0, (others behind).1)

-- the frames that the calls answer, and what is unused after them
unfoldable pub decoded : List Call → (unused : List ℕ) → List (FrameAt Spot) × List ℕ
decoded [] unused = ([], unused)
decoded (Feed piece ∷ calls) unused = decoded calls (unused ++ piece)
decoded (Next ∷ calls) unused = answered (decoded calls) (front_of unused) unused

-- no frame stands at the front
abbrev pub IsOver : Front → Type 0
IsOver Cut = ⊤
IsOver (Refused w) = ⊤
IsOver (Whole f behind) = ⊥
