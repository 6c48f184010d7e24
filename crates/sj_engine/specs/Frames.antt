-- Bytes as the frames that they spell, one after another.
use Rattle.std.specs.Prelude.{◌≡◌, Bool, true, false, ℕ, zero, suc, ◌<◌, ◌≤◌, List, [], ◌∷◌, ◌++◌, length, drop, take, ◌+◌}
use Rattle.std.specs.List.{flat_map}
use Rattle.sj_rules.specs.Frames.{FrameAt}
use Rattle.sj_table.specs.declared.table.Spot.{Spot}
use Rattle.sj_wire.specs.Front.{Front, Cut, Refused, Whole, front_of}
use Rattle.sj_wire.specs.Spelling.{spelling}

-- the bytes begin with what is no frame, whatever bytes follow
abbrev pub is_refused : Front → Bool
is_refused Cut = false
is_refused (Refused e) = true
is_refused (Whole f rest) = false

abbrev pub IsBroken : List ℕ → Type 0
IsBroken bytes = is_refused (front_of bytes) ≡ true

-- the frame at the front, and the frames of the other bytes
abbrev pub first_and : (List ℕ → List (FrameAt Spot)) → Front → List (FrameAt Spot)
first_and others Cut = []
first_and others (Refused e) = []
first_and others (Whole f rest) = f ∷ others rest

-- what the others leave, where a frame is at the front
abbrev pub rest_behind : (List ℕ → List ℕ) → List ℕ → Front → List ℕ
rest_behind others bytes Cut = bytes
rest_behind others bytes (Refused e) = bytes
rest_behind others bytes (Whole f rest) = others rest

-- at most so many frames
unfoldable pub frames_of : (most : ℕ) → List ℕ → List (FrameAt Spot)
frames_of zero bytes = []
frames_of (suc n) bytes = first_and (frames_of n) (front_of bytes)

-- what so many frames leave
unfoldable pub rest_of : (most : ℕ) → List ℕ → List ℕ
rest_of zero bytes = bytes
rest_of (suc n) bytes = rest_behind (rest_of n) bytes (front_of bytes)

-- the frames that bytes begin with, and what is left after them
abbrev pub frames_in : List ℕ → List (FrameAt Spot)
frames_in bytes = frames_of (length bytes) bytes

abbrev pub rest_in : List ℕ → List ℕ
rest_in bytes = rest_of (length bytes) bytes

-- the frame at the front takes so many bytes
pub record IsFront (bytes : List ℕ) (size : ℕ) (f : FrameAt Spot) (rest : List ℕ) : Type 0 where
  pub some : 0 < size
  pub within : size ≤ length bytes
  pub behind : rest ≡ drop size bytes
  pub parts : bytes ≡ spelling f ++ rest
  pub count : length (spelling f) ≡ size
  pub alone : front_of (spelling f) ≡ Whole f []

-- one more frame is used up, with its bytes
pub record UsesOne (bytes : List ℕ) (used size : ℕ) (f : FrameAt Spot) (rest : List ℕ) : Type 0 where
  pub within : used + size ≤ length bytes
  pub left : rest ≡ drop (used + size) bytes
  pub whole : rest_in (take (used + size) bytes) ≡ []
  pub spelt : take (used + size) bytes ≡ flat_map spelling (frames_in (take (used + size) bytes))
  pub frames : frames_in (take (used + size) bytes) ≡ frames_in (take used bytes) ++ f ∷ []
