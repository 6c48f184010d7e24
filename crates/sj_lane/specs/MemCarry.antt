-- What of lanes in memory stays while frames are carried, and where the frames are that wait.
use Rattle.std.specs.Prelude.{◌≡◌, ◌⊎◌, ℕ, ◌<◌, List, [], ◌++◌, length, Option, Some, None}
use Rattle.sj_end.specs.declared.frames.Frame.{Frame}
use Rattle.sj_lane.specs.declared.lane.Lanes.{Lanes}
use Rattle.sj_lane.specs.declared.mem.MemOut.{MemOut}
use Rattle.sj_lane.specs.declared.mem.MemIn.{MemIn}
use Rattle.sj_lane.specs.Mem.{frames_pushed, frames_popped, out_waits, in_waits}
use Rattle.sj_lane.specs.Square.{SameLists, in_at, out_at}

-- the lists and counts of all lanes
abbrev pub SameMem : List (Lanes MemOut MemIn) → List (Lanes MemOut MemIn) → Type 0
SameMem before after = SameLists frames_pushed frames_popped (λ (o : MemOut). o.vain) (λ (i : MemIn). i.vain) before after

-- those of the lane to the other party
pub record KeptOut (a b : MemOut) : Type 0 where
  pub pushed : b.pushed ≡ a.pushed
  pub vain : b.vain ≡ a.vain

-- those of the lane from the other party
pub record KeptIn (a b : MemIn) : Type 0 where
  pub popped : b.popped ≡ a.popped
  pub vain : b.vain ≡ a.vain

-- the frames that weren't carried yet, where there is a lane
abbrev pub sender_waits : Option MemOut → List Frame
sender_waits None = []
sender_waits (Some o) = out_waits o

-- the frames that were carried, and weren't popped yet
abbrev pub taker_waits : Option MemIn → List Frame
taker_waits None = []
taker_waits (Some i) = in_waits i

-- those at p's lane to q
abbrev pub at_sender : List (Lanes MemOut MemIn) → ℕ → ℕ → List Frame
at_sender lanes p q = sender_waits (out_at lanes p q)

-- those at q's lane from p
abbrev pub at_taker : List (Lanes MemOut MemIn) → ℕ → ℕ → List Frame
at_taker lanes p q = taker_waits (in_at lanes p q)

-- no frame waits between any two parties
pub record NoneWait (lanes : List (Lanes MemOut MemIn)) : Type 0 where
  pub senders : (p q : ℕ) → at_sender lanes p q ≡ []
  pub takers : (p q : ℕ) → at_taker lanes p q ≡ []

-- what waited at the sender is after what waited at the taker
pub record Passes (sender taker new_sender new_taker : List Frame) : Type 0 where
  pub gone : new_sender ≡ []
  pub behind : new_taker ≡ taker ++ sender

-- what waits stays
pub record LinkRests (sender taker new_sender new_taker : List Frame) : Type 0 where
  pub left : new_sender ≡ sender
  pub there : new_taker ≡ taker

-- so on the link from p to q
abbrev pub IsMoved : List (Lanes MemOut MemIn) → List (Lanes MemOut MemIn) → ℕ → ℕ → Type 0
IsMoved before after p q = Passes (at_sender before p q) (at_taker before p q) (at_sender after p q) (at_taker after p q)

abbrev pub IsStill : List (Lanes MemOut MemIn) → List (Lanes MemOut MemIn) → ℕ → ℕ → Type 0
IsStill before after p q = LinkRests (at_sender before p q) (at_taker before p q) (at_sender after p q) (at_taker after p q)

-- the link from p to q is moved, and no other
pub record OneMoved (p q : ℕ) (before after : List (Lanes MemOut MemIn)) : Type 0 where
  pub here : IsMoved before after p q
  pub others : (a b : ℕ) → ((a ≡ p) × (b ≡ q) → ⊥) → IsStill before after a b

-- those from p to the parties below q are, and no others
pub record RowMoved (p q : ℕ) (before after : List (Lanes MemOut MemIn)) : Type 0 where
  pub moved : (b : ℕ) → b < q → IsMoved before after p b
  pub still : (a b : ℕ) → ((a ≡ p) × (b < q) → ⊥) → IsStill before after a b

-- in order of sender and then taker, the link from a to b is before the one from p to q
abbrev pub IsBefore : ℕ → ℕ → ℕ → ℕ → Type 0
IsBefore a b p q = (a < p) ⊎ ((a ≡ p) × (b < q))

-- the links before the one from p to q are moved, and no others
pub record AreMovedUpTo (p q : ℕ) (before after : List (Lanes MemOut MemIn)) : Type 0 where
  pub moved : (a b : ℕ) → b < length before → IsBefore a b p q → IsMoved before after a b
  pub still : (a b : ℕ) → (IsBefore a b p q → ⊥) → IsStill before after a b

-- the links between all parties are
abbrev pub AreMoved : List (Lanes MemOut MemIn) → List (Lanes MemOut MemIn) → Type 0
AreMoved before after = (p q : ℕ) → p < length before → q < length before → IsMoved before after p q
