-- What a party has sent and the others haven't got, as contracts see it.
use Rattle.std.specs.Prelude.{ℕ, ◌-◌, ◌++◌, ◌∷◌, ◌≡◌, List, [], map, slice_get, Option, Some, None}
use Rattle.std.specs.VecDeque.{deque_len, deque_capacity}
use Rattle.std.specs.declared.alloc.Global.{Global}
use Rattle.std.specs.declared.collections.VecDeque.{VecDeque}
use Rattle.sj_base.specs.declared.EndId.{EndId}
use Rattle.sj_forward.specs.declared.frame.ForwardFrame.{ForwardFrame}
use Rattle.sj_forward.specs.Views.{frame_at}
use Rattle.sj_forward_rules.specs.Record.{SentAt, FrameAt, In}

-- a lane for each party
abbrev pub Outs : Type 0
Outs = List (VecDeque ForwardFrame Global)

-- the frames of a lane, and none where there is no lane
abbrev pub frames_in : Option (VecDeque ForwardFrame Global) → List FrameAt
frames_in None = []
frames_in (Some out) = map frame_at out.items

-- what is on its way to that party
abbrev pub lane_in : Outs → ℕ → List FrameAt
lane_in outs q = frames_in (slice_get outs q)

abbrev pub room_of : Option (VecDeque ForwardFrame Global) → ℕ
room_of None = 0
room_of (Some out) = deque_capacity out - deque_len out

-- how many frames more can be put there without memory
abbrev pub room_in : Outs → ℕ → ℕ
room_in outs q = room_of (slice_get outs q)

-- the messages as frames to a record of the end
abbrev pub inward : EndId → (hop : ℕ) → List SentAt → List FrameAt
inward e h ms = map (λ m. In e h m) ms

-- the first frame to that party has gone
pub record DropsFront (old : Outs) (to : ℕ) (new : Outs) : Type 0 where
  pub front : FrameAt
  pub was : lane_in old to ≡ front ∷ lane_in new to
  pub others : (q : ℕ) → (q ≡ to → ⊥) → lane_in new q ≡ lane_in old q
