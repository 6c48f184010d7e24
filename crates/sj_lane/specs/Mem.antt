-- A lane that pushes and a lane that pops in memory, tied by what was carried from the one to the
-- other.
use Rattle.std.specs.Prelude.{◌≡◌, List, ◌++◌, Option, Some}
use Rattle.sj_lang.specs.Place.{Place}
use Rattle.sj_rules.specs.Frames.{FrameAt}
use Rattle.sj_end.specs.declared.frames.Frame.{Frame}
use Rattle.sj_lane.specs.declared.mem.MemOut.{MemOut}
use Rattle.sj_lane.specs.declared.mem.MemIn.{MemIn}
use Rattle.sj_lane.specs.Marks.{marks_at}
use Rattle.sj_lane.specs.Told.{told_list}

-- the frames that were pushed, as the lane reports them
abbrev pub frames_pushed : MemOut → Option (List (FrameAt Place))
frames_pushed o = Some (marks_at o.pushed.items)

-- the frames that were popped
abbrev pub frames_popped : MemIn → Option (List (FrameAt Place))
frames_popped i = Some (marks_at i.popped.items)

-- the frames that weren't carried yet
abbrev pub out_waits : MemOut → List Frame
out_waits o = o.waiting.items

-- the frames that were carried, and weren't popped yet
abbrev pub in_waits : MemIn → List Frame
in_waits i = i.waiting.items

-- what was carried away from a lane so far, and then what waits, is all that was pushed
abbrev pub IsLeft : MemOut → List (FrameAt Place) → Type 0
IsLeft o gone = marks_at o.pushed.items ≡ gone ++ told_list o.waiting.items

-- what was popped, and then what waits, is all that was carried to the lane so far
abbrev pub come : MemIn → List (FrameAt Place)
come i = marks_at i.popped.items ++ told_list i.waiting.items

-- what was carried away from the one lane came to the other
abbrev pub IsCarried : MemOut → MemIn → Type 0
IsCarried o i = IsLeft o (come i)

-- a push leaves what was carried away
pub record SameOut (a b : MemOut) : Type 0 where
  pub gone : (xs : List (FrameAt Place)) → IsLeft a xs → IsLeft b xs

-- a pop leaves what came
pub record SameIn (a b : MemIn) : Type 0 where
  pub come : come b ≡ come a
