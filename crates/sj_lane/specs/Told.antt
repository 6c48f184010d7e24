-- What a lane that reports has, and how a push or a pop changes it.
use Rattle.std.specs.Prelude.{ℕ, ◌+◌, ◌-◌, ◌^◌, ◌≤◌, min, List, [], ◌∷◌, map, Option, Some, None, Result, Ok, Err}
use Rattle.sj_lang.specs.Place.{Place, done}
use Rattle.sj_rules.specs.Frames.{FrameAt}
use Rattle.sj_rules.specs.Mapped.{body_with, end_with, frame_with}
use Rattle.sj_rules.specs.Record.{BodyAt, EndAt}
pub use Rattle.sj_rules.specs.Work.{told_more}
use Rattle.sj_end.specs.declared.frames.Frame.{Frame}
use Rattle.sj_end.specs.declared.frames.Body.{Body}
use Rattle.sj_end.specs.Views.{body_at, frame_at}
use Rattle.sj_table.specs.declared.table.Spot.{Spot}
use Rattle.sj_lane.specs.declared.lane.PushRefusal.{PushRefusal}
use Rattle.sj_lane.specs.declared.lane.PushRefusal.TheVariants.{Full, Fault, NoMemory}
use Rattle.sj_lane.specs.declared.lane.PopRefusal.{PopRefusal}
use Rattle.sj_lane.specs.declared.lane.PopRefusal.TheVariants as pop

-- a frame as lanes report it: the empty place stands for the place of an end
abbrev pub told_frame : Frame → FrameAt Place
told_frame f = frame_with (λ s. done) (frame_at f)

-- its body
abbrev pub told_body : Body → BodyAt Place
told_body b = body_with (λ s. done) (body_at b)

-- an end in it
abbrev pub told_end : EndAt Spot → EndAt Place
told_end e = end_with (λ s. done) e

-- all of them, in order
abbrev pub told_list : List Frame → List (FrameAt Place)
told_list fs = map told_frame fs

-- a count rose; one that stands at its last value counts as risen
abbrev pub Rose : ℕ → ℕ → Type 0
Rose before now = min (before + 1) (2 ^ 64 - 1) ≤ now

abbrev pub raised : ℕ → ℕ
raised n = min (n + 1) (2 ^ 64 - 1)

-- what a push adds to the list
abbrev pub pushed_by : Frame → Result (Unit {0}) (Frame × PushRefusal) → List (FrameAt Place)
pushed_by f (Ok u) = told_frame f ∷ []
pushed_by f (Err e) = []

-- the count of calls in vain after a push
abbrev pub vain_push : ℕ → Result (Unit {0}) (Frame × PushRefusal) → ℕ
vain_push n (Ok u) = n
vain_push n (Err (f, Full)) = raised n
vain_push n (Err (f, Fault)) = n
vain_push n (Err (f, NoMemory)) = n

-- a push answers a fault only where the count of faults rose
abbrev pub PushCause : ℕ → ℕ → Result (Unit {0}) (Frame × PushRefusal) → Type 0
PushCause before now (Ok u) = Unit {0}
PushCause before now (Err (f, Full)) = Unit {0}
PushCause before now (Err (f, Fault)) = Rose before now
PushCause before now (Err (f, NoMemory)) = Unit {0}

-- what a pop adds to the list
abbrev pub popped_by : Result (Option Frame) PopRefusal → List (FrameAt Place)
popped_by (Ok None) = []
popped_by (Ok (Some f)) = told_frame f ∷ []
popped_by (Err e) = []

-- the count of calls in vain after a pop
abbrev pub vain_pop : ℕ → Result (Option Frame) PopRefusal → ℕ
vain_pop n (Ok None) = raised n
vain_pop n (Ok (Some f)) = n
vain_pop n (Err e) = n

-- a pop answers a fault only where the count of faults rose
abbrev pub PopCause : ℕ → ℕ → Result (Option Frame) PopRefusal → Type 0
PopCause before now (Ok o) = Unit {0}
PopCause before now (Err pop.Fault) = Rose before now
PopCause before now (Err pop.NoMemory) = Unit {0}
