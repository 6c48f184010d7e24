-- What a reader of the code answers is what reading gives.
use Rattle.std.specs.Prelude.{◌≡◌, ℕ, ◌≤◌, List, length, drop, Option, Some, None, Result, Ok, Err, ⊤}
use Rattle.sj_end.specs.Views.{frame_at}
use Rattle.sj_end.specs.declared.frames.Frame.{Frame}
use Rattle.sj_wire.specs.Front.{Front, Cut, Refused, Whole, front_of}
use Rattle.sj_wire.specs.declared.refusal.WireRefusal.{WireRefusal}
use Rattle.sj_wire.specs.declared.refusal.WireRefusal.TheVariants as refusals

-- it is no field; out of memory alone says nothing
abbrev pub Fails : {A : Type 0} → WireRefusal → Option A → Type 0
Fails refusals.NoMemory read = ⊤
Fails refusals.Value read = read ≡ None
Fails refusals.Length read = ⊥
Fails refusals.Version read = ⊥
Fails refusals.Kind read = ⊥

-- the answer, seen by a view, is what reading gives
abbrev pub Reads : {X A : Type 0} → (X → A) → Result X WireRefusal → Option A → Type 0
Reads view (Ok x) read = read ≡ Some (view x)
Reads view (Err e) read = Fails e read

-- the start of the bytes is refused so; out of memory alone says nothing
abbrev pub IsRefused : WireRefusal → Front → Type 0
IsRefused refusals.NoMemory front = ⊤
IsRefused refusals.Value front = front ≡ Refused refusals.Value
IsRefused refusals.Length front = front ≡ Refused refusals.Length
IsRefused refusals.Version front = front ≡ Refused refusals.Version
IsRefused refusals.Kind front = front ≡ Refused refusals.Kind

-- the answer is the frame at the start, with those bytes after it, or the refusal
abbrev pub MeetsWhole : Result Frame WireRefusal → Front → (behind : List ℕ) → Type 0
MeetsWhole (Ok f) front behind = front ≡ Whole (frame_at f) behind
MeetsWhole (Err e) front behind = IsRefused e front

-- the same, or none where the bytes are cut
abbrev pub MeetsSized : Result (Option Frame) WireRefusal → Front → (behind : List ℕ) → Type 0
MeetsSized (Ok None) front behind = front ≡ Cut
MeetsSized (Ok (Some f)) front behind = front ≡ Whole (frame_at f) behind
MeetsSized (Err e) front behind = IsRefused e front

-- the answer is the frame at the start of the bytes with its length, none where
-- they are cut, or the refusal
abbrev pub MeetsFront : Result (Option (Frame × ℕ)) WireRefusal → List ℕ → Type 0
MeetsFront (Ok None) bytes = front_of bytes ≡ Cut
MeetsFront (Ok (Some x)) bytes = (x.1 ≤ length bytes) × (front_of bytes ≡ Whole (frame_at x.0) (drop x.1 bytes))
MeetsFront (Err e) bytes = IsRefused e (front_of bytes)
