-- A party's own run: its acts, and the frames that came to it, whatever other parties do.
use Rattle.std.specs.Prelude.{◌≡◌, ℕ, ◌+◌, max, ◌==◌, if◌then◌else◌, List, [], ◌∷◌, map, filter_map, flat_map, Option, Some, None}
use Rattle.sj_rules.specs.Record.{BodyAt, Carry, Fin, Claim, Signal, Ack, Give, Open, Mail}
use Rattle.sj_rules.specs.Rows.{Worked}
use Rattle.sj_rules.specs.Node.{Play, NodeAt, arrives, acts}
use Rattle.sj_rules.specs.Frames.{FrameAt, frames_for}
use Rattle.sj_rules.specs.World.{Event, Act, Deliver}
use Rattle.sj_rules.specs.Log.{NoteAt, EntryAt, body_note, act_note}

-- what a party does: its next act, or the delivery of a frame that it popped
pub data Deed (P : Type 0) : Type 0 where
  Acted : Deed P
  Came : (from : ℕ) → FrameAt P → Deed P

-- one step: what was done, what the log says of it, and what it posts
pub record StepAt (P : Type 0) : Type 0 where
  pub deed : Deed P
  pub entry : EntryAt
  pub posts : List (Mail P)

-- the event as the log names it
abbrev pub event_of : {P : Type 0} → Deed P → Event
event_of Acted = Act
event_of (Came from f) = Deliver from

-- the clock after it: one more, and above the clock of the frame
abbrev pub clock_after : {P Q : Type 0} → NodeAt P Q → Deed P → ℕ
clock_after n Acted = n.clock + 1
clock_after n (Came from f) = max n.clock f.clock + 1

-- the note of the act, or of the frame
abbrev pub deed_note : {P Q : Type 0} → Play P Q → (party : ℕ) → NodeAt P Q → Deed P → Option NoteAt
deed_note play party n Acted = act_note party n (play.wants n.program)
deed_note play party n (Came from f) = Some (body_note f.body)

-- by the rules, the clock aside
abbrev pub deed_done : {P Q : Type 0} → Play P Q → (ℕ → ℕ → ℕ) → (party : ℕ) → NodeAt P Q → Deed P → Option (Worked P (NodeAt P Q))
deed_done play pick party n Acted = acts play party n
deed_done play pick party n (Came from f) = arrives play.blank play.parties pick n from f

-- the step leads from the one node to the other
pub record Steps {P Q : Type 0} (play : Play P Q) (pick : ℕ → ℕ → ℕ) (party : ℕ) (old : NodeAt P Q) (s : StepAt P) (new : NodeAt P Q) : Type 0 where
  pub done : Worked P (NodeAt P Q)
  pub row : deed_done play pick party old s.deed ≡ Some done
  pub posts : s.posts ≡ done.posts
  pub clock : s.entry.clock ≡ clock_after old s.deed
  pub event : s.entry.event ≡ event_of s.deed
  pub note : deed_note play party old s.deed ≡ Some s.entry.note
  pub after : new ≡ record done.state { clock = s.entry.clock }

-- the steps lead from the one node to the other
abbrev pub NodeRun : {P Q : Type 0} → Play P Q → (ℕ → ℕ → ℕ) → (party : ℕ) → NodeAt P Q → List (StepAt P) → NodeAt P Q → Type 0
NodeRun play pick party old [] new = old ≡ new
NodeRun {P} {Q} play pick party old (s ∷ ss) new =
    (mid : NodeAt P Q) × Steps play pick party old s mid × NodeRun play pick party mid ss new

-- a frame as a lane reports it: without the place of the end in a Give, for which the blank place
-- stands
abbrev pub told_body : {P : Type 0} → P → BodyAt P → BodyAt P
told_body blank (Carry to conn number taken msg) = Carry to conn number taken msg
told_body blank (Fin to conn number) = Fin to conn number
told_body blank (Claim of) = Claim of
told_body blank (Signal to conn party taken) = Signal to conn party taken
told_body blank (Ack of conn) = Ack of conn
told_body blank (Give e resend) = Give (record e { place = blank }) resend
told_body blank (Open sess) = Open sess

-- the frame keeps its clock
abbrev pub frame_told : {P : Type 0} → P → FrameAt P → FrameAt P
frame_told blank f = record { clock = f.clock; body = told_body blank f.body }

-- all of them, in order
abbrev pub told_frames : {P : Type 0} → P → List (FrameAt P) → List (FrameAt P)
told_frames blank frames = map (frame_told blank) frames

-- the frames of these steps that came from that party
abbrev pub frame_from : {P : Type 0} → P → ℕ → Deed P → Option (FrameAt P)
frame_from blank q Acted = None
frame_from blank q (Came from f) = if q == from then Some (frame_told blank f) else None

-- in the order in which they came
abbrev pub popped_from : {P : Type 0} → P → ℕ → List (StepAt P) → List (FrameAt P)
popped_from blank q steps = filter_map (λ s. frame_from blank q s.deed) steps

-- the frames that they post to that party, each with the clock of its step
abbrev pub posted_to : {P : Type 0} → P → ℕ → List (StepAt P) → List (FrameAt P)
posted_to blank q steps = flat_map (λ s. told_frames blank (frames_for q s.entry.clock s.posts)) steps
