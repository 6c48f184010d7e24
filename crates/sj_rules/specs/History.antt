-- Runs of the core, and their history: each line is the entry that a choice of bases gives at that
-- point.
use Rattle.std.specs.Prelude.{◌≡◌, ℕ, ◌+◌, ◌<◌, ◌++◌, length, List, [], ◌∷◌, Option, Some, None, option_map, option_and_then}
use Rattle.sj_rules.specs.Node.{Play, acts}
use Rattle.sj_rules.specs.Frames.{FrameAt}
use Rattle.sj_rules.specs.World.{WorldAt, Event, Act, Deliver, Turn, Run, happens}
use Rattle.sj_lang.specs.Place.{Place}
use Rattle.sj_lang.specs.FileAt.{FileAt}
use Rattle.sj_semantics.specs.Program.{Program}
use Rattle.sj_rules.specs.Party.{play_of}
use Rattle.sj_rules.specs.Start.{core_start}
use Rattle.sj_rules.specs.Log.{NoteAt, LineAt, body_note, act_note}

-- the note of the first frame
abbrev pub front_note : {P : Type 0} → List (FrameAt P) → Option NoteAt
front_note [] = None
front_note (f ∷ rest) = Some (body_note f.body)

-- the note of an event at p, where there is something to note
abbrev pub event_note : {P Q : Type 0} → Play P Q → WorldAt P Q → (p : ℕ) → Event → Option NoteAt
event_note play w p Act = act_note p (w.nodes p) (play.wants (w.nodes p).program)
event_note play w p (Deliver q) = front_note (w.lanes q p)

-- the line of an event at p that leads to that world: it has the clock that p has then
abbrev pub line_after : {P Q : Type 0} → Play P Q → WorldAt P Q → (p : ℕ) → Event → WorldAt P Q → Option LineAt
line_after play w p event v =
    option_map
    (λ note. record { party = p; entry = record { clock = (v.nodes p).clock; event = event; note = note } })
    (event_note play w p event)

-- the line that is due for an event at p; None where it is illegal
abbrev pub due : {P Q : Type 0} → Play P Q → (ℕ → ℕ → ℕ) → WorldAt P Q → (p : ℕ) → Event → Option LineAt
due play pick w p event = option_and_then (line_after play w p event) (happens play pick w p event)

-- the lines lead from the one world to the other, and each is the line that is due
abbrev pub IsLog : {P Q : Type 0} → Play P Q → (ℕ → ℕ → ℕ) → WorldAt P Q → List LineAt → WorldAt P Q → Type 0
IsLog play pick w [] v = w ≡ v
IsLog {P} {Q} play pick w (l ∷ ls) v =
    (mid : WorldAt P Q) × (happens play pick w l.party l.entry.event ≡ Some mid)
    × (due play pick w l.party l.entry.event ≡ Some l) × IsLog play pick mid ls v

-- the event of a line
abbrev pub turn_of : LineAt → Turn
turn_of l = record { party = l.party; event = l.entry.event }

-- the lines of the turns, one after the other, and the world that they lead to
pub record Replay (P Q : Type 0) : Type 0 where
  pub lines : List LineAt
  pub world : WorldAt P Q

-- that line first, where there is one
abbrev pub with_line : {P Q : Type 0} → Option LineAt → Option (Replay P Q) → Option (Replay P Q)
with_line None r = None
with_line (Some l) r = option_map (λ s. record { lines = l ∷ s.lines; world = s.world }) r

-- the events of the turns, with the lines that are due
abbrev pub replay : {P Q : Type 0} → Play P Q → (ℕ → ℕ → ℕ) → List Turn → WorldAt P Q → Option (Replay P Q)
replay play pick [] w = Some (record { lines = []; world = w })
replay play pick (t ∷ ts) w =
    with_line (due play pick w t.party t.event) (option_and_then (replay play pick ts) (happens play pick w t.party t.event))

-- the first line that isn't the one that is due, its number, and what is due
pub record IsMisfit {P Q : Type 0} (play : Play P Q) (pick : ℕ → ℕ → ℕ) (w : WorldAt P Q) (lines : List LineAt) (number : ℕ) (logged : LineAt) (other : Option LineAt) : Type 0 where
  pub before : List LineAt
  pub after : List LineAt
  pub all : lines ≡ before ++ logged ∷ after
  pub count : number ≡ length before + 1
  pub mid : WorldAt P Q
  pub done : IsLog play pick w before mid
  pub found : due play pick mid logged.party logged.entry.event ≡ other
  pub differs : other ≡ Some logged → ⊥

-- ---- of a file

-- these events lead from the start of the file to that world, with some choice of bases
abbrev pub IsCoreRun : FileAt → List Turn → WorldAt Place Program → Type 0
IsCoreRun file turns w = Run (play_of file) (core_start file) turns w

-- the choice of the bases that keeps every cache whole
abbrev pub whole_caches : ℕ → ℕ → ℕ
whole_caches old told = old

-- the lines are the history of a core run of the file with that choice of bases, which ends in that
-- world
abbrev pub IsHistory : (ℕ → ℕ → ℕ) → FileAt → List LineAt → WorldAt Place Program → Type 0
IsHistory pick file lines w = IsLog (play_of file) pick (core_start file) lines w

-- they are none: from the start of the file on, that is the first line that isn't the one that is
-- due
abbrev pub IsFirstMisfit : (ℕ → ℕ → ℕ) → FileAt → List LineAt → (number : ℕ) → LineAt → Option LineAt → Type 0
IsFirstMisfit pick file lines number logged other = IsMisfit (play_of file) pick (core_start file) lines number logged other

-- nothing is in a lane, and no party can act
pub record IsQuiescent {P Q : Type 0} (play : Play P Q) (w : WorldAt P Q) : Type 0 where
  pub empty : (from to : ℕ) → w.lanes from to ≡ []
  pub still : (p : ℕ) → acts play p (w.nodes p) ≡ None

-- the same of n parties alone
pub record IsQuietAmong {P Q : Type 0} (play : Play P Q) (n : ℕ) (w : WorldAt P Q) : Type 0 where
  pub empty : (from to : ℕ) → from < n → to < n → w.lanes from to ≡ []
  pub still : (p : ℕ) → p < n → acts play p (w.nodes p) ≡ None
