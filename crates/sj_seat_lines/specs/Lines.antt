-- Lines that are read and answered one after another.
use Rattle.std.specs.Prelude.{◌≡◌, ◌+◌, ℕ, List, [], Option, Some, None, Result}
use Rattle.sj_base.specs.Stream.{put_behind}
use Rattle.sj_seat.specs.declared.ask.Outcome.{Outcome}
use Rattle.sj_seat.specs.declared.refusal.SeatRefusal.{SeatRefusal}
use Rattle.sj_seat_lines.specs.Forms.{form_of, most_line}
use Rattle.sj_seat_lines.specs.Heard.{HeardAt, came, heard_of}
use Rattle.sj_seat_lines.specs.Party.{AskAt, PartyAt, SeatAt, asked_of, counted, party_at}
use Rattle.sj_seat_lines.specs.Reading.{IsNextLine, left_of}
use Rattle.sj_seat_lines.specs.Settled.{settled_of}
use Rattle.sj_seat_lines.specs.declared.lines.Ended.{Ended}
use Rattle.sj_seat_lines.specs.declared.lines.Lines.{Lines}
use Rattle.sj_seat_lines.specs.declared.party.Heard.TheVariants.{Asks, Answered, Left}

-- a party, and what is left of its lines and was written as their answers, where these are reported
pub record LinesAt : Type 0 where
  pub party : PartyAt
  pub left : Option (List ℕ)
  pub written : Option (List ℕ)

abbrev pub lines_at : {S K : Type 0} → (S → Option (List ℕ)) → (K → Option (List ℕ)) → Lines S K → LinesAt
lines_at left written l = record { party = party_at l.party; left = left_of left l.lines; written = written l.sink }

-- how the lines ended, where they have
abbrev pub ended_of : {S K : Type 0} → Lines S K → Option Ended
ended_of l = l.ended

-- a party, that is left of its lines, and that was written
abbrev pub lines_from : PartyAt → Option (List ℕ) → Option (List ℕ) → LinesAt
lines_from party left written = record { party = party; left = left; written = written }

-- what comes of a line
abbrev pub line_heard : PartyAt → SeatAt → List ℕ → HeardAt
line_heard p s line = heard_of (counted p) s [] (form_of line)

-- the party is as it was left, and the answer is written
abbrev pub after_heard : (left written : Option (List ℕ)) → HeardAt → LinesAt
after_heard left written (came h t p) = record { party = p; left = left; written = put_behind written t }

-- likewise, where nothing more is read
abbrev pub heard_in : LinesAt → HeardAt → LinesAt
heard_in w h = after_heard w.left w.written h

-- the call that is asked for
abbrev pub asks_by : HeardAt → Option AskAt
asks_by (came Asks t p) = asked_of p
asks_by (came Answered t p) = None
asks_by (came Left t p) = None

-- the next line is read and answered; what is asked for then
pub record IsAnswered (s : SeatAt) (w : LinesAt) (line : List ℕ) (a : Option AskAt) (new : LinesAt) : Type 0 where
  pub read : IsNextLine (most_line + 1) w.left line new.left
  pub heard : new ≡ after_heard new.left w.written (line_heard w.party s line)
  pub asks : a ≡ asks_by (line_heard w.party s line)

-- lines are read and answered one after another, of which no one but the last asks for a call
pub data Goes (s : SeatAt) (w : LinesAt) : Option AskAt → LinesAt → Type 0 where
  stays : Goes s w None w
  goes : (v new : LinesAt) (line : List ℕ) (a : Option AskAt) → Goes s w None v → IsAnswered s v line a new → Goes s w a new

-- likewise, after what is written of the last call's answer
abbrev pub GoesFrom : SeatAt → LinesAt → Option AskAt → Option AskAt → LinesAt → Type 0
GoesFrom s w None a new = Goes s w a new
GoesFrom s w (Some asked) a new = (new ≡ w) × (a ≡ Some asked)

abbrev pub GoesOn : SeatAt → LinesAt → Option (Result Outcome SeatRefusal) → Option AskAt → LinesAt → Type 0
GoesOn s w None a new = Goes s w a new
GoesOn s w (Some answer) a new =
    let h = settled_of w.party [] answer w.party.pending in
    GoesFrom s (heard_in w h) (asks_by h) a new
