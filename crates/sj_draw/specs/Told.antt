-- What arrows say, and what the lines do from which they come.
use Rattle.std.specs.Prelude.{◌≡◌, ℕ, Bool, true, false, List, [], ◌∷◌, Option, Some, None, ⊤}
use Rattle.sj_draw.specs.declared.lines.Mark.{Mark}
use Rattle.sj_draw.specs.Chart.{ArrowAt, request_of}
use Rattle.sj_draw.specs.Lines.{PassedAt, DrawnLineAt, Opened, Message, Delivery, Log, read}

-- a kind and a text
pub record ToldAt : Type 0 where
  pub mark : Mark
  pub text : List ℕ

abbrev pub told_arrow : ArrowAt → ToldAt
told_arrow a = record { mark = a.mark; text = a.text }

abbrev pub passed_told : PassedAt → ToldAt
passed_told p = record { mark = p.mark; text = p.text }

-- a session that was opened, a message of a transcript or an opening of a log, or a delivery
abbrev pub told_by : Option DrawnLineAt → Option ToldAt
told_by (Some (Opened s)) = Some (passed_told (request_of s))
told_by (Some (Message p)) = Some (passed_told p)
told_by (Some (Delivery p)) = Some (passed_told p)
told_by _ = None

abbrev pub told_in : List ℕ → Option ToldAt
told_in line = told_by (read line)

abbrev pub is_log : Option DrawnLineAt → Bool
is_log (Some Log) = true
is_log _ = false

-- none of the lines is the one between a transcript and a log
abbrev pub HasNoLog : List (List ℕ) → Type 0
HasNoLog [] = ⊤
HasNoLog (l ∷ ls) = (is_log (read l) ≡ false) × HasNoLog ls
