-- Lines that are done again, and the first that isn't the one that is due.
use Rattle.std.specs.Prelude.{◌≡◌, ℕ, ◌+◌, Bool, max, ⊤, List, ◌∷◌, ◌++◌, length, Some, IfSome, option_map}
use Rattle.sj_core.specs.Views.{line_at}
use Rattle.sj_core.specs.declared.refusal.ReplayRefusal.{ReplayRefusal}
use Rattle.sj_core.specs.declared.refusal.ReplayRefusal.TheVariants as refusals
use Rattle.sj_end.specs.declared.misfit.Misfit.{Misfit}
use Rattle.sj_end.specs.declared.note.Line.{Line}
use Rattle.sj_lang.specs.FileAt.{FileAt}
use Rattle.sj_lang.specs.Place.{Place}
use Rattle.sj_rules.specs.History.{due}
use Rattle.sj_rules.specs.Log.{LineAt}
use Rattle.sj_rules.specs.World.{WorldAt}
use Rattle.sj_seat_laws.specs.Calls.{Call}
use Rattle.sj_seat_laws.specs.SeatedPlay.{Player, seated_play}
use Rattle.sj_seat_told_laws.specs.SeatsHistory.{IsSeatsHistory}
use Rattle.sj_seats.specs.Calls.{OpenedAs, callers_by, first_calls, then_calls}
use Rattle.sj_seats.specs.Played.{IsDueFor}
use Rattle.sj_seats.specs.declared.played.PlayedWorld.{PlayedWorld}

-- the event of that line made another, or none
pub record IsOther (number : ℕ) (line : Line) (m : Misfit) : Type 0 where
  pub number_is : m.number ≡ number
  pub line_is : m.logged ≡ line
  pub differs : option_map line_at m.due ≡ Some (line_at line) → ⊥

abbrev pub IsMisfitHere : ℕ → Line → ReplayRefusal → Type 0
IsMisfitHere number line (refusals.Misfit m) = IsOther number line m
IsMisfitHere number line refusals.NoMemory = ⊤

-- what is reported as due there is
abbrev pub IsFoundHere : PlayedWorld → Line → ReplayRefusal → Type 0
IsFoundHere c line (refusals.Misfit m) = IfSome m.due (λ l. IsDueFor c (line_at line) (line_at l))
IsFoundHere c line refusals.NoMemory = ⊤

-- these lines are the history of a core run, whatever the codes of these parties call after it; they
-- opened their sessions as these
pub record AreDone (file : FileAt) (seats : ℕ → Bool) (opened : OpenedAs) (lines : List LineAt) : Type 0 where
  pub world : (ℕ → List Call) → WorldAt Place Player
  pub run : (rest : ℕ → List Call) → IsSeatsHistory max file (callers_by seats (then_calls opened lines rest)) lines (world rest)

-- that line is due for the event of the asked one in a world in which such codes call these, the asked
-- one's call first
abbrev pub IsDueIn : FileAt → OpenedAs → ((ℕ → List Call) → WorldAt Place Player) → (asked made : LineAt) → Type 0
IsDueIn file opened world asked made = (rest : ℕ → List Call) → due (seated_play file) max (world (first_calls opened asked rest)) asked.party asked.entry.event ≡ Some made

-- the line of that number isn't the one that its event made there; those before it are done. Where a
-- line is reported as due, it is due there
pub record IsStop (file : FileAt) (seats : ℕ → Bool) (opened : OpenedAs) (lines : List LineAt) (m : Misfit) : Type 0 where
  pub before : List LineAt
  pub after : List LineAt
  pub all : lines ≡ before ++ line_at m.logged ∷ after
  pub count : m.number ≡ length before + 1
  pub done : AreDone file seats opened before
  pub differs : option_map line_at m.due ≡ Some (line_at m.logged) → ⊥
  pub found : IfSome m.due (λ l. IsDueIn file opened done.world (line_at m.logged) (line_at l))

abbrev pub IsMisfitFrom : FileAt → (ℕ → Bool) → OpenedAs → List LineAt → ReplayRefusal → Type 0
IsMisfitFrom file seats opened lines (refusals.Misfit m) = IsStop file seats opened lines m
IsMisfitFrom file seats opened lines refusals.NoMemory = ⊤
