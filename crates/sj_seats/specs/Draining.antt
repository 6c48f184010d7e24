-- What a drain tries, and where it ends.
use Rattle.std.specs.Prelude.{◌≡◌, ℕ, ◌<◌, ◌≤◌, ◌-◌, Bool, true, false, List, [], ◌++◌, length}
use Rattle.sj_rules.specs.History.{IsQuietAmong}
use Rattle.sj_rules.specs.Log.{LineAt}
use Rattle.sj_seat_laws.specs.SeatedPlay.{seated_play}
use Rattle.sj_seats.specs.Calls.{calls_in, calls_told, no_calls}
use Rattle.sj_seats.specs.Core.{is_seat}
use Rattle.sj_seats.specs.Played.{IsEmpty, IsIdle, Rests, chairs_in, core_in, file_in, history_in, nodes_in, opened_in}
use Rattle.sj_seats.specs.declared.played.PlayedWorld.{PlayedWorld}

-- there was an event; or all is as before, and that is so
abbrev pub Tries : Bool → PlayedWorld → PlayedWorld → Type 0 → Type 0
Tries true c d P = length (history_in c) < length (history_in d)
Tries false c d P = Rests c d × (history_in d ≡ history_in c) × P

-- there were events; or all is as before, and that is so
pub record Goes (c d : PlayedWorld) (P : Type 0) : Type 0 where
  pub grows : length (history_in c) ≤ length (history_in d)
  pub still : length (history_in d) ≡ length (history_in c) → Rests c d × P

-- the second list is the first one, and then more
pub record IsPrefix (before after : List LineAt) : Type 0 where
  pub more : List LineAt
  pub all : after ≡ before ++ more

-- the line tells no call of a party that is played by code
abbrev pub TellsNone : PlayedWorld → LineAt → Type 0
TellsNone c l = (q : ℕ) → is_seat (chairs_in c) q ≡ true → calls_in (opened_in c) q l ≡ []

-- lines were only added, no code made a call, and each holds what it held
pub record Adds (c d : PlayedWorld) : Type 0 where
  pub lines : IsPrefix (history_in c) (history_in d)
  pub uncalled : (q : ℕ) → is_seat (chairs_in c) q ≡ true → calls_told (opened_in c) q (history_in d) ≡ calls_told (opened_in c) q (history_in c)
  pub chairs : chairs_in d ≡ chairs_in c

-- no lane of the first n parties to it has a frame
abbrev pub HasNoLane : PlayedWorld → (n p : ℕ) → Type 0
HasNoLane c n p = (from : ℕ) → from < n → IsEmpty c from p

-- the first m parties have nothing to do
abbrev pub AreIdle : PlayedWorld → (m : ℕ) → Type 0
AreIdle c m = (p : ℕ) → p < m → IsIdle c (length (nodes_in c)) p

-- nothing is left to do, and no code makes a call any more
abbrev pub IsQuiet : PlayedWorld → Type 0
IsQuiet c = IsQuietAmong (seated_play (file_in c)) (length (nodes_in c)) (core_in c no_calls)

-- how many events are still possible
abbrev pub events_left : PlayedWorld → ℕ
events_left c = 57801020000 - length (history_in c)
