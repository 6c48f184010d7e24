-- The logs of several parties that are given to be joined, in a list by the parties' numbers.
use Rattle.std.specs.Prelude.{ℕ, ◌+◌, ◌^◌, List, [], ◌∷◌, length, map, Option, Some, None, slice_get}
use Rattle.std.specs.Global.{Vec}
use Rattle.sj_end.specs.declared.note.Entry.{Entry}
use Rattle.sj_rules.specs.Log.{EntryAt, LineAt, IsInOrder}
use Rattle.sj_core.specs.Views.{entry_at}

-- a party's entry as a line
abbrev pub line_by : ℕ → EntryAt → LineAt
line_by party e = record { party = party; entry = e }

-- a log for each party, as parties have numbers of 16 bits
abbrev pub most_logs : ℕ
most_logs = 2 ^ 16

-- the log of the party, where the list has one
abbrev pub entries_given : Option (Vec Entry) → List EntryAt
entries_given None = []
entries_given (Some log) = map entry_at log.items

-- the logs as the list has them, and none beside them
abbrev pub given_log : List (Vec Entry) → ℕ → List EntryAt
given_log logs p = entries_given (slice_get logs p)

-- each party's log is in order
abbrev pub AreInOrder : (ℕ → List EntryAt) → Type 0
AreInOrder logs = (p : ℕ) → IsInOrder (map (line_by p) (logs p))

-- how many entries there are in all
abbrev pub count_given : List (Vec Entry) → ℕ
count_given [] = 0
count_given (log ∷ logs) = length log.items + count_given logs
