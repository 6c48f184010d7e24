-- Which of several logs ends last.
use Rattle.std.specs.Prelude.{◌≡◌, ℕ, nat_lt, List, [], ◌∷◌, ◌++◌, map, reverse, Option, Some, None, if◌then◌else◌}
use Rattle.std.specs.Global.{Vec}
use Rattle.sj_end.specs.declared.note.Entry.{Entry}
use Rattle.sj_rules.specs.Log.{EntryAt, IsBefore}
use Rattle.sj_core.specs.Given.{line_by}
use Rattle.sj_core.specs.Views.{entry_at}
use Rattle.sj_core.specs.declared.tails.Tail.{Tail}

-- that party's last entry comes after the last ones of all others
pub record IsLast (logs : ℕ → List EntryAt) (party : ℕ) : Type 0 where
  pub before : List EntryAt
  pub entry : EntryAt
  pub own : logs party ≡ before ++ entry ∷ []
  pub last : (q : ℕ) (es : List EntryAt) (e : EntryAt) → (q ≡ party → ⊥) → logs q ≡ es ++ e ∷ [] → IsBefore (line_by q e) (line_by party entry)

-- the clock of a log's last entry, where it has one: the log is read from its end
abbrev pub first_clock : List EntryAt → Option ℕ
first_clock [] = None
first_clock (e ∷ es) = Some e.clock

-- so for each of several logs
abbrev pub last_clocks : List (Vec Entry) → List (Option ℕ)
last_clocks logs = map (λ (log : Vec Entry). first_clock (reverse (map entry_at log.items))) logs

-- of a tail and that of a later party's log the later one
abbrev pub later_than : Option Tail → Tail → Option Tail
later_than None own = Some own
later_than (Some tail) own = if nat_lt own.clock tail.clock then Some tail else Some own

-- the later party's log ends at that clock
abbrev pub later_at : Option Tail → ℕ → Option ℕ → Option Tail
later_at latest party None = latest
later_at latest party (Some clock) = later_than latest (record { party = party; clock = clock })
