-- Why a log isn't done again with seats.
use Rattle.std.specs.Prelude.{◌≡◌, ℕ, Bool, List, Some, ⊤}
use Rattle.sj_core.specs.declared.refusal.ReplayRefusal.{ReplayRefusal}
use Rattle.sj_core.specs.declared.refusal.ReplayRefusal.TheVariants as replays
use Rattle.sj_lang.specs.FileAt.{FileAt}
use Rattle.sj_log.specs.LogText.{SpellsLog, fault_of, log_read}
use Rattle.sj_log.specs.declared.refusal.LogRefusal.{LogRefusal}
use Rattle.sj_log.specs.declared.refusal.LogRefusal.TheVariants as logs
use Rattle.sj_plain.specs.SharedFile.{without_words}
use Rattle.sj_rules.specs.Log.{LineAt}
use Rattle.sj_seats.specs.Calls.{OpenedAs}
use Rattle.sj_seats.specs.Replaying.{IsStop}
use Rattle.sj_seat_replay.specs.declared.refusal.SeatReplayRefusal.{SeatReplayRefusal}
use Rattle.sj_seat_replay.specs.declared.refusal.SeatReplayRefusal.TheVariants as refusals

-- why bytes are no log, as a refusal
abbrev pub text_refusal : LogRefusal → SeatReplayRefusal
text_refusal (logs.At rule line) = refusals.Text rule line
text_refusal logs.NoMemory = refusals.NoMemory

-- why lines weren't done again, as a refusal
abbrev pub entry_refusal : ReplayRefusal → SeatReplayRefusal
entry_refusal (replays.Misfit m) = refusals.Entry m
entry_refusal replays.NoMemory = refusals.NoMemory

-- the first line outside the grammar breaks that rule
abbrev pub IsTextRefused : (version : ℕ) → FileAt → (log : List ℕ) → SeatReplayRefusal → Type 0
IsTextRefused version file log (refusals.Text rule line) = fault_of (log_read version file log) ≡ Some (rule, line)
IsTextRefused version file log refusals.NoMemory = ⊤
IsTextRefused version file log refusals.LacksPlace = ⊥
IsTextRefused version file log (refusals.Entry m) = ⊥

-- there is no table
abbrev pub IsTableRefused : SeatReplayRefusal → Type 0
IsTableRefused refusals.LacksPlace = ⊤
IsTableRefused refusals.NoMemory = ⊤
IsTableRefused (refusals.Text rule line) = ⊥
IsTableRefused (refusals.Entry m) = ⊥

-- the log isn't in its grammar, or that is the first of its lines which isn't the one that is due
abbrev pub IsReplayRefused : (version : ℕ) → FileAt → (seats : ℕ → Bool) → OpenedAs → (log : List ℕ) → SeatReplayRefusal → Type 0
IsReplayRefused version file seats opened log (refusals.Text rule line) = fault_of (log_read version file log) ≡ Some (rule, line)
IsReplayRefused version file seats opened log (refusals.Entry m) =
    (lines : List LineAt) × SpellsLog version file log lines × IsStop (without_words file) seats opened lines m
IsReplayRefused version file seats opened log refusals.LacksPlace = ⊤
IsReplayRefused version file seats opened log refusals.NoMemory = ⊤
