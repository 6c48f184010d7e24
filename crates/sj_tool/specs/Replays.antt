-- Why a log isn't replayed.
use Rattle.std.specs.Prelude.{◌≡◌, max, List, option_map, ⊤}
use Rattle.sj_core.specs.declared.refusal.ReplayRefusal.{ReplayRefusal}
use Rattle.sj_core.specs.declared.refusal.ReplayRefusal.TheVariants as replays
use Rattle.sj_lang.specs.FileAt.{FileAt}
use Rattle.sj_end.specs.Lines.{line_at}
use Rattle.sj_rules.specs.History.{IsFirstMisfit}
use Rattle.sj_rules.specs.Log.{LineAt}
use Rattle.sj_tool.specs.LogAt.{Breaks, LogAt, Spells}
use Rattle.sj_tool.specs.Entries.{IsToldMisfit}
use Rattle.sj_tool.specs.AnswerAt.{AnswerAt, LogFault}
use Rattle.sj_tool.specs.declared.replays.ReplayFault.{ReplayFault}
use Rattle.sj_tool.specs.declared.replays.ReplayFault.TheVariants as faults

-- lines that aren't replayed, as a fault of a log
abbrev pub replay_fault : ReplayRefusal → ReplayFault
replay_fault (replays.Misfit m) = faults.Entry m
replay_fault replays.NoMemory = faults.NoMemory

-- the log isn't in its grammar, or its lines don't lead on
abbrev pub IsRefusedBy : FileAt → (log : LogAt) → ReplayFault → Type 0
IsRefusedBy file log (faults.Text rule line) = Breaks file log rule line
IsRefusedBy file log (faults.Entry m) =
    (lines : List LineAt) × Spells file log lines × IsFirstMisfit max file lines m.number (line_at m.logged) (option_map line_at m.due)
IsRefusedBy file log faults.NoMemory = ⊤

-- the answer reports the fault; out of memory has no answer
abbrev pub IsToldFault : FileAt → ReplayFault → AnswerAt → Type 0
IsToldFault file (faults.Text rule line) a = a ≡ LogFault rule line
IsToldFault file (faults.Entry m) a = IsToldMisfit file m.number (line_at m.logged) (option_map line_at m.due) a
IsToldFault file faults.NoMemory a = ⊥
