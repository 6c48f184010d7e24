-- What a log is replayed to, and why it isn't.
use Rattle.std.proofs.Common.{List, [], true}
use Rattle.sj_core.specs.Replaying.{IsMisfitFrom}
use Rattle.sj_core.specs.declared.refusal.ReplayRefusal.{ReplayRefusal}
use Rattle.sj_core.specs.declared.refusal.ReplayRefusal.TheVariants as replays
use Rattle.sj_tool.specs.LogAt.{LogAt, Spells}
use Rattle.sj_tool.specs.Calls.{LinkUseAt}
use Rattle.sj_lang.specs.FileAt.{FileAt}
use Rattle.sj_rules.specs.Log.{LineAt}
use Rattle.sj_tool.specs.Replays.{IsRefusedBy, replay_fault}

-- lines that don't lead on refuse the log that spells them
pub misfit_refused : (file : FileAt) (log : LogAt) (lines : List LineAt) (r : ReplayRefusal) → Spells file log lines → IsMisfitFrom file lines r → IsRefusedBy file log (replay_fault r)
misfit_refused file log lines (replays.Misfit m) spells misfit = (lines, spells, misfit)
misfit_refused file log lines replays.NoMemory spells misfit = tt

-- links that nothing is carried over
pub unused : LinkUseAt
unused = record {
  tells = true;
  faults = 0;
  faults_after = 0;
  keeps = record { sent = λ p q. []; got = λ p q. []; vain_out = λ p q. 0; vain_in = λ p q. 0 };
}
