-- Nothing else is reported of the replay of a log.
use Rattle.std.proofs.Common.{◌≡◌, ℕ, true, List, ◌++◌, Some, inl, inr, subst}
use Rattle.sj_lang.specs.FileAt.{FileAt}
use Rattle.sj_semantics.specs.declared.Verdict.{Verdict}
use Rattle.sj_command.specs.declared.tasks.Task.TheVariants as tasks
use Rattle.sj_command.specs.Task.{Asks}
use Rattle.sj_command.proofs.OneTask.{one_task}
use Rattle.sj_tool.specs.AnswerAt.{AnswerAt}
use Rattle.sj_tool.specs.Answers.{IsInTable}
use Rattle.sj_tool.specs.Calls.{CallAt}
use Rattle.sj_tool.specs.Table.{AreOneLog, CanRise, LogsRun}
use Rattle.sj_tool.specs.Tasks.{AsksFor, RunsParties}
use Rattle.sj_tool.specs.Texts.{status_of, text_of}
use Rattle.sj_tool.proofs.TableLemmas.{one_answer}
use Rattle.sj_replay_laws.specs.Again.{IsInLines, ReplaysAll, TellsLog, told_of}
use Rattle.sj_replay_laws.proofs.AgainLemmas.{told_again}

-- words that ask for a replay ask for no run
no_run : (d : CallAt) → Asks d.words (tasks.Replay true) → AsksFor RunsParties d → ⊥
no_run d asks x = subst RunsParties (one_task d.words x.task (tasks.Replay true) x.asks asks) x.kind

no_log_run : (d : CallAt) (s t : List ℕ) → Asks d.words (tasks.Replay true) → AreOneLog d s t → ⊥
no_log_run d s t asks x = subst LogsRun (one_task d.words x.0.task (tasks.Replay true) x.0.asks asks) x.1.logs

pub nothing_else : (c d : CallAt) (text whole log : List ℕ) (file : FileAt) (verdict : Verdict) (a : AnswerAt) → TellsLog c text file verdict log → IsInLines text whole → ReplaysAll d (whole ++ log)
    → d.left ≡ Some (whole ++ log) → CanRise d → IsInTable d a → (status_of a ≡ status_of (told_of file verdict log)) × (text_of a ≡ text_of (told_of file verdict log))
nothing_else c d text whole log file verdict a t w r left rise own =
    let one = one_answer d (whole ++ log) a (told_of file verdict log) left rise (λ runs. absurd (no_run d r.asks runs)) own (told_again c d text whole log file verdict t w r) in
    (one.status, elim one.text [ inl same ↦ same | inr logs ↦ absurd (no_log_run d (text_of a) (text_of (told_of file verdict log)) r.asks logs) ])
