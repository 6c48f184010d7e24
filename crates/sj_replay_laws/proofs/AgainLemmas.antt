-- What `run --log` reports of a file is reported of the replay of its log.
use Rattle.std.proofs.Common.{◌≡◌, ℕ, ◌≤◌, max, Bool, true, false, cond, List, [], ◌++◌, length, drop, Option, inl, inr, refl, ap, sym, ◌∙◌, subst, arith, append-nil}
use Rattle.std.specs.List.{list_any}
use Rattle.std.proofs.Math.Seq.{drop-append_seam}
use Rattle.sj_lang.specs.FileAt.{FileAt}
use Rattle.sj_lang.specs.Limits.{file_limit}
use Rattle.sj_grammar.specs.Files.{IsFile}
use Rattle.sj_party.proofs.OneFile.{one_file}
use Rattle.sj_acceptance.specs.Accepted.{IsAccepted}
use Rattle.sj_semantics.specs.declared.Verdict.{Verdict}
use Rattle.sj_semantics.specs.Run.{end_of}
use Rattle.sj_semantics.specs.Transcript.{transcript_of}
use Rattle.sj_rules.specs.Rows.{IsPick}
use Rattle.sj_rules.specs.Log.{LineAt}
use Rattle.sj_rules.specs.Party.{play_of}
use Rattle.sj_print.specs.LogLine.{log_text}
use Rattle.sj_print.specs.Version.{is_opening, mark_of, version_of}
use Rattle.sj_log.specs.Parts.{AreLines, IsParted, IsVersion}
use Rattle.sj_log.specs.LogText.{SpellsLog}
use Rattle.sj_log.proofs.PrintedLog.{printed_back}
use Rattle.sj_legible_laws.proofs.HistoryLemmas.{history_legible}
use Rattle.sj_legible_laws.proofs.EndedLemmas.{file_ended}
use Rattle.sj_legible_laws.proofs.PartLemmas.{parted_there}
use Rattle.sj_command.specs.declared.tasks.Task.{Task}
use Rattle.sj_command.specs.declared.tasks.Task.TheVariants as tasks
use Rattle.sj_command.proofs.OneTask.{one_task}
use Rattle.sj_tool.specs.AnswerAt.{Ran}
use Rattle.sj_tool.specs.Answers.{AnswersFile, IsInTable}
use Rattle.sj_tool.specs.Calls.{CallAt, LinkUseAt}
use Rattle.sj_tool.specs.LogAt.{LogAt, log_at}
use Rattle.sj_tool.specs.Runs.{HasRun}
use Rattle.sj_tool.specs.Table.{LogsRun}
use Rattle.sj_tool.specs.Tasks.{HasInput, HasParts, IsRead}
use Rattle.sj_tool.proofs.InputLemmas.{read_bytes}
use Rattle.sj_replay_laws.specs.Again.{IsInLines, ReplaysAll, TellsLog, told_of}
use Rattle.sj_replay_laws.proofs.QuietLemmas.{quiet_is_drained}

max_picks : IsPick max
max_picks old told = (omega arith, omega arith)

version_known : (history : List LineAt) → IsVersion (version_of history)
version_known history = by (list_any (λ l. is_opening l.entry.note) history)
  where
    by : (b : Bool) → IsVersion (cond b 2 1)
    by true = inr refl
    by false = inl refl

-- how a file was run, and that its log was reported
record WasRun (file : FileAt) (verdict : Verdict) (answer : List ℕ) : Type 0 where
  links : LinkUseAt
  looks : ℕ
  workers : Option ℕ
  log : LogAt
  accepted : IsAccepted file
  run : HasRun links (tasks.Run true looks workers) log file verdict answer

module _ (text : List ℕ) (file : FileAt) (stands : IsFile text file) (verdict : Verdict) (answer : List ℕ) where
  -- of an answer to a file whose text that is
  was_run : (links : LinkUseAt) (task : Task) (own : List ℕ) (log : LogAt) (its : FileAt) → LogsRun task → HasParts task text own log → IsFile own its → AnswersFile links task log its (Ran verdict answer)
      → WasRun file verdict answer
  was_run links (tasks.Run true looks workers) own log its logs parts stand a =
      let same : its ≡ file = one_file text its file (subst (λ (t : List ℕ). IsFile t its) parts.0 stand) stands in
      subst (λ (f : FileAt). WasRun f verdict answer) same (record { links = links; looks = looks; workers = workers; log = log; accepted = a.0; run = a.1.1 })
  was_run links task own log its logs parts stand a = absurd logs

-- of the text that is replayed
module _ (text : List ℕ) (file : FileAt) (stands : IsFile text file) (verdict : Verdict) (answer : List ℕ) where
  -- a replay of what was reported has the same history
  replayed : (d : CallAt) (few : length text ≤ file_limit) (lines : AreLines text) (log : List ℕ) → answer ≡ transcript_of file (end_of file) ++ log → WasRun file verdict answer
      → ReplaysAll d (text ++ log) → IsInTable d (Ran verdict answer)
  replayed d few lines log told w r =
      let history = w.run.history in
      let core = w.run.core in
      let version : ℕ = version_of history in
      let printed : List ℕ = log_text file history in
      let behind : log ≡ mark_of version ++ printed =
      sym (drop-append_seam (transcript_of file (end_of file)) log) ∙ ap (drop (length (transcript_of file (end_of file)))) (sym told ∙ w.run.told.1)
      ∙ drop-append_seam (transcript_of file (end_of file)) (mark_of version ++ printed) in
      let parted : IsParted (text ++ log) text version printed =
      subst (λ (t : List ℕ). IsParted (text ++ t) text version printed) (sym behind) (parted_there text printed file version stands lines (version_known history)) in
      let spelled : SpellsLog version file printed history =
      printed_back version file history (omega arith) (history_legible text file few stands w.accepted max max_picks history core w.run.has.run) in (
        record {
          task = tasks.Replay true;
          asks = r.asks;
          bytes = text ++ log;
          input = r.read;
          text = text;
          log = log_at version printed;
          parts = (parted, few);
          file = file;
          stands = stands;
        },
        (
          w.accepted,
          (
            tt,
            record {
              history = history;
              core = core;
              has = record {
                begun = record { lines = history; left = core; leads = w.run.has.run; spelled = λ _. spelled; logged = λ none. absurd (none tt); shown = λ none. absurd (none tt) };
                more = [];
                all = sym (append-nil history);
                drained = quiet_is_drained (play_of file) max (length file.parties) core w.run.has.quiet;
                run = w.run.has.run;
                quiet = w.run.has.quiet;
              };
              headline = w.run.headline;
              told = w.run.told;
            },
          ),
        ),
      )

-- the task of a call that logs a run reads a file
run_reads : (c : CallAt) (task : Task) (bytes : List ℕ) → LogsRun task → HasInput c task bytes → IsRead c task bytes
run_reads c (tasks.Run true looks workers) bytes logs read = read
run_reads c task bytes logs read = absurd logs

-- a text in whole lines stands for the same file
lines_stand : (text whole : List ℕ) (file : FileAt) → IsInLines text whole → IsFile text file → IsFile whole file
lines_stand text whole file in_lines stands = elim in_lines.same [
  | inl same ↦ subst (λ (t : List ℕ). IsFile t file) (sym same) stands
  | inr more ↦ subst (λ (t : List ℕ). IsFile t file) (sym more) (file_ended text file stands)
]

pub told_again : (c d : CallAt) (text whole log : List ℕ) (file : FileAt) (verdict : Verdict) → TellsLog c text file verdict log → IsInLines text whole → ReplaysAll d (whole ++ log) → IsInTable d (told_of file verdict log)
told_again c d text whole log file verdict t w r =
    let x = t.told.0 in
    let logs : LogsRun x.task = subst LogsRun (one_task c.words t.asks.task x.task t.asks.asks x.asks) t.asks.kind in
    let read = run_reads c x.task x.bytes logs x.input in
    let same : x.bytes ≡ text = sym (read_bytes c x.task text x.bytes t.left read) in
    let parts : HasParts x.task text x.text x.log = subst (λ (b : List ℕ). HasParts x.task b x.text x.log) same x.parts in
    let answer : List ℕ = transcript_of file (end_of file) ++ log in
    let was = was_run text file t.stands verdict answer c.links x.task x.text x.log x.file logs parts x.stands t.told.1 in
    replayed whole file (lines_stand text whole file w t.stands) verdict answer d w.few w.lines log refl was r
