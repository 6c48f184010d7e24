-- What answers a file is what its first fault reports, or what its task makes of it.
use Rattle.std.proofs.Common.{◌≡◌, ℕ, List, Option, Some, ap, sym, subst, refl, inl, inr}
use Rattle.sj_lang.specs.FileAt.{FileAt}
use Rattle.sj_acceptance_laws.proofs.FileLaws.{accepted_to}
use Rattle.sj_acceptance.specs.Accepted.{IsAccepted}
use Rattle.sj_acceptance.specs.Faults.{first_fault}
use Rattle.sj_acceptance.specs.FileTests.{tests_of}
use Rattle.sj_command.specs.declared.tasks.Task.{Task}
use Rattle.sj_command.specs.declared.tasks.Task.TheVariants as tasks
use Rattle.sj_tool.specs.LogAt.{LogAt}
use Rattle.sj_tool.specs.AnswerAt.{AnswerAt, Usage, ReadFault, TooLarge, NoTalk, Syntax, Check, NoParty, LogFault, Misfit, LinkFault, Damaged, Ran, Printed, Made}
use Rattle.sj_tool.specs.Answers.{AnswersFile}
use Rattle.sj_tool.specs.Calls.{LinkUseAt}
use Rattle.sj_tool.specs.Texts.{text_of}
use Rattle.sj_tool.proofs.ToldOnce.{Tells, TellsChecked, TellsFaultless, told}

-- no fault of the links is answered
abbrev pub IsUnhurt : AnswerAt → Type 0
IsUnhurt LinkFault = ⊥
IsUnhurt (Damaged t) = ⊥
IsUnhurt _ = Unit {0}

-- what is reported where no fault is found is, of an accepted file, what its first fault reports
by_no_fault : (links : LinkUseAt) (task : Task) (log : LogAt) (file : FileAt) (t : ℕ × List ℕ) → IsAccepted file → TellsFaultless links task log file t → TellsChecked links task log file (first_fault (tests_of file)) t
by_no_fault links task log file t ok x = subst (λ (f : Option (ℕ × ℕ)). TellsChecked links task log file f t) (sym (accepted_to file ok)) x

by_fault : (links : LinkUseAt) (task : Task) (log : LogAt) (file : FileAt) (r k : ℕ) → first_fault (tests_of file) ≡ Some (r, k) → TellsChecked links task log file (first_fault (tests_of file)) (told (Check r k))
by_fault links task log file r k e = subst (λ (f : Option (ℕ × ℕ)). TellsChecked links task log file f (told (Check r k))) (sym e) refl

-- what answers a file has the status and the text that its first fault reports
pub file_told : (links : LinkUseAt) (task : Task) (log : LogAt) (file : FileAt) (a : AnswerAt) → IsUnhurt a → AnswersFile links task log file a → Tells links task log file (first_fault (tests_of file)) (told a)
file_told links task log file Usage u x = absurd x
file_told links task log file ReadFault u x = absurd x
file_told links task log file TooLarge u x = absurd x
file_told links task log file (Syntax f) u x = absurd x
file_told links task log file (Made t) u x = absurd x
file_told links task log file LinkFault u x = absurd u
file_told links task log file (Damaged t) u x = absurd u
file_told links tasks.Show log file (Check r k) u x = absurd x.0
file_told links (tasks.Make n) log file (Check r k) u x = absurd x.0
file_told links task log file (Check r k) u x = by_fault links task log file r k x.1
file_told links (tasks.Talk n) log file (NoParty m) u x = by_no_fault links (tasks.Talk n) log file (told (NoParty m)) x.0 (inl (x.1.1, ap (λ k. (14, text_of (NoParty k))) x.1.0))
file_told links task log file (NoParty m) u x = absurd x.1
file_told links task log file NoTalk u x = absurd x
file_told links (tasks.Replay l) log file (LogFault r k) u x = by_no_fault links (tasks.Replay l) log file (told (LogFault r k)) x.0 (inl (r, k, x.2, refl))
file_told links task log file (LogFault r k) u x = absurd x.1
file_told links (tasks.Replay l) log file (Misfit t) u x = by_no_fault links (tasks.Replay l) log file (told (Misfit t)) x.0 (inr (inl (t, x.2, refl)))
file_told links task log file (Misfit t) u x = absurd x.1
file_told links (tasks.Replay l) log file (Ran v t) u x = by_no_fault links (tasks.Replay l) log file (told (Ran v t)) x.0 (inr (inr (record { verdict = v; text = t; plays = x.1; are = refl })))
file_told links (tasks.Talk n) log file (Ran v t) u x = by_no_fault links (tasks.Talk n) log file (told (Ran v t)) x.0 (inr (record { verdict = v; text = t; plays = x.1; are = refl }))
file_told links tasks.Check log file (Ran v t) u x = absurd x.1.0
file_told links tasks.Show log file (Ran v t) u x = absurd x.1.0
file_told links tasks.Forest log file (Ran v t) u x = absurd x.1.0
file_told links (tasks.Make n) log file (Ran v t) u x = absurd x.1.0
file_told links task log file (Ran v t) u x = by_no_fault links task log file (told (Ran v t)) x.0 (record { verdict = v; text = t; plays = x.1; are = refl })
file_told links tasks.Check log file (Printed t) u x = by_no_fault links tasks.Check log file (told (Printed t)) x.0 (ap (λ y. (0, y)) x.1)
file_told links tasks.Show log file (Printed t) u x = ap (λ y. (0, y)) x
file_told links tasks.Forest log file (Printed t) u x = by_no_fault links tasks.Forest log file (told (Printed t)) x.0 (t, x.1, refl)
file_told links task log file (Printed t) u x = absurd x
