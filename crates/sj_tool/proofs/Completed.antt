-- A task completes for an input that is valid for it.
use Rattle.std.proofs.Common.{◌≡◌, ◌∙◌, ◌<◌, ◌≤◌, ◌++◌, ◌+◌, ◌*◌, ℕ, List, [], ◌∷◌, Option, Some, None, ap, ap₂, refl, sym, subst, length, arith, length-append}
use Rattle.sj_base.specs.Stream.{CameOf}
use Rattle.sj_lang.specs.FileAt.{FileAt}
use Rattle.sj_generator.specs.Generated.{generated}
use Rattle.sj_command.specs.declared.tasks.Task.{Task}
use Rattle.sj_command.specs.declared.tasks.Task.TheVariants as tasks
use Rattle.sj_command.specs.Task.{Asks, most_messages}
use Rattle.sj_command.proofs.OneTask.{one_task}
use Rattle.sj_tool.specs.AnswerAt.{AnswerAt}
use Rattle.sj_tool.specs.Answers.{Came}
use Rattle.sj_tool.specs.Layers.{AnswersBytes}
use Rattle.sj_tool.specs.Calls.{CallAt, CountNone}
use Rattle.sj_tool.specs.Completeness.{Completes, IsValidFile, IsValidOver}
use Rattle.sj_tool.specs.LogAt.{LogAt, no_log}
use Rattle.sj_tool.specs.Tasks.{HasInput, Reads, Takes, limit_of}
use Rattle.sj_tool.specs.Texts.{status_of, text_of, verdict_status}
use Rattle.sj_tool.proofs.BytesAnswer.{takes_file}
use Rattle.sj_tool.proofs.CompletedFile.{IsUndamaged, Told, bytes_complete}
use Rattle.sj_tool.proofs.InputAnswers.{AnswersInput}
use Rattle.sj_tool.proofs.InputLemmas.{came_of, read_bytes, read_of, reads_of}
use Rattle.sj_tool.proofs.RowKindLemmas.{Row, words, fault, large, made, input, made_takes, reads_takes}
use Rattle.sj_generator_laws.specs.GeneratedFile.{generated_file}
use Rattle.sj_generator_laws.proofs.AcceptedLemmas.{file_is_accepted}
use Rattle.sj_generator_laws.proofs.FileRunLemmas.{file_ends_so}
use Rattle.sj_generator_laws.proofs.NumberLemmas.{text_stands}
use Rattle.sj_semantics.specs.Transcript.{line_of, verdict_word}
use Rattle.sj_tool.specs.Sums.{sums_line}
use Rattle.sj_semantics.specs.State.{verdict_of}
use Rattle.sj_semantics.specs.Run.{end_of}

-- the summary by the verdict of the generated file's end and two sums
abbrev told_sums : (n : ℕ) → ℕ × ℕ → List ℕ
told_sums n (m, s) = sums_line n (generated_file n) m s ++ line_of (verdict_word (verdict_of (end_of (generated_file n))) ∷ [])

-- no more than the limit was left, so no more came
too_many : (most : ℕ) (bytes : List ℕ) (after : Option (List ℕ)) → length bytes ≤ most → CameOf (λ n. most < n) (Some bytes) after → ⊥
too_many most bytes None few (taken, many, e) = let no : ⊥ = cc in no
too_many most bytes (Some rest) few (taken, many, e) =
    let same : bytes ≡ taken ++ rest = cc in
    omega (arith, few, many, ap length same, length-append taken rest)

module _ (c : CallAt) (file : FileAt) (log : LogAt) where
  -- a task that reads
  module _ (task : Task) (reads : Reads task) (asks : Asks c.words task) (valid : IsValidFile CountNone c task file log) where
    input_completes : (a : AnswerAt) → IsUndamaged a → AnswersInput c a → Told task file log (status_of a) (text_of a)
    input_completes a whole x = bytes_complete c.links task file valid.bytes valid.text log valid.parts valid.stands valid.accepted valid.fits valid.party valid.links a whole answers
      where
        tasks_are : x.task ≡ task
        tasks_are = one_task c.words x.task task x.asks asks

        answers : AnswersBytes c.links task valid.bytes a
        answers =
            let read = read_of c x.task x.bytes (subst (λ (t : Task). Reads t) (sym tasks_are) reads) x.input in
            let bytes_are : valid.bytes ≡ x.bytes = read_bytes c x.task valid.bytes x.bytes valid.left read in
            subst (λ (t : Task). AnswersBytes c.links t valid.bytes a) tasks_are (subst (λ (bs : List ℕ). AnswersBytes c.links x.task bs a) (sym bytes_are) x.answers)

    too_much : Came (λ n most. most < n) c → ⊥
    too_much many =
        let tasks_are : many.task ≡ task = one_task c.words many.task task many.asks asks in
        let came = subst (λ (t : Task). CameOf (λ n. limit_of t < n) c.left c.left_after) tasks_are (came_of (λ n most. most < n) c many) in
        too_many (limit_of task) valid.bytes c.left_after valid.few (came.0, came.1, sym valid.left ∙ came.2)

    row_completes : (a : AnswerAt) → IsUndamaged a → Row c a → Told task file log (status_of a) (text_of a)
    row_completes a whole (words e usage) = absurd (usage task asks)
    row_completes a whole (fault e few rose) = absurd (valid.no_fault rose)
    row_completes a whole (large e many same) = absurd (too_much many)
    row_completes a whole (made text s t m) = absurd (made_takes c text task m asks (reads_takes task reads))
    row_completes a whole (input x) = input_completes a whole x

  -- the file is made, and nothing is read
  module _ (n : ℕ) (asks : Asks c.words (tasks.Make n)) where
    takes_none : (task : Task) → Asks c.words task → Takes task → ⊥
    takes_none task asked takes = subst (λ (t : Task). Takes t) (one_task c.words task (tasks.Make n) asked asks) takes

    make_completes : (a : AnswerAt) → Row c a → Completes (tasks.Make n) file log (status_of a) (text_of a)
    make_completes a (words e usage) = absurd (usage (tasks.Make n) asks)
    make_completes a (fault e few rose) = absurd (takes_none few.task few.asks (reads_takes few.task (reads_of (λ n most. n ≤ most) c few)))
    make_completes a (large e many same) = absurd (takes_none many.task many.asks (reads_takes many.task (reads_of (λ n most. most < n) c many)))
    make_completes a (made text s t m) =
        let counts : m.count ≡ n = let both : tasks.Make m.count ≡ tasks.Make n = one_task c.words (tasks.Make m.count) (tasks.Make n) m.asks asks in cc in
        (s, t ∙ m.text ∙ ap generated counts)
    make_completes a (input x) = absurd (takes_none x.task x.asks (takes_file c.links x.task x.bytes a x.answers))

  -- it is made and run
  module _ (n : ℕ) (asks : Asks c.words (tasks.Big n)) (none : CountNone c.links) where
    reads_none : (task : Task) → Asks c.words task → Reads task → ⊥
    reads_none task asked reads = subst (λ (t : Task). Reads t) (one_task c.words task (tasks.Big n) asked asks) reads

    few : n ≤ most_messages
    few = let (taken, means) = asks in means.1.1

    -- how the generated file ends
    sums_up : (status : ℕ) (text : List ℕ) → Told (tasks.Big n) (generated_file n) no_log status text → Completes (tasks.Big n) file log status text
    sums_up status text (stands, printed) =
        let ends = file_ends_so n few in
        (stands ∙ ap verdict_status ends.verdict, printed ∙ ap (told_sums n) (ap₂ (λ m s. (m, s)) ends.messages ends.steps) ∙ ap (λ v. sums_line n (generated_file n) (10 * n + 15) (25 * n + 55) ++ line_of (verdict_word v ∷ [])) ends.verdict)

    big_completes : (a : AnswerAt) → IsUndamaged a → Row c a → Completes (tasks.Big n) file log (status_of a) (text_of a)
    big_completes a whole (words e usage) = absurd (usage (tasks.Big n) asks)
    big_completes a whole (fault e few rose) = absurd (reads_none few.task few.asks (reads_of (λ n most. n ≤ most) c few))
    big_completes a whole (large e many same) = absurd (reads_none many.task many.asks (reads_of (λ n most. most < n) c many))
    big_completes a whole (made text s t m) = absurd (made_takes c text (tasks.Big n) m asks tt)
    big_completes a whole (input x) =
        let tasks_are : x.task ≡ tasks.Big n = one_task c.words x.task (tasks.Big n) x.asks asks in
        let made = subst (λ (t : Task). HasInput c t x.bytes) tasks_are x.input in
        let answers = subst (λ (t : Task). AnswersBytes c.links t x.bytes a) tasks_are x.answers in
        sums_up (status_of a) (text_of a)
        (bytes_complete c.links (tasks.Big n) (generated_file n) (generated n) (generated n) no_log (refl, refl) (text_stands n (omega (arith, few))) (λ _. file_is_accepted n) (λ replays. absurd replays) tt (λ _. none) a whole
        (subst (λ (bs : List ℕ). AnswersBytes c.links (tasks.Big n) bs a) made.1 answers))

  pub completes : (task : Task) → IsValidOver CountNone c task file log → (a : AnswerAt) → IsUndamaged a → Row c a → Completes task file log (status_of a) (text_of a)
  completes (tasks.Make n) v a whole row = make_completes n v a row
  completes (tasks.Big n) v a whole row = big_completes n v.0 v.1 a whole row
  completes task v a whole row = row_completes task tt v.0 v.1 a whole row
