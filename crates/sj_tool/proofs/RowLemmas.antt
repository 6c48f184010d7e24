-- The rows of the table of answers exclude each other, where the source reports.
use Rattle.std.proofs.Common.{◌≡◌, ◌∙◌, inl, inr, ◌<◌, ◌≤◌, ◌++◌, ℕ, List, Option, Some, None, length, ap, sym, subst, arith, length-append}
use Rattle.sj_base.specs.Stream.{CameOf}
use Rattle.sj_command.specs.declared.tasks.Task.{Task}
use Rattle.sj_command.specs.declared.tasks.Task.TheVariants as tasks
use Rattle.sj_command.specs.Task.{Asks}
use Rattle.sj_command.proofs.OneTask.{one_task}
use Rattle.sj_generator.specs.Generated.{generated}
use Rattle.sj_tool.specs.AnswerAt.{AnswerAt, LinkFault, Damaged, Ran}
use Rattle.sj_tool.specs.Texts.{status_of, text_of}
use Rattle.sj_tool.specs.Answers.{Came, IsInTable, Makes}
use Rattle.sj_tool.specs.Layers.{AnswersBytes}
use Rattle.sj_tool.specs.Calls.{CallAt}
use Rattle.sj_tool.specs.Tasks.{HasInput, Reads, limit_of}
use Rattle.sj_tool.specs.Table.{AreOne, AreOneLog, NoFaultAbove}
use Rattle.sj_tool.proofs.RowKindLemmas.{Row, words, fault, large, made, input, made_takes, no_rise, reads_takes, row_of}
use Rattle.sj_tool.proofs.BytesAnswer.{AreBytesLogs, one_of_bytes, takes_file}
use Rattle.sj_tool.proofs.InputAnswers.{AnswersInput}
use Rattle.sj_tool.proofs.InputLemmas.{came_of, one_input, read_of, reads_of}
use Rattle.sj_tool.proofs.OneAnswer.{HoldsFor}
use Rattle.sj_tool.proofs.ToldOnce.{AreToldOnce, told}

-- what came is at most the limit or more, and not both
came_once : (l : ℕ) (left : List ℕ) (after : Option (List ℕ)) → CameOf (λ n. n ≤ l) (Some left) after → CameOf (λ n. l < n) (Some left) after → ⊥
came_once l left None (t, few, e) (u, many, d) = cc
came_once l left (Some rest) (t, few, e) (u, many, d) =
    let one : Some (t ++ rest) ≡ Some (u ++ rest) = sym e ∙ d in
    let same : t ++ rest ≡ u ++ rest = cc in
    let long : length (t ++ rest) ≡ length (u ++ rest) = ap length same in
    omega (arith, length-append t rest, length-append u rest)

pub are_same : (c : CallAt) (a b : AnswerAt) → a ≡ b → AreOne c a b
are_same c a b e = record { status = ap status_of e; text = inl (ap text_of e) }

-- what no read fault above an answer says of the links
holds_above : (c : CallAt) (b : AnswerAt) → NoFaultAbove c b → (task : Task) → Asks c.words task → HoldsFor c.links task b
holds_above c LinkFault h task asks = h
holds_above c (Damaged t) h task asks = h
holds_above c (Ran v t) h task asks = λ runs. h.1 (record { task = task; asks = asks; kind = runs })
holds_above c a h task asks = tt

-- logs of the file that its bytes hold are of the file that the call holds
call_logs : (c : CallAt) (task : Task) (bytes s t : List ℕ) → Asks c.words task → HasInput c task bytes → AreBytesLogs c.links task bytes s t → AreOneLog c s t
call_logs c task bytes s t asks given x = (
  record { task = task; asks = asks; bytes = bytes; input = given; text = x.text; log = x.log; parts = x.parts; file = x.logs.file; stands = x.logs.stands },
  x.logs.logs,
)

-- an input is answered in one way
one_of_input : (c : CallAt) (left : List ℕ) → c.left ≡ Some left → (a b : AnswerAt) → AnswersInput c a → AnswersInput c b → NoFaultAbove c b → AreOne c a b
one_of_input c left e a b x y above =
    let tasks_are : x.task ≡ y.task = one_task c.words x.task y.task x.asks y.asks in
    let same : y.bytes ≡ x.bytes =
    one_input c left e x.task y.bytes x.bytes (subst (λ (t : Task). HasInput c t y.bytes) (sym tasks_are) y.input) x.input in
    let one : AreToldOnce (AreBytesLogs c.links x.task x.bytes) (told a) (told b) =
    one_of_bytes c.links x.task x.bytes a b x.answers
    (subst (λ (t : Task). AnswersBytes c.links t x.bytes b) (sym tasks_are) (subst (λ (bs : List ℕ). AnswersBytes c.links y.task bs b) same y.answers))
    (holds_above c b above x.task x.asks) in
    record { status = one.status; text = elim one.text [ inl text ↦ inl text | inr logs ↦ inr (call_logs c x.task x.bytes (text_of a) (text_of b) x.asks x.input logs) ] }

module _ (c : CallAt) (left : List ℕ) (tells : c.left ≡ Some left) where
  once : Came (λ n most. n ≤ most) c → Came (λ n most. most < n) c → ⊥
  once few many =
      let same = one_task c.words few.task many.task few.asks many.asks in
      let came = subst (λ (t : Task). CameOf (λ n. n ≤ limit_of t) c.left c.left_after) same (came_of (λ n most. n ≤ most) c few) in
      let more = came_of (λ n most. most < n) c many in
      came_once (limit_of many.task) left c.left_after (came.0, came.1, sym tells ∙ came.2) (more.0, more.1, sym tells ∙ more.2)

  -- where too much came, no input was read whole
  few_in : (a : AnswerAt) → AnswersInput c a → Came (λ n most. most < n) c → ⊥
  few_in a x many =
      let reads = subst (λ (t : Task). Reads t) (one_task c.words many.task x.task many.asks x.asks) (reads_of (λ n most. most < n) c many) in
      let read = read_of c x.task x.bytes reads x.input in
      once (record { task = x.task; asks = x.asks; kind = (reads, (x.bytes, read.few, read.came)) }) many

  made_once : (a b : AnswerAt) (s t : List ℕ) → status_of a ≡ 0 → text_of a ≡ s → Makes c s → status_of b ≡ 0 → text_of b ≡ t → Makes c t → AreOne c a b
  made_once a b s t e d m f g n =
      let counts : m.count ≡ n.count = let both : tasks.Make m.count ≡ tasks.Make n.count = one_task c.words (tasks.Make m.count) (tasks.Make n.count) m.asks n.asks in cc in
      record { status = e ∙ sym f; text = inl (d ∙ m.text ∙ ap generated counts ∙ sym n.text ∙ sym g) }

  one_row : (a b : AnswerAt) → Row c a → Row c b → NoFaultAbove c b → AreOne c a b
  one_row a b (words e u) (words d v) above = are_same c a b (e ∙ sym d)
  one_row a b (words e u) (fault d few r) above = absurd (u few.task few.asks)
  one_row a b (words e u) (large d many same) above = absurd (u many.task many.asks)
  one_row a b (words e u) (made t s d m) above = absurd (u (tasks.Make m.count) m.asks)
  one_row a b (words e u) (input y) above = absurd (u y.task y.asks)
  one_row a b (fault e few r) (words d v) above = absurd (v few.task few.asks)
  one_row a b (fault e few r) (fault d few2 r2) above = are_same c a b (e ∙ sym d)
  one_row a b (fault e few r) (large d many same) above = absurd (once few many)
  one_row a b (fault e few r) (made t s d m) above = absurd (made_takes c t few.task m few.asks (reads_takes few.task (reads_of (λ n most. n ≤ most) c few)))
  one_row a b (fault e few r) (input y) above = absurd (no_rise c b y above r)
  one_row a b (large e many same) (words d v) above = absurd (v many.task many.asks)
  one_row a b (large e many same) (fault d few r) above = absurd (once few many)
  one_row a b (large e many same) (large d many2 same2) above = are_same c a b (e ∙ sym d)
  one_row a b (large e many same) (made t s d m) above = absurd (made_takes c t many.task m many.asks (reads_takes many.task (reads_of (λ n most. most < n) c many)))
  one_row a b (large e many same) (input y) above = absurd (few_in b y many)
  one_row a b (made t s e m) (words d v) above = absurd (v (tasks.Make m.count) m.asks)
  one_row a b (made t s e m) (fault d few r) above = absurd (made_takes c t few.task m few.asks (reads_takes few.task (reads_of (λ n most. n ≤ most) c few)))
  one_row a b (made t s e m) (large d many same) above = absurd (made_takes c t many.task m many.asks (reads_takes many.task (reads_of (λ n most. most < n) c many)))
  one_row a b (made t s e m) (made u r d n) above = made_once a b t u s e m r d n
  one_row a b (made t s e m) (input y) above = absurd (made_takes c t y.task m y.asks (takes_file c.links y.task y.bytes b y.answers))
  one_row a b (input x) (words d v) above = absurd (v x.task x.asks)
  one_row a b (input x) (fault d few r) above = absurd (subst (λ (z : AnswerAt). NoFaultAbove c z) d above)
  one_row a b (input x) (large d many same) above = absurd (few_in a x many)
  one_row a b (input x) (made t s d m) above = absurd (made_takes c t x.task m x.asks (takes_file c.links x.task x.bytes a x.answers))
  one_row a b (input x) (input y) above = one_of_input c left tells a b x y above

  -- the answer that comes is each one that the table gives
  pub one_comes : (a b : AnswerAt) → IsInTable c a → IsInTable c b → NoFaultAbove c b → AreOne c a b
  one_comes a b x y above = one_row a b (row_of c a x) (row_of c b y) above
