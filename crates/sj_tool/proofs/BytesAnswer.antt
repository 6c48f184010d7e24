-- The bytes that a task takes are answered in one way.
use Rattle.std.proofs.Common.{◌≡◌, ◌∙◌, ◌≤◌, ℕ, List, length, inl, inr, ap, sym, subst, refl, arith}
use Rattle.sj_command.specs.declared.tasks.Task.{Task}
use Rattle.sj_command.specs.declared.tasks.Task.TheVariants as tasks
use Rattle.sj_log.specs.Parts.{HasNoPart, IsParted}
use Rattle.sj_tool.specs.LogAt.{LogAt}
use Rattle.sj_tool.specs.AnswerAt.{AnswerAt, TooLarge, Syntax, Check, LogFault, Misfit, LinkFault, Damaged, Ran, NoTalk, NoParty}
use Rattle.sj_tool.specs.Layers.{AnswersBytes, AnswersParts, AnswersText}
use Rattle.sj_tool.specs.Calls.{LinkUseAt}
use Rattle.sj_tool.specs.Tasks.{HasLongText, HasParts, HasTail, IsPartedFor, Replays as IsReplay, Takes, Talks}
use Rattle.sj_tool.specs.TalkParts.{HasNoTalk, IsTalk}
use Rattle.sj_tool.proofs.InputLemmas.{long_tail, one_part, one_parted}
use Rattle.sj_tool.proofs.OneAnswer.{AreTextLogs, HoldsFor, one_of_text}
use Rattle.sj_tool.proofs.ToldOnce.{AreToldOnce, same_told, told, told_over}
use Rattle.sj_lang.specs.Limits.{file_limit}

-- what of the bytes is answered: what stands before the log or the lines is too long, no line
-- splits them, or their parts are
pub data Kind (links : LinkUseAt) (task : Task) (bytes : List ℕ) (a : AnswerAt) : Type 0 where
  long : a ≡ TooLarge → HasLongText task bytes → Kind links task bytes a
  misses : a ≡ LogFault 1 0 → IsReplay task → HasNoPart bytes → Kind links task bytes a
  unspoken : a ≡ NoTalk → Talks task → HasNoTalk bytes → Kind links task bytes a
  parts : AnswersParts links task bytes a → Kind links task bytes a

pub kind_of : (links : LinkUseAt) (task : Task) (bytes : List ℕ) (a : AnswerAt) → AnswersBytes links task bytes a → Kind links task bytes a
kind_of links task bytes TooLarge x = long refl x
kind_of links task bytes NoTalk x = unspoken refl x.0 x.1
kind_of links task bytes (LogFault r k) x = elim x [ inl m ↦ misses (ap (λ s. LogFault s k) m.2 ∙ ap (λ n. LogFault 1 n) m.3) m.0 m.1 | inr p ↦ parts p ]
kind_of links task bytes a x = parts x

-- the line that parts a source for a replay, or for a talk
replay_parted : (task : Task) (bytes text : List ℕ) (log : LogAt) → IsReplay task → IsPartedFor task bytes text log → IsParted bytes text log.version log.bytes
replay_parted (tasks.Replay l) bytes text log replays p = p
replay_parted task bytes text log replays p = absurd replays

talk_parted : (task : Task) (bytes text : List ℕ) (log : LogAt) → Talks task → IsPartedFor task bytes text log → IsTalk bytes text log.bytes
talk_parted (tasks.Talk n) bytes text log talks p = p.0
talk_parted task bytes text log talks p = absurd talks

-- the parts of such a task
parted_of : (task : Task) (bytes text : List ℕ) (log : LogAt) → HasTail task → HasParts task bytes text log → IsPartedFor task bytes text log × (length text ≤ file_limit)
parted_of (tasks.Replay l) bytes text log tail p = p
parted_of (tasks.Talk n) bytes text log tail p = p
parted_of task bytes text log tail p = absurd tail

replay_tail : (task : Task) → IsReplay task → HasTail task
replay_tail (tasks.Replay l) replays = tt
replay_tail task replays = absurd replays

talk_tail : (task : Task) → Talks task → HasTail task
talk_tail (tasks.Talk n) talks = tt
talk_tail task talks = absurd talks

replays_no_talk : (task : Task) → IsReplay task → Talks task → ⊥
replays_no_talk (tasks.Replay l) replays talks = talks
replays_no_talk task replays talks = replays

-- a text that isn't too long is no other that is
pub not_long : (task : Task) (bytes text : List ℕ) (log : LogAt) → HasParts task bytes text log → HasLongText task bytes → ⊥
not_long task bytes text log p x =
    let q = parted_of task bytes text log (long_tail task bytes x) p in
    let same = one_parted task bytes text log x.text x.log q.0 x.parts in
    omega (arith, q.1, x.long, ap length same.0)

pub not_missed : (task : Task) (bytes text : List ℕ) (log : LogAt) → IsReplay task → HasParts task bytes text log → HasNoPart bytes → ⊥
not_missed task bytes text log replays p none =
    none text log.version log.bytes (replay_parted task bytes text log replays (parted_of task bytes text log (replay_tail task replays) p).0).here

pub not_unspoken : (task : Task) (bytes text : List ℕ) (log : LogAt) → Talks task → HasParts task bytes text log → HasNoTalk bytes → ⊥
not_unspoken task bytes text log talks p none =
    none text log.bytes (talk_parted task bytes text log talks (parted_of task bytes text log (talk_tail task talks) p).0).here

-- two logs are of the file whose text the bytes have
pub record AreBytesLogs (links : LinkUseAt) (task : Task) (bytes s t : List ℕ) : Type 0 where
  pub text : List ℕ
  pub log : LogAt
  pub parts : HasParts task bytes text log
  pub logs : AreTextLogs links task log text s t

module _ (links : LinkUseAt) (task : Task) (bytes : List ℕ) (a b : AnswerAt) where
  one_of_kind : Kind links task bytes a → Kind links task bytes b → HoldsFor links task b → AreToldOnce (AreBytesLogs links task bytes) (told a) (told b)
  one_of_kind (long e x) (long d y) h = same_told (AreBytesLogs links task bytes) (told a) (told b) (ap told (e ∙ sym d))
  one_of_kind (long e x) (misses d replays none) h = absurd (none x.text x.log.version x.log.bytes (replay_parted task bytes x.text x.log replays x.parts).here)
  one_of_kind (long e x) (unspoken d talks none) h = absurd (none x.text x.log.bytes (talk_parted task bytes x.text x.log talks x.parts).here)
  one_of_kind (long e x) (parts q) h = absurd (not_long task bytes q.text q.log q.parts x)
  one_of_kind (misses e replays none) (long d y) h = absurd (none y.text y.log.version y.log.bytes (replay_parted task bytes y.text y.log replays y.parts).here)
  one_of_kind (misses e replays none) (misses d again other) h = same_told (AreBytesLogs links task bytes) (told a) (told b) (ap told (e ∙ sym d))
  one_of_kind (misses e replays none) (unspoken d talks other) h = absurd (replays_no_talk task replays talks)
  one_of_kind (misses e replays none) (parts q) h = absurd (not_missed task bytes q.text q.log replays q.parts none)
  one_of_kind (unspoken e talks none) (long d y) h = absurd (none y.text y.log.bytes (talk_parted task bytes y.text y.log talks y.parts).here)
  one_of_kind (unspoken e talks none) (misses d replays other) h = absurd (replays_no_talk task replays talks)
  one_of_kind (unspoken e talks none) (unspoken d again other) h = same_told (AreBytesLogs links task bytes) (told a) (told b) (ap told (e ∙ sym d))
  one_of_kind (unspoken e talks none) (parts q) h = absurd (not_unspoken task bytes q.text q.log talks q.parts none)
  one_of_kind (parts p) (long d y) h = absurd (not_long task bytes p.text p.log p.parts y)
  one_of_kind (parts p) (misses d replays none) h = absurd (not_missed task bytes p.text p.log replays p.parts none)
  one_of_kind (parts p) (unspoken d talks none) h = absurd (not_unspoken task bytes p.text p.log talks p.parts none)
  one_of_kind (parts p) (parts q) h =
      let same = one_part task bytes q.text q.log p.text p.log q.parts p.parts in
      told_over (AreTextLogs links task p.log p.text) (AreBytesLogs links task bytes) (λ s t logs. record { text = p.text; log = p.log; parts = p.parts; logs = logs }) (told a) (told b)
      (one_of_text links task p.log p.text a b p.answers
      (subst (λ (l : LogAt). AnswersText links task l p.text b) same.1 (subst (λ (t : List ℕ). AnswersText links task q.log t b) same.0 q.answers)) h)

  pub one_of_bytes : AnswersBytes links task bytes a → AnswersBytes links task bytes b → HoldsFor links task b → AreToldOnce (AreBytesLogs links task bytes) (told a) (told b)
  one_of_bytes x y h = one_of_kind (kind_of links task bytes a x) (kind_of links task bytes b y) h

-- ---- a task whose bytes are answered takes a file

takes_text : (links : LinkUseAt) (task : Task) (log : LogAt) (text : List ℕ) (a : AnswerAt) → AnswersText links task log text a → Takes task
takes_text links (tasks.Make n) log text (Syntax f) h = absurd h.0
takes_text links (tasks.Make n) log text (Check r k) h = absurd h.answers.0
takes_text links (tasks.Make n) log text (NoParty m) h = absurd h.answers.1
takes_text links (tasks.Make n) log text (LogFault r k) h = absurd h.answers.1
takes_text links (tasks.Make n) log text (Misfit t) h = absurd h.answers.1
takes_text links (tasks.Make n) log text LinkFault h = absurd h.answers.1
takes_text links (tasks.Make n) log text (Damaged t) h = absurd h.answers.1
takes_text links (tasks.Make n) log text (Ran v t) h = absurd h.answers.1.0
takes_text links (tasks.Make n) log text a h = absurd h.answers
takes_text links task log text a h = tt

tail_takes : (task : Task) → HasTail task → Takes task
tail_takes (tasks.Make n) h = h
tail_takes task h = tt

pub takes_file : (links : LinkUseAt) (task : Task) (bytes : List ℕ) (a : AnswerAt) → AnswersBytes links task bytes a → Takes task
takes_file links task bytes a x = by (kind_of links task bytes a x)
  where
    by : Kind links task bytes a → Takes task
    by (long e y) = tail_takes task (long_tail task bytes y)
    by (misses e replays none) = tail_takes task (replay_tail task replays)
    by (unspoken e talks none) = tail_takes task (talk_tail task talks)
    by (parts p) = takes_text links task p.log p.text a p.answers
