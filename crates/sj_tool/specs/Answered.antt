-- The contract of the top call: what a call of `sj` has answered, in one record.
use Rattle.std.specs.Prelude.{◌≡◌, ◌⊎◌, ℕ, true, List, Option, IfSome}
use Rattle.sj_base.specs.Stream.{Rose, WroteFrontOf}
use Rattle.sj_lane.specs.declared.lane.InLane.{Ghosts as InLane}
use Rattle.sj_lane.specs.declared.lane.OutLane.{Ghosts as OutLane}
use Rattle.sj_lane.specs.Told as lanes
use Rattle.sj_lang.specs.FileAt.{FileAt}
use Rattle.sj_command.specs.declared.tasks.Task.{Task}
use Rattle.sj_semantics.specs.declared.Verdict.TheVariants.{Blocked}
use Rattle.sj_tool.specs.AnswerAt.{AnswerAt, ReadFault, LinkFault, Damaged}
use Rattle.sj_tool.specs.Answers.{Answers, IsInTable, OrYields}
use Rattle.sj_tool.specs.Calls.{CallAt, CountNone}
use Rattle.sj_tool.specs.Completeness.{CompletesSo, IsValid, IsValidOver}
use Rattle.sj_tool.specs.Headline.{HasHeadline, IsForwarding, IsPlaying, IsVerdict, ReadsNoForest, WritesForwarded}
use Rattle.sj_tool.specs.LogAt.{LogAt}
use Rattle.sj_tool.specs.Over.{WritesDamage, WritesRun}
use Rattle.sj_tool.specs.Table.{AnswersAs, NoFaultAbove}
use Rattle.sj_tool.specs.Tasks.{AsksFor, Reads, RunsParties}
use Rattle.sj_tool.specs.Texts.{IsBelowSize, no_memory_status, status_of, text_of, verdict_status, write_fault_status}

-- what the sink holds, where it reports that, and how many faults it counted
pub record SinkAt : Type 0 where
  pub written : Option (List ℕ)
  pub faults : ℕ

-- a sink of that kind
abbrev pub sink : {K : Type 0} → (written : K → Option (List ℕ)) → (faults : K → ℕ) → K → SinkAt
sink written faults k = record { written = written k; faults = faults k }

-- what a call's own kinds of lanes, links and source say: what is written of damage and of a run,
-- that the links are as they were, and that the source was read to its end
pub record OwnAt : Type 1 where
  pub damage : CallAt → (before after : Option (List ℕ)) → Type 0
  pub run : CallAt → (status : ℕ) → (before after : Option (List ℕ)) → Type 0
  pub unused : Type 0
  pub ended : Type 0

-- these words of one call, over lanes of those kinds
abbrev pub own : {O I : Type 0} → OutLane O → InLane I → (joined : O → I → Type 0) → (unused ended : Type 0) → OwnAt
own outward inward joined unused ended =
    record { damage = WritesDamage outward inward joined; run = WritesRun outward inward joined; unused = unused; ended = ended }

-- what is answered by that call with that status, and of the sink before and after
pub record HasAnswered (own : OwnAt) (c : CallAt) (status : ℕ) (before after : SinkAt) : Type 0 where
  -- an answer of the table comes, and its text is written after what was written before
  pub answer : OrYields status ((a : AnswerAt) × IsInTable c a × Answers c status before.written after.written a)
  -- whatever answer the table gives, it is the answer, where the source reports; of `run --log` the
  -- history alone may be another
  pub exactly : IfSome c.left (λ rest. (a : AnswerAt) → IsInTable c a → NoFaultAbove c a → OrYields status (AnswersAs c status before.written after.written a))
  -- `sim`, `run` and `replay` write with 0, 6 or 7 the transcript of a run with the headline
  pub headline : IsVerdict status → AsksFor IsPlaying c → HasHeadline c status before.written after.written
  -- `run --forward` writes with them that transcript and the number of its drain's deliveries
  pub forwarded : IsVerdict status → AsksFor IsForwarding c → WritesForwarded c status before.written after.written
  -- `sim`, `run` and `replay` answer 6 only of a file that is no forest
  pub forest : status ≡ verdict_status Blocked → AsksFor IsPlaying c → ReadsNoForest c
  -- of an input that is valid for the task the answer is what the task says of it
  pub complete : (task : Task) (file : FileAt) (log : LogAt) → IsValid c task file log → OrYields status (CompletesSo task file log status before.written after.written)
  -- a read fault and a link fault come only where a fault was counted, and damage only over links
  -- that don't report
  pub read_fault : status ≡ status_of ReadFault → Rose c.faults c.faults_after
  pub link_fault : status ≡ status_of LinkFault → lanes.Rose c.links.faults c.links.faults_after
  pub damaged : (text : List ℕ) → status ≡ status_of (Damaged text) → c.links.tells ≡ true → ⊥
  -- what is reported of damage is in what workers left that worked over lanes of these links, which
  -- didn't carry in order and unchanged. The history of `run` and `big` with 0, 6 or 7 begins with
  -- the joined logs of such workers. Of these none stopped at a fault, out of memory or as unfit
  pub damage : (text : List ℕ) → status ≡ status_of (Damaged text) → own.damage c before.written after.written
  pub ran : IsVerdict status → AsksFor RunsParties c → own.run c status before.written after.written
  -- an input that is valid for the task, over links that counted no fault, is answered as the task
  -- asks, or by such damage. This holds whether the links report or not. So the answer is as the
  -- task asks where the links carried in order and unchanged
  pub in_order : (task : Task) (file : FileAt) (log : LogAt) → IsValidOver CountNone c task file log
      → OrYields status (CompletesSo task file log status before.written after.written ⊎ own.damage c before.written after.written)
  -- links over which nothing is run stay as they are
  pub unused : (AsksFor RunsParties c → ⊥) → own.unused
  -- a task that reads has read the source to its end, unless a read failed or too much came
  pub ended : AsksFor Reads c → IsBelowSize status → own.ended
  -- a write fault comes only where one was counted
  pub write_fault : status ≡ write_fault_status → Rose before.faults after.faults
  -- a prefix of the text of an answer that comes was written where the sink failed, and nothing
  -- without memory
  pub front : status ≡ write_fault_status → (a : AnswerAt) × IsInTable c a × WroteFrontOf (text_of a) before.written after.written
  pub no_memory : status ≡ no_memory_status → after.written ≡ before.written
