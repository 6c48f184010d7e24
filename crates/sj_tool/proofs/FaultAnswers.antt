-- What an answer with the status of a fault says, and what is said where none is written.
use Rattle.std.proofs.Common.{◌≡◌, ◌⊎◌, ◌≤◌, ℕ, true, inl, inr, refl, arith}
use Rattle.sj_base.specs.Stream.{Rose, WroteFrontOf}
use Rattle.sj_lane.specs.declared.lane.InLane.{Ghosts as InLane}
use Rattle.sj_lane.specs.declared.lane.OutLane.{Ghosts as OutLane}
use Rattle.sj_lane.specs.Told as lanes
use Rattle.sj_semantics.specs.declared.Verdict.TheVariants.{Blocked}
use Rattle.sj_tool.specs.AnswerAt.{AnswerAt, ReadFault, LinkFault, Damaged, Ran}
use Rattle.sj_tool.specs.Answered.{HasAnswered, SinkAt, own}
use Rattle.sj_tool.specs.Answers.{IsInTable}
use Rattle.sj_tool.specs.Calls.{CallAt}
use Rattle.sj_tool.specs.Tasks.{AsksFor, RunsParties}
use Rattle.sj_tool.specs.Texts.{no_memory_status, status_of, text_of, write_fault_status}
use Rattle.sj_tool.proofs.EndedAnswers.{no_ended}
use Rattle.sj_tool.proofs.ExactnessLemmas.{yields_exactly}
use Rattle.sj_tool.proofs.PlayedAnswers.{beyond, no_refusal}

-- ---- one status is that of a read fault alone, one that of a link fault, one that of damage

pub read_fault_by : (c : CallAt) (a : AnswerAt) → IsInTable c a → 2 ≡ status_of a → Rose c.faults c.faults_after
read_fault_by c ReadFault x e = x.1
read_fault_by c (Ran v t) x e = absurd (no_refusal v 2 (omega arith) (omega arith) e)
read_fault_by c a x e = absurd (omega (arith, e))

pub link_fault_by : (c : CallAt) (a : AnswerAt) → IsInTable c a → 8 ≡ status_of a → lanes.Rose c.links.faults c.links.faults_after
link_fault_by c LinkFault x e = x.1.2
link_fault_by c (Ran v t) x e = absurd (beyond v 8 (omega arith) e)
link_fault_by c a x e = absurd (omega (arith, e))

pub damaged_by : (c : CallAt) (a : AnswerAt) → IsInTable c a → 9 ≡ status_of a → c.links.tells ≡ true → ⊥
damaged_by c (Damaged t) x e = x.1.2
damaged_by c (Ran v t) x e = absurd (beyond v 9 (omega arith) e)
damaged_by c a x e = absurd (omega (arith, e))

-- no answer has the status of a write fault, or that of no memory
pub not_failed : (a : AnswerAt) (status : ℕ) → 10 ≤ status → status ≤ 11 → status ≡ status_of a → ⊥
not_failed (Ran v t) status above within e = beyond v status (omega (arith, above)) e
not_failed a status above within e = omega (arith, above, within, e)

-- ---- where no answer is written

module _ {O I : Type 0} (outward : OutLane O) (inward : InLane I) (joined : O → I → Type 0) (unused ended : Type 0) (c : CallAt) (before after : SinkAt) where
  -- the sink failed, or memory
  failed : (status : ℕ) → 10 ≤ status → status ≤ 11 → (status ≡ write_fault_status) ⊎ (status ≡ no_memory_status) → ((AsksFor RunsParties c → ⊥) → unused)
      → (status ≡ write_fault_status → Rose before.faults after.faults × ((a : AnswerAt) × IsInTable c a × WroteFrontOf (text_of a) before.written after.written))
      → (status ≡ no_memory_status → after.written ≡ before.written) → HasAnswered (own outward inward joined unused ended) c status before after
  failed status above within yields idle wrote kept = record {
    answer = inr yields;
    exactly = yields_exactly c status before.written after.written yields;
    headline = λ verdict plays. absurd (beyond verdict.0 status (omega (arith, above)) verdict.1);
    forwarded = λ verdict plays. absurd (beyond verdict.0 status (omega (arith, above)) verdict.1);
    forest = λ six plays. absurd (beyond Blocked status (omega (arith, above)) six);
    complete = λ task file log valid. inr yields;
    read_fault = λ e. absurd (omega (arith, above, e));
    link_fault = λ e. absurd (omega (arith, above, e));
    damaged = λ text e tells. omega (arith, above, e);
    damage = λ text e. absurd (omega (arith, above, e));
    ran = λ verdict runs. absurd (beyond verdict.0 status (omega (arith, above)) verdict.1);
    in_order = λ task file log valid. inr yields;
    unused = idle;
    ended = λ reads below. no_ended c status above within reads below;
    write_fault = λ e. (wrote e).0;
    front = λ e. (wrote e).1;
    no_memory = kept;
  }

  pub no_memory_answered : ((AsksFor RunsParties c → ⊥) → unused) → after.written ≡ before.written → HasAnswered (own outward inward joined unused ended) c 11 before after
  no_memory_answered idle kept = failed 11 (omega arith) (omega arith) (inr refl) idle (λ e. absurd (omega (arith, e))) (λ e. kept)

  pub write_fault_answered : ((AsksFor RunsParties c → ⊥) → unused) → Rose before.faults after.faults → (a : AnswerAt) → IsInTable c a → WroteFrontOf (text_of a) before.written after.written
      → HasAnswered (own outward inward joined unused ended) c 10 before after
  write_fault_answered idle rose a comes front = failed 10 (omega arith) (omega arith) (inl refl) idle (λ e. (rose, (a, comes, front))) (λ e. absurd (omega (arith, e)))
