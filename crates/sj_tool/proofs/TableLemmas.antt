-- The table gives one answer for a call.
use Rattle.std.proofs.Common.{◌≡◌, ◌≢◌, ◌⊎◌, ◌∙◌, ◌-◌, ◌^◌, ℕ, List, Some, inl, inr, refl, sym, arith}
use Rattle.sj_base.specs.Stream.{Rose}
use Rattle.sj_tool.specs.AnswerAt.{AnswerAt, Usage, ReadFault, TooLarge, LogFault, LinkFault, Damaged, Ran, Made}
use Rattle.sj_tool.specs.Answers.{IsInTable}
use Rattle.sj_tool.specs.Calls.{CallAt}
use Rattle.sj_tool.specs.Table.{AreOne, CanRise, NoFaultAbove, RunsWell}
use Rattle.sj_tool.proofs.InputLemmas.{no_fault_of}
use Rattle.sj_tool.proofs.RowLemmas.{are_same, one_comes}

-- a count that stays hasn't risen
stays : (before now : ℕ) → now ≡ before → before ≢ 2 ^ 64 - 1 → Rose before now → ⊥
stays before now same more (inl rose) = omega (arith, same, rose)
stays before now same more (inr last) = more (sym same ∙ last)

-- no fault stands above the answer, or it is a read fault
above_or_fault : (c : CallAt) (a : AnswerAt) → CanRise c → RunsWell c → IsInTable c a → NoFaultAbove c a ⊎ (a ≡ ReadFault)
above_or_fault c Usage more well h = inl tt
above_or_fault c ReadFault more well h = inr refl
above_or_fault c TooLarge more well h =
    let same : c.faults_after ≡ c.faults = elim h [ inl l ↦ l.1 | inr x ↦ no_fault_of c x.0.task x.0.bytes x.0.input ] in
    inl (λ replays. stays c.faults c.faults_after same more)
above_or_fault c (LogFault r k) more well h =
    let same : c.faults_after ≡ c.faults = elim h [ inl m ↦ no_fault_of c m.0.task m.0.bytes m.0.input | inr x ↦ no_fault_of c x.0.task x.0.bytes x.0.input ] in
    inl (stays c.faults c.faults_after same more)
above_or_fault c LinkFault more well h =
    let answers = h.1 in
    let holds = well (record { task = h.0.task; asks = h.0.asks; kind = answers.1 }) in absurd (holds.1 answers.2)
above_or_fault c (Damaged t) more well h =
    let answers = h.1 in
    let holds = well (record { task = h.0.task; asks = h.0.asks; kind = answers.1 }) in absurd (answers.2 holds.0)
above_or_fault c (Ran v t) more well h = inl (stays c.faults c.faults_after (no_fault_of c h.0.task h.0.bytes h.0.input) more, well)
above_or_fault c (Made t) more well h = inl tt
above_or_fault c a more well h = inl (stays c.faults c.faults_after (no_fault_of c h.0.task h.0.bytes h.0.input) more)

pub one_answer : (c : CallAt) (left : List ℕ) (a b : AnswerAt) → c.left ≡ Some left → CanRise c → RunsWell c → IsInTable c a → IsInTable c b → AreOne c a b
one_answer c left a b tells more well x y = by (above_or_fault c a more well x) (above_or_fault c b more well y)
  where
    swapped : AreOne c b a → AreOne c a b
    swapped one = record {
      status = sym one.status;
      text =
          elim one.text [
            | inl text ↦ inl (sym text)
            | inr log ↦ inr (log.0, record { logs = log.1.logs; first = log.1.second; second = log.1.first })
          ];
    }

    by : NoFaultAbove c a ⊎ (a ≡ ReadFault) → NoFaultAbove c b ⊎ (b ≡ ReadFault) → AreOne c a b
    by h (inl above) = one_comes c left tells a b x y above
    by (inl above) (inr d) = swapped (one_comes c left tells b a y x above)
    by (inr e) (inr d) = are_same c a b (e ∙ sym d)
