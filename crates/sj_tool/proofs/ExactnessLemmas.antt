-- What the table gives is answered, where the source reports.
use Rattle.std.proofs.Common.{◌≡◌, ◌⊎◌, ℕ, List, Option, Some, None, IfSome, refl, inl, inr}
use Rattle.sj_base.specs.Stream.{put_behind}
use Rattle.sj_tool.specs.AnswerAt.{AnswerAt}
use Rattle.sj_tool.specs.Texts.{no_memory_status, status_of, text_of, write_fault_status}
use Rattle.sj_tool.specs.Answers.{IsInTable, OrYields}
use Rattle.sj_tool.specs.Calls.{CallAt}
use Rattle.sj_tool.specs.Table.{AnswersAs, NoFaultAbove}
use Rattle.sj_tool.proofs.RowLemmas.{one_comes}

module _ (c : CallAt) (status : ℕ) (before now : Option (List ℕ)) where
  -- what the table gives is the answer, or the sink or memory failed
  abbrev Exact : Type 0
  Exact = (b : AnswerAt) → IsInTable c b → NoFaultAbove c b → OrYields status (AnswersAs c status before now b)

  if_reports : (left : Option (List ℕ)) → c.left ≡ left → ((rest : List ℕ) → c.left ≡ Some rest → Exact) → IfSome left (λ _. Exact)
  if_reports None is exact = tt {0}
  if_reports (Some rest) is exact = exact rest is

  pub answered_exactly : (a : AnswerAt) → IsInTable c a → status ≡ status_of a → now ≡ put_behind before (text_of a) → IfSome c.left (λ _. Exact)
  answered_exactly a comes e d =
      if_reports c.left refl (λ rest is b other above. inl (record { answer = a; one = one_comes c rest is a b comes other above; answers = (e, d) }))

  pub yields_exactly : (status ≡ write_fault_status) ⊎ (status ≡ no_memory_status) → IfSome c.left (λ _. Exact)
  yields_exactly yields = if_reports c.left refl (λ rest is b other above. inr yields)
