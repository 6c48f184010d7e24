-- A status below the row of the size is that of an answer for which the source was read whole.
use Rattle.std.proofs.Common.{◌≡◌, ◌⊎◌, ◌∙◌, ◌≤◌, ℕ, Result, Ok, Err, IfOk, inl, inr, refl, arith}
use Rattle.sj_semantics.specs.declared.Verdict.TheVariants.{Blocked, Done, Long}
use Rattle.sj_tool.specs.declared.answers.Answer.{Answer}
use Rattle.sj_tool.specs.AnswerAt.{AnswerAt, answer_at, Usage, ReadFault, TooLarge, NoTalk, Syntax, Check, NoParty, LogFault, Misfit, LinkFault, Damaged, Ran, Printed, Made}
use Rattle.sj_tool.specs.Calls.{CallAt}
use Rattle.sj_tool.specs.Tasks.{AsksFor, Reads}
use Rattle.sj_tool.specs.Texts.{IsBelowSize, IsReadWhole, status_of}

-- 0, 4 to 9, 12 or 14
rows : (a : AnswerAt) → IsReadWhole a → (status_of a ≡ 0) ⊎ ((4 ≤ status_of a) × (status_of a ≤ 9) ⊎ (12 ≤ status_of a))
rows Usage whole = absurd whole
rows ReadFault whole = absurd whole
rows TooLarge whole = absurd whole
rows NoTalk whole = inr (inr (omega arith))
rows (Syntax f) whole = inr (inl (omega arith, omega arith))
rows (Check r l) whole = inr (inl (omega arith, omega arith))
rows (NoParty n) whole = inr (inr (omega arith))
rows (LogFault r l) whole = inr (inr (omega arith))
rows (Misfit t) whole = inr (inr (omega arith))
rows LinkFault whole = inr (inl (omega arith, omega arith))
rows (Damaged t) whole = inr (inl (omega arith, omega arith))
rows (Ran Done t) whole = inl refl
rows (Ran Blocked t) whole = inr (inl (omega arith, omega arith))
rows (Ran Long t) whole = inr (inl (omega arith, omega arith))
rows (Printed t) whole = inl refl
rows (Made t) whole = inl refl

-- so any other is none
off : (status : ℕ) → (status ≡ 0 → ⊥) → (4 ≤ status → status ≤ 9 → ⊥) → (12 ≤ status → ⊥) → IsBelowSize status → ⊥
off status none middle high below = by (rows below.0 below.2)
  where
    by : (status_of below.0 ≡ 0) ⊎ ((4 ≤ status_of below.0) × (status_of below.0 ≤ 9) ⊎ (12 ≤ status_of below.0)) → ⊥
    by (inl e) = none (below.1 ∙ e)
    by (inr (inl m)) = middle (omega (arith, m.0, below.1)) (omega (arith, m.1, below.1))
    by (inr (inr h)) = high (omega (arith, h, below.1))

pub read_whole : (status : ℕ) (a : AnswerAt) → status ≡ status_of a → IsBelowSize status → IsReadWhole a
read_whole status Usage is below = off status (λ e. omega (arith, is, e)) (λ l h. omega (arith, is, l)) (λ l. omega (arith, is, l)) below
read_whole status ReadFault is below = off status (λ e. omega (arith, is, e)) (λ l h. omega (arith, is, l)) (λ l. omega (arith, is, l)) below
read_whole status TooLarge is below = off status (λ e. omega (arith, is, e)) (λ l h. omega (arith, is, l)) (λ l. omega (arith, is, l)) below
read_whole status a is below = tt

-- that of a write fault or of out of memory is none
pub no_ended : {X : Type 0} (c : CallAt) (status : ℕ) → 10 ≤ status → status ≤ 11 → AsksFor Reads c → IsBelowSize status → X
no_ended c status above within reads below = absurd (off status (λ e. omega (arith, above, e)) (λ l h. omega (arith, above, h)) (λ l. omega (arith, within, l)) below)

module _ {E : Type 0} (c : CallAt) (H : Type 0) where
  -- what is said of an answer where the source was read to its end
  pub has_ended : (r : Result Answer E) → H → IfOk r (λ a. IsReadWhole (answer_at a) → AsksFor Reads c → H)
  has_ended (Ok a) ended = λ whole reads. ended
  has_ended (Err e) ended = tt

  -- and where nothing is read
  pub reads_none : (r : Result Answer E) → (AsksFor Reads c → ⊥) → IfOk r (λ a. IsReadWhole (answer_at a) → AsksFor Reads c → H)
  reads_none (Ok a) none = λ whole reads. absurd (none reads)
  reads_none (Err e) none = tt
