-- Statuses that are no verdict's.
use Rattle.std.proofs.Common.{◌≡◌, arith}
use Rattle.sj_semantics.specs.declared.Verdict.{Verdict}
use Rattle.sj_semantics.specs.declared.Verdict.TheVariants as verdicts
use Rattle.sj_tool.specs.Texts.{verdict_status}
use Rattle.sj_seat_local.specs.Played.{IsVerdict}

pub none_of_2 : IsVerdict 2 → ⊥
none_of_2 (v, ends) = by v ends
  where
    by : (v : Verdict) → 2 ≡ verdict_status v → ⊥
    by verdicts.Done e = absurd (omega (arith, e))
    by verdicts.Blocked e = absurd (omega (arith, e))
    by verdicts.Long e = absurd (omega (arith, e))

pub none_of_8 : IsVerdict 8 → ⊥
none_of_8 (v, ends) = by v ends
  where
    by : (v : Verdict) → 8 ≡ verdict_status v → ⊥
    by verdicts.Done e = absurd (omega (arith, e))
    by verdicts.Blocked e = absurd (omega (arith, e))
    by verdicts.Long e = absurd (omega (arith, e))

pub none_of_9 : IsVerdict 9 → ⊥
none_of_9 (v, ends) = by v ends
  where
    by : (v : Verdict) → 9 ≡ verdict_status v → ⊥
    by verdicts.Done e = absurd (omega (arith, e))
    by verdicts.Blocked e = absurd (omega (arith, e))
    by verdicts.Long e = absurd (omega (arith, e))

pub none_of_10 : IsVerdict 10 → ⊥
none_of_10 (v, ends) = by v ends
  where
    by : (v : Verdict) → 10 ≡ verdict_status v → ⊥
    by verdicts.Done e = absurd (omega (arith, e))
    by verdicts.Blocked e = absurd (omega (arith, e))
    by verdicts.Long e = absurd (omega (arith, e))

pub none_of_11 : IsVerdict 11 → ⊥
none_of_11 (v, ends) = by v ends
  where
    by : (v : Verdict) → 11 ≡ verdict_status v → ⊥
    by verdicts.Done e = absurd (omega (arith, e))
    by verdicts.Blocked e = absurd (omega (arith, e))
    by verdicts.Long e = absurd (omega (arith, e))

pub none_of_3 : IsVerdict 3 → ⊥
none_of_3 (v, ends) = by v ends
  where
    by : (v : Verdict) → 3 ≡ verdict_status v → ⊥
    by verdicts.Done e = absurd (omega (arith, e))
    by verdicts.Blocked e = absurd (omega (arith, e))
    by verdicts.Long e = absurd (omega (arith, e))

pub none_of_12 : IsVerdict 12 → ⊥
none_of_12 (v, ends) = by v ends
  where
    by : (v : Verdict) → 12 ≡ verdict_status v → ⊥
    by verdicts.Done e = absurd (omega (arith, e))
    by verdicts.Blocked e = absurd (omega (arith, e))
    by verdicts.Long e = absurd (omega (arith, e))

pub none_of_14 : IsVerdict 14 → ⊥
none_of_14 (v, ends) = by v ends
  where
    by : (v : Verdict) → 14 ≡ verdict_status v → ⊥
    by verdicts.Done e = absurd (omega (arith, e))
    by verdicts.Blocked e = absurd (omega (arith, e))
    by verdicts.Long e = absurd (omega (arith, e))
