use Rattle.std.proofs.Common.{◌≡◌, ◌&&◌, ℕ, List, drop}
use Rattle.sj_lang.specs.FileAt.{ProtocolAt}
use Rattle.sj_acceptance.specs.FileTests.{meets_each}
use Rattle.sj_acceptance.specs.Openings.{OpeningAt}
use Rattle.sj_check.specs.Openings.{openings_of}
use Rattle.sj_check.proofs.openings.distinct.Given as goal

-- those that were kept, and what is left, decide as all do
abbrev pub invariant-loop-opening : goal.invariant-loop-opening
invariant-loop-opening l =
    (ps : List ProtocolAt) (b : ℕ) (a : OpeningAt) → (meets_each ps b a (openings_of l.some.items) && meets_each ps b a (openings_of (drop l.opening-index l.all))) ≡ meets_each ps b a (openings_of l.all)
