-- What a call of a parser leaves, beside what it read.
use Rattle.std.specs.Prelude.{◌≡◌, ℕ, ◌+◌, ◌≤◌, Result, IfOk}
use Rattle.sj_lang.specs.declared.file.Names.{Names}
use Rattle.sj_lang.specs.Limits.{limits}
use Rattle.sj_grammar.specs.declared.refusal.ParseRefusal.{ParseRefusal}
use Rattle.sj_grammar.specs.Reading.{Reading}
use Rattle.sj_proto.specs.Onward.{Advances}
use Rattle.sj_proto.specs.Parsed.{Keeps, need}

-- Refused or not, the reader stands where it stood or further on, and the old words come first.
-- Where it isn't refused, what names may still come takes at most k more room than before.
-- That is room that names took and their bytes didn't give back.
pub record Leaves {X : Type 0} (k : ℕ) (r : Result X ParseRefusal) (old : Names) (from : Reading) (new : Names) (to : Reading) : Type 0 where
  pub onward : Advances from to
  pub kept : Keeps old new
  pub room : IfOk r (λ _. need new.words to ≤ need old.words from + k)

-- The same where the bytes give back what the names took, of a call that counts items.
-- Where it isn't refused, it counted as many as it read, within the limit in all.
pub record LeavesItems {X : Type 0} (count_of : X → ℕ) (r : Result X ParseRefusal) (old : Names) (from : Reading) (before : ℕ) (new : Names) (to : Reading) (after : ℕ) : Type 0 where
  pub onward : Advances from to
  pub kept : Keeps old new
  pub room : IfOk r (λ _. need new.words to ≤ need old.words from)
  pub count : IfOk r (λ x. after ≡ before + count_of x)
  pub few : IfOk r (λ _. after ≤ limits.items)
