-- What a call of a reader leaves, beside what it read.
use Rattle.std.specs.Prelude.{◌≡◌, ℕ, ◌+◌, ◌<◌, ◌≤◌, length, Result, IfOk}
use Rattle.sj_lang.specs.declared.file.Names.{Names}
use Rattle.sj_lang.specs.declared.party.Expr.{Expr}
use Rattle.sj_lang.specs.CodeView.{term_of}
use Rattle.sj_lang.specs.Limits.{limits}
use Rattle.sj_grammar.specs.declared.refusal.ParseRefusal.{ParseRefusal}
use Rattle.sj_grammar.specs.Reading.{Reading}
use Rattle.sj_grammar.specs.Expressions.{operand_count}
use Rattle.sj_proto.specs.Onward.{Advances}
use Rattle.sj_expr.specs.Read.{Grows, StaysWithin}

-- Refused or not, the reader stands where it stood or further on, and the old names and texts come
-- first. Where it isn't refused, less of the text is ahead, and there is as much room as `Room`
-- says for what names and texts may still come.
pub record LeavesTables {X : Type 0} (Room : Names → Reading → Names → Reading → Type 0) (r : Result X ParseRefusal) (old : Names) (from : Reading) (new : Names) (to : Reading) : Type 0 where
  pub onward : Advances from to
  pub kept : Grows old new
  pub shorter : IfOk r (λ _. length to.ahead < length from.ahead)
  pub room : IfOk r (λ _. Room old from new to)

-- The same with the room of one name or text, of a call that counts operands.
-- Where it isn't refused, it counted as many as the expression has, within the limit in all.
pub record LeavesOperands (r : Result Expr ParseRefusal) (old : Names) (from : Reading) (before : ℕ) (new : Names) (to : Reading) (after : ℕ) : Type 0 where
  pub onward : Advances from to
  pub kept : Grows old new
  pub shorter : IfOk r (λ _. length to.ahead < length from.ahead)
  pub room : IfOk r (λ _. StaysWithin old from new to)
  pub count : IfOk r (λ e. after ≡ before + operand_count (term_of e))
  pub few : IfOk r (λ _. after ≤ limits.operands)
