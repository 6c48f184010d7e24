-- What holds within all limits that are wide enough.
use Rattle.std.proofs.Common.{ℕ, ◌+◌, ◌≤◌, IsTrue, List, length, arith}
use Rattle.sj_lang.specs.Term.{Term}
use Rattle.sj_lang.specs.Limits.{Limits}
use Rattle.sj_grammar.specs.Names.{is_name}
use Rattle.sj_grammar.specs.Tables.{Spelling, IsFirst, IsNamed}
use Rattle.sj_grammar.specs.Positions.{Pieces}
use Rattle.sj_grammar.specs.Expressions.{IsExpression, operand_count}
use Rattle.sj_grammar.specs.Expressions as level
use Rattle.sj_expr.proofs.WideLimitLemmas.{Writes}

-- each limit is as wide as that
pub record IsWide (k : ℕ) (M : Limits) : Type 0 where
  pub protocols : k ≤ M.protocols
  pub parties : k ≤ M.parties
  pub connects : k ≤ M.connects
  pub items : k ≤ M.items
  pub nesting : k ≤ M.nesting
  pub labels : k ≤ M.labels
  pub operands : k ≤ M.operands
  pub name : k ≤ M.name
  pub text : k ≤ M.text

-- each limit is that
abbrev pub all_limits : ℕ → Limits
all_limits k = record { protocols = k; parties = k; connects = k; items = k; nesting = k; labels = k; operands = k; name = k; text = k }

-- and so wide for what is less
pub are_wide : (j k : ℕ) → j ≤ k → IsWide j (all_limits k)
are_wide j k h = record { protocols = h; parties = h; connects = h; items = h; nesting = h; labels = h; operands = h; name = h; text = h }

-- within limits that wide, and all wider ones
abbrev pub Widely : (Limits → Type 0) → Type 0
Widely P = (k : ℕ) × ((M : Limits) → IsWide k M → P M)

-- limits are as wide as what is less
narrower : (j k : ℕ) (M : Limits) → j ≤ k → IsWide k M → IsWide j M
narrower j k M h w = record {
  protocols = let a = w.protocols in omega arith;
  parties = let a = w.parties in omega arith;
  connects = let a = w.connects in omega arith;
  items = let a = w.items in omega arith;
  nesting = let a = w.nesting in omega arith;
  labels = let a = w.labels in omega arith;
  operands = let a = w.operands in omega arith;
  name = let a = w.name in omega arith;
  text = let a = w.text in omega arith;
}

-- what follows within all such limits, from one, two or three that hold there
pub widely : (P R : Limits → Type 0) → ((M : Limits) → P M → R M) → Widely P → Widely R
widely P R f p = (p.0, λ M w. f M (p.1 M w))

pub widely_two : (P Q R : Limits → Type 0) → ((M : Limits) → P M → Q M → R M) → Widely P → Widely Q → Widely R
widely_two P Q R f p q = (p.0 + q.0, λ M w. f M (p.1 M (narrower p.0 (p.0 + q.0) M (omega arith) w)) (q.1 M (narrower q.0 (p.0 + q.0) M (omega arith) w)))

pub widely_three : (P Q R S : Limits → Type 0) → ((M : Limits) → P M → Q M → R M → S M) → Widely P → Widely Q → Widely R → Widely S
widely_three P Q R S f p q r = widely_two (λ M. P M × Q M) R S (λ M both. f M both.0 both.1) (widely_two P Q (λ M. P M × Q M) (λ M x y. (x, y)) p q) r

-- a first number of a name
pub named_widely : (word : ℕ → List ℕ) (n : ℕ) → IsTrue (is_name (word n)) → IsFirst word n → Widely (λ M. IsNamed M word n)
named_widely word n is first = (length (word n), λ M w. record { name = is; short = w.name; first = first })

-- an expression with all its operands
pub expression_widely : (names : Spelling) (t : Term) (a : Pieces) → Writes names level.whole 0 t a → Widely (λ M. IsExpression M names t a)
expression_widely names t a x = (x.0 + operand_count t, λ M w. within M (narrower x.0 (x.0 + operand_count t) M (omega arith) w) (narrower (operand_count t) (x.0 + operand_count t) M (omega arith) w))
  where
    within : (M : Limits) → IsWide x.0 M → IsWide (operand_count t) M → IsExpression M names t a
    within M w few = record { spelt = x.1 M (record { nesting = w.nesting; name = w.name; text = w.text }); few = few.operands }
