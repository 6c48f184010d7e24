-- Which term a shape stands for.
use Rattle.std.proofs.Common.{◌≡◌, ℕ, Bool, true, false, List}
use Rattle.std.specs.Prelude.{codes, pos, neg_ℤ}
use Rattle.std.specs.Str.{bytes_eq}
use Rattle.std.specs.Str.Parse.{digits_value}
use Rattle.sj_lang.specs.Term.{Term, int, boolean, text, var}
use Rattle.sj_lang.specs.Term as term
use Rattle.sj_grammar.specs.Literals.{is_number, is_text, inner}
use Rattle.sj_grammar.specs.Names.{is_name}
use Rattle.sj_lang.specs.Limits.{Limits}
use Rattle.sj_grammar.specs.Tables.{Spelling, IsNamed, IsLiteral}
use Rattle.sj_expr.proofs.ShapeLemmas.{Shape, leaf, minus, negated, joined}

-- an operand stands for the term
module _ (L : Limits) (names : Spelling) where
  abbrev pub leaf_by : Bool → Bool → Bool → Bool → List ℕ → Term → Type 0
  leaf_by true b c d s t = t ≡ int (pos (digits_value 10 s))
  leaf_by false true c d s t = (n : ℕ) × (t ≡ text n) × IsLiteral L names.text n × (names.text n ≡ inner s)
  leaf_by false false true d s t = (n : ℕ) × (t ≡ var n) × IsNamed L names.word n × (names.word n ≡ s)
  leaf_by false false false true s t = t ≡ boolean true
  leaf_by false false false false s t = t ≡ boolean false

  -- the shape stands for the term
  abbrev pub IsShapeOf : Shape → Term → Type 0
  IsShapeOf (leaf s) t = leaf_by (is_number s) (is_text s) (is_name s) (bytes_eq s (codes "true")) s t
  IsShapeOf (minus s) t = t ≡ int (neg_ℤ (pos (digits_value 10 s)))
  IsShapeOf (negated x) t = (u : Term) × IsShapeOf x u × (t ≡ term.not u)
  IsShapeOf (joined op x y) t = (u : Term) × (v : Term) × IsShapeOf x u × IsShapeOf y v × (t ≡ term.two op u v)
