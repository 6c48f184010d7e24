-- What a reader of expressions read, and what it did to the tables.
use Rattle.std.specs.Prelude.{◌≡◌, ℕ, ◌+◌, ◌≤◌, true, List, [], ◌∷◌, ◌++◌}
use Rattle.sj_lang.specs.declared.file.Names.{Names}
use Rattle.sj_lang.specs.Term.{Term}
use Rattle.sj_lang.specs.Limits.{limits}
use Rattle.sj_grammar.specs.Reading.{Reading}
use Rattle.sj_grammar.specs.Literals.{quoted}
use Rattle.sj_grammar.specs.Tables.{Spelling, Spells, IsLiteral}
use Rattle.sj_grammar.specs.Positions.{Pieces, At, Begins}
use Rattle.sj_grammar.specs.Expressions.{Level, Spelt, whole, IsExpression, operand_count}
use Rattle.sj_grammar.specs.Lexis.{Ahead, at_end, bad, token, next_of}
use Rattle.sj_grammar.specs.Layers.{may_end}
use Rattle.sj_grammar.specs.Asked.{Passes}
use Rattle.sj_grammar.specs.Viable.{IsViable}
use Rattle.sj_grammar.specs.ExpressionDues.{ExpressionDue, expression_at, expression_layer}
use Rattle.sj_expr.specs.Laws.{Leads}
use Rattle.sj_expr.specs.Viable.{IsSomeExpression}
use Rattle.sj_proto.specs.Parsed.{Extends, need, room_for_names}

-- the spelling has what the tables there have
pub record Agrees (names : Spelling) (a : At) : Type 0 where
  pub words : Spells names.word a.words
  pub texts : Spells names.text a.texts

-- from here to there the tokens are some pieces,
-- and by each spelling that agrees with the tables there F says what they are
pub record Reads (a b : At) (F : Spelling → Pieces → Type 0) : Type 0 where
  pub pieces : Pieces
  pub begins : Begins a pieces b
  pub are : (names : Spelling) → Agrees names b → F names pieces

-- an expression of that level, inside so many parentheses and `not`s
abbrev pub ReadsLevel : Level → ℕ → At → At → Term → Type 0
ReadsLevel l o a b t = Reads a b (λ names ps. Spelt limits names l o t ps)

-- no due of these takes what comes next
abbrev pub AllPass : List ExpressionDue → Ahead → Type 0
AllPass [] x = Unit {0}
AllPass (d ∷ ds) x = Passes expression_layer d x × AllPass ds x

-- an expression inside so many parentheses and `not`s, with so many operands before it;
-- what comes next is none of what is left due
pub record ReadsWhole (n o : ℕ) (a b : At) (t : Term) : Type 0 where
  pub reads : ReadsLevel whole o a b t
  pub left : List ExpressionDue
  pub leads : (ds : List ExpressionDue) → Leads limits n (expression_at o ++ ds) reads.pieces (n + operand_count t) (left ++ ds)
  pub may_end : may_end expression_layer left ≡ true
  pub passes : AllPass left (next_of b.text.ahead)

-- what comes next goes on with no expression that begins with these pieces
abbrev pub EndsAt : Pieces → Ahead → Type 0
EndsAt ps at_end = Unit {0}
EndsAt ps (bad lexical rest) = Unit {0}
EndsAt ps (token what s rest) = IsViable IsSomeExpression (ps ++ s ∷ []) → ⊥

-- from here to there stands that expression
pub record ReadsExpression (a b : At) (t : Term) : Type 0 where
  pub reads : Reads a b (λ names ps. IsExpression limits names t ps)
  pub ends : EndsAt reads.pieces (next_of b.text.ahead)

-- the text of that number, with its quotes
abbrev pub TextSpelled : ℕ → Spelling → Pieces → Type 0
TextSpelled n names ps = IsLiteral limits names.text n × (ps ≡ quoted (names.text n) ∷ [])

-- names and texts are added after the old ones
pub record Grows (old new : Names) : Type 0 where
  pub words : Extends old.words new.words
  pub texts : Extends old.texts new.texts

-- what names and texts may still come: their numbers stay small
pub record HasRooms (names : Names) (r : Reading) : Type 0 where
  pub words : need names.words r ≤ room_for_names
  pub texts : need names.texts r ≤ room_for_names

-- a name or a text may take one more of the room than its bytes give back
pub record StaysWithin (old : Names) (r : Reading) (new : Names) (q : Reading) : Type 0 where
  pub words : need new.words q ≤ need old.words r + 1
  pub texts : need new.texts q ≤ need old.texts r + 1
