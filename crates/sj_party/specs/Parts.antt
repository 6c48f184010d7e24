-- What a statement has after its first word, part by part.
use Rattle.std.specs.Prelude.{◌≡◌, ℕ, List, [], ◌∷◌, codes}
use Rattle.sj_lang.specs.declared.party.Scalar.{Scalar}
use Rattle.sj_lang.specs.Term.{Term}
use Rattle.sj_lang.specs.Code.{Code, DeedAt, Branches, no_branch, branch, send, delegate, take_value, take_end, outbranch, inbranch, outwhile, inwhile, relay, if_else, let_be, close, request, accept}
use Rattle.sj_lang.specs.Limits.{limits}
use Rattle.sj_grammar.specs.Tables.{IsNamed}
use Rattle.sj_grammar.specs.Positions.{At, Takes}
use Rattle.sj_grammar.specs.Statements.{scalar_piece, IsBlock, AreArms}
use Rattle.sj_grammar.specs.ExpressionDues.{whole}
use Rattle.sj_grammar.specs.FileDues.{Due, name, fixed, expr, awaited, block, branches, file_layer}
use Rattle.sj_grammar.specs.Lexis.{next_of}
use Rattle.sj_grammar.specs.Asked.{Passes}
use Rattle.sj_proto.specs.Parsed.{Gives}
use Rattle.sj_expr.specs.Read.{ReadsExpression}
use Rattle.sj_party.specs.Read.{ReadsOnLines}

pub data Part : Type 0 where
  a_name : ℕ → Part
  an_expression : Term → Part
  a_piece : List ℕ → Part
  -- what a `recv` awaits
  a_value : Scalar → Part
  an_end : ℕ → Part
  -- inside so many inner braces
  a_block : ℕ → Code → Part
  -- arms, one at least, and no more of them
  some_arms : ℕ → Branches → Part

-- after the first word
abbrev pub parts_of : ℕ → DeedAt → List Part
parts_of o (send x t) = a_name x ∷ an_expression t ∷ a_piece (codes ";") ∷ []
parts_of o (delegate x y) = a_name x ∷ a_name y ∷ a_piece (codes ";") ∷ []
parts_of o (take_value x n k) = a_name x ∷ a_name n ∷ a_value k ∷ a_piece (codes ";") ∷ []
parts_of o (take_end x y p) = a_name x ∷ a_name y ∷ an_end p ∷ a_piece (codes ";") ∷ []
parts_of o (outbranch x m) = a_name x ∷ a_name m ∷ a_piece (codes ";") ∷ []
parts_of o (inbranch x arms) = a_name x ∷ a_piece (codes "{") ∷ some_arms o arms ∷ a_piece (codes "}") ∷ []
parts_of o (outwhile x t code) = a_name x ∷ an_expression t ∷ a_block o code ∷ []
parts_of o (inwhile x code) = a_name x ∷ a_block o code ∷ []
parts_of o (relay x y code) = a_name x ∷ a_name y ∷ a_block o code ∷ []
parts_of o (if_else t first second) = an_expression t ∷ a_block o first ∷ a_piece (codes "else") ∷ a_block o second ∷ []
parts_of o (let_be n t) = a_name n ∷ a_piece (codes "=") ∷ an_expression t ∷ a_piece (codes ";") ∷ []
parts_of o (close x) = a_name x ∷ a_piece (codes ";") ∷ []
parts_of o (request x p b) = a_name x ∷ a_name p ∷ a_piece (codes "to") ∷ a_name b ∷ a_piece (codes ";") ∷ []
parts_of o (accept x p b) = a_name x ∷ a_name p ∷ a_piece (codes "from") ∷ a_name b ∷ a_piece (codes ";") ∷ []

-- the first word
abbrev pub first_word : DeedAt → List ℕ
first_word (send x t) = codes "send"
first_word (delegate x y) = codes "delegate"
first_word (take_value x n k) = codes "recv"
first_word (take_end x y p) = codes "recv"
first_word (outbranch x m) = codes "outbranch"
first_word (inbranch x arms) = codes "inbranch"
first_word (outwhile x t code) = codes "outwhile"
first_word (inwhile x code) = codes "inwhile"
first_word (relay x y code) = codes "relay"
first_word (if_else t first second) = codes "if"
first_word (let_be n t) = codes "let"
first_word (close x) = codes "close"
first_word (request x p b) = codes "request"
first_word (accept x p b) = codes "accept"

abbrev pub AreSome : Branches → Type 0
AreSome no_branch = ⊥
AreSome (branch m code arms) = Unit {0}

-- from here to there stands the part
abbrev pub ReadsPart : At → At → Part → Type 0
ReadsPart a b (a_name n) = Gives a b (λ word. word n ∷ []) (λ word. IsNamed limits word n)
ReadsPart a b (an_expression t) = ReadsExpression a b t
ReadsPart a b (a_piece s) = Takes a s b
ReadsPart a b (a_value k) = Takes a (scalar_piece k) b
ReadsPart a b (an_end p) = (m : At) × Takes a (codes "session") m × Gives m b (λ word. word p ∷ []) (λ word. IsNamed limits word p)
ReadsPart a b (a_block o code) = ReadsOnLines a b (λ names ps. IsBlock limits names o code ps)
ReadsPart a b (some_arms o arms) = AreSome arms × ReadsOnLines a b (λ names ps. AreArms limits names o arms ps) × Passes file_layer (branches o) (next_of b.text.ahead)

abbrev pub ReadsParts : At → At → List Part → Type 0
ReadsParts a b [] = a ≡ b
ReadsParts a b (p ∷ ps) = (m : At) × ReadsPart a m p × ReadsParts m b ps

-- from here to there stands, after that word, what the statement does
pub record ReadsDeed (word : List ℕ) (o : ℕ) (a b : At) (deed : DeedAt) : Type 0 where
  pub first : first_word deed ≡ word
  pub parts : ReadsParts a b (parts_of o deed)

-- what is due where a part may stand
abbrev pub due_of : Part → List Due → List Due
due_of (a_name n) ds = name ∷ ds
due_of (an_expression t) ds = expr whole ∷ ds
due_of (a_piece s) ds = fixed s ∷ ds
due_of (a_value k) ds = awaited ∷ ds
due_of (an_end p) ds = awaited ∷ ds
due_of (a_block o code) ds = block o ∷ ds
due_of (some_arms o arms) ds = name ∷ fixed (codes ":") ∷ block o ∷ branches o ∷ ds

abbrev pub dues_of : List Part → List Due → List Due
dues_of [] ds = ds
dues_of (p ∷ ps) ds = due_of p (dues_of ps ds)
