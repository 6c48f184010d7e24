-- Statements that name only what the file has, and programs that know only of it.
use Rattle.std.specs.Prelude.{◌≡◌, ℕ, ⊤, List, [], ◌∷◌, Some}
use Rattle.std.specs.List.{AllByRecursion}
use Rattle.sj_base.specs.declared.EndId.{EndId}
use Rattle.sj_lang.specs.FileAt.{FileAt}
use Rattle.sj_lang.specs.Term.{Term}
use Rattle.sj_lang.specs.Term as terms
use Rattle.sj_lang.specs.Code.{Code, DeedAt, Branches, no_stmt, stmt_then, at, send, delegate, take_value, take_end, outbranch, inbranch, outwhile, inwhile, relay, if_else, let_be, close, request, accept, no_branch, branch}
use Rattle.sj_semantics.specs.declared.Value.{Value}
use Rattle.sj_semantics.specs.Value.{Vars, message_of}
use Rattle.sj_semantics.specs.Program.{Thing, statement, turns, passing, Program}
use Rattle.sj_log.specs.Legible.{IsEnd, IsInt, IsMessage, HasWord, HasText}

module _ (file : FileAt) where
  -- its numbers have 64 bits, and its texts are the file's
  abbrev pub TermTold : Term → Type 0
  TermTold (terms.int z) = IsInt z
  TermTold (terms.boolean b) = ⊤
  TermTold (terms.text n) = HasText file n
  TermTold (terms.var n) = ⊤
  TermTold (terms.not e) = TermTold e
  TermTold (terms.two op e f) = TermTold e × TermTold f

  -- what it sends or keeps is of that kind, and its labels are words of the file
  abbrev mutual
    pub CodeTold : Code → Type 0
    CodeTold no_stmt = ⊤
    CodeTold (stmt_then (at line deed) code) = DeedTold deed × CodeTold code

    pub DeedTold : DeedAt → Type 0
    DeedTold (send x e) = TermTold e
    DeedTold (delegate x y) = ⊤
    DeedTold (take_value x n k) = ⊤
    DeedTold (take_end x y p) = ⊤
    DeedTold (outbranch x l) = HasWord file l
    DeedTold (inbranch x arms) = ArmsTold arms
    DeedTold (outwhile x e body) = CodeTold body
    DeedTold (inwhile x body) = CodeTold body
    DeedTold (relay x y body) = CodeTold body
    DeedTold (if_else e first second) = CodeTold first × CodeTold second
    DeedTold (let_be n e) = TermTold e
    DeedTold (close x) = ⊤
    DeedTold (request x p b) = ⊤
    DeedTold (accept x p b) = ⊤

    pub ArmsTold : Branches → Type 0
    ArmsTold no_branch = ⊤
    ArmsTold (branch m code arms) = CodeTold code × ArmsTold arms

  abbrev pub ThingTold : Thing → Type 0
  ThingTold (statement deed) = DeedTold deed
  ThingTold (turns x n body) = CodeTold body
  ThingTold (passing x y more body) = CodeTold body

  abbrev pub ThingsTold : List Thing → Type 0
  ThingsTold [] = ⊤
  ThingsTold (t ∷ ts) = ThingTold t × ThingsTold ts

  abbrev pub ValueTold : Value → Type 0
  ValueTold v = IsMessage file (message_of v)

  abbrev pub VarsTold : Vars → Type 0
  VarsTold vars = (n : ℕ) (v : Value) → vars n ≡ Some v → ValueTold v

  abbrev pub EndsTold : List (ℕ × EndId) → Type 0
  EndsTold ends = AllByRecursion (λ b. IsEnd b.1) ends

  -- what it has to do, the values of its variables and its ends
  pub record ProgramTold (g : Program) : Type 0 where
    pub todo : ThingsTold g.todo
    pub vars : VarsTold g.vars
    pub ends : EndsTold g.ends
