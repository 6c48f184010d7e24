-- What is to do at a stack of frames.
use Rattle.std.specs.Prelude.{ℕ, zero, suc, ◌+◌, ◌<◌, List, [], ◌∷◌, ◌++◌, Option, Some, None, option_map, option_and_then, unwrap_or, ⊤}
use Rattle.sj_lang.specs.Code.{Code, DeedAt, no_stmt, stmt_then, at, outwhile, relay}
use Rattle.sj_lang.specs.Term.{Term}
use Rattle.sj_semantics.specs.Value.{Vars, worth, turns_of}
use Rattle.sj_base.specs.declared.Msg.{Msg}
use Rattle.sj_semantics.specs.Wants.{more_turns}
use Rattle.sj_semantics.specs.Program.{Thing, statement, turns, passing, block}
use Rattle.sj_machine.specs.declared.stack.Stage.{Stage}
use Rattle.sj_machine.specs.declared.stack.Stage.TheVariants.{Fresh, Turns, Passing}
use Rattle.sj_machine.specs.declared.stack.StackFrame.{StackFrame}
use Rattle.sj_machine.specs.declared.stack.After.{After}
use Rattle.sj_machine.specs.declared.stack.After.TheVariants.{Past, Stays}
use Rattle.sj_machine.specs.declared.arena.CodeNode.{CodeNode}
use Rattle.sj_machine.specs.Arena.{code_in, codes_of, IsBelow}

-- the frame of a block that is entered, and none of an empty one
abbrev pub entry_frames : Option ℕ → List StackFrame
entry_frames None = []
entry_frames (Some i) = record { at = i; stage = Fresh } ∷ []

-- the frames that take the place of a statement's, where the block after it is next
abbrev pub frames_after : StackFrame → Option ℕ → After → List StackFrame
frames_after f next (Past block) = entry_frames next ++ entry_frames block
frames_after f next (Stays stage block) = record { at = f.at; stage = stage } ∷ entry_frames block

-- what is left of a statement at that stage
abbrev pub thing_at : Stage → DeedAt → Thing
thing_at (Turns n) (outwhile x e body) = turns x n body
thing_at (Passing more) (relay x y body) = passing x y more body
thing_at stage deed = statement deed

-- the first statement of the block at that stage, and the others after it
abbrev pub staged : Stage → Code → List Thing → List Thing
staged stage no_stmt rest = rest
staged stage (stmt_then (at line deed) code) rest = thing_at stage deed ∷ block code rest

-- what is to do at frames, the outermost first
abbrev pub todo_from : List Code → List StackFrame → List Thing → List Thing
todo_from codes [] rest = rest
todo_from codes (f ∷ fs) rest = todo_from codes fs (staged f.stage (code_in codes (Some f.at)) rest)

-- what a party still has to do, where its position is these frames over these nodes
abbrev pub todo_in : List CodeNode → List StackFrame → List Thing
todo_in nodes frames = todo_from (codes_of nodes) frames []

-- what is to do after a step of the statement, where that is after it
abbrev pub todo_after : List Code → DeedAt → After → List Thing → List Thing
todo_after codes deed (Past inside) rest = block (code_in codes inside) rest
todo_after codes deed (Stays stage inside) rest = block (code_in codes inside) (thing_at stage deed ∷ rest)

-- the turns that a loop has left: at its beginning what its count comes to
abbrev pub turns_at : Vars → Stage → Term → ℕ
turns_at vars (Turns n) e = n
turns_at vars stage e = unwrap_or (option_and_then turns_of (worth vars e)) 0

-- whether such a loop says more, where its count is there
abbrev pub more_at : Vars → Stage → Term → Option Msg
more_at vars (Turns n) e = Some (more_turns n)
more_at vars stage e = option_map more_turns (option_and_then turns_of (worth vars e))

-- where a loop with so many turns left leads
abbrev pub turn_with : ℕ → Option ℕ → After
turn_with zero body = Past None
turn_with (suc n) body = Stays (Turns n) body

-- the block that is entered first begins before node k
abbrev pub LeadsBelow : ℕ → After → Type 0
LeadsBelow k (Past inside) = IsBelow k inside
LeadsBelow k (Stays stage inside) = IsBelow k inside

-- each frame leaves room for the nodes before its own
abbrev pub Fits : ℕ → ℕ → List StackFrame → Type 0
Fits size k [] = ⊤
Fits size k (f ∷ fs) = (k + f.at < size) × Fits size (suc k) fs
