-- What is true of every machine, and the party that it stands for.
use Rattle.std.specs.Prelude.{ℕ, ◌-◌, ◌^◌, ◌<◌, ◌≤◌, List, [], Option, length}
use Rattle.sj_base.specs.declared.EndId.{EndId}
use Rattle.sj_lang.specs.declared.party.Stmt.{Stmt}
use Rattle.sj_lang.specs.CodeView.{code_of}
use Rattle.sj_semantics.specs.declared.Value.{Value}
use Rattle.sj_semantics.specs.Program.{Program, block}
use Rattle.sj_semantics.specs.Value.{no_vars}
use Rattle.sj_machine.specs.declared.arena.CodeNode.{CodeNode}
use Rattle.sj_machine.specs.declared.stack.StackFrame.{StackFrame}
use Rattle.sj_machine.specs.Arena.{IsBackward}
use Rattle.sj_machine.specs.Frames.{Fits, todo_in}
use Rattle.sj_machine.specs.Names.{AllBindBelow, AreNamedOnce}
use Rattle.sj_machine.specs.Table.{vars_in}

-- nodes name only nodes before them, there is room for each step's frames and for each name that is
-- bound, and parties have numbers of 16 bits
pub record IsSound (nodes : List CodeNode) (frames : List StackFrame) (room names : ℕ) (ends : List (ℕ × EndId)) (ends_room : ℕ) (peers : List ℕ) : Type 0 where
  pub back : IsBackward 0 nodes
  pub fits : Fits (length nodes) 0 frames
  pub frames_room : length nodes < room
  pub named : AllBindBelow names nodes
  pub once : AreNamedOnce names ends
  pub names_room : names ≤ ends_room
  pub few : length peers < 2 ^ 16

-- steps are counted in 32 bits
abbrev pub last_step : ℕ
last_step = 2 ^ 32 - 1

-- the party that nodes, frames and their room, variables, ends, steps and the
-- names of parties stand for
abbrev pub program_at : List CodeNode × (List StackFrame × ℕ) × List (Option Value) × List (ℕ × EndId) × ℕ × List ℕ → Program
program_at m = record { todo = todo_in m.0 m.1.0; vars = vars_in m.2; ends = m.3; steps = m.4; peers = m.5 }

-- a party with these statements to do and these ends among parties of these names, and no variable
abbrev pub first_program : List Stmt → List (ℕ × EndId) → List ℕ → Program
first_program body ends peers = record { todo = block (code_of body) []; vars = no_vars; ends = ends; steps = 0; peers = peers }
