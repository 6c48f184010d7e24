-- The names that a program binds, below a number.
use Rattle.std.specs.Prelude.{◌≡◌, ◌≢◌, ℕ, ◌<◌, List, [], ◌∷◌, length, get_or, ⊤}
use Rattle.sj_base.specs.declared.EndId.{EndId}
use Rattle.sj_machine.specs.declared.arena.Op.{Op}
use Rattle.sj_machine.specs.declared.arena.Op.TheVariants.{Take, TakeEnd, Let, Request, Accept}
use Rattle.sj_machine.specs.declared.arena.CodeNode.{CodeNode}

-- the name that the operation binds is below that number
abbrev pub BindsBelow : ℕ → Op → Type 0
BindsBelow size (Take x n k) = n < size
BindsBelow size (TakeEnd x n p) = n < size
BindsBelow size (Let n e) = n < size
BindsBelow size (Request x p b) = x < size
BindsBelow size (Accept x p b) = x < size
BindsBelow size _ = ⊤

-- and so it is in each node
abbrev pub AllBindBelow : ℕ → List CodeNode → Type 0
AllBindBelow size nodes = (i : ℕ) (n : CodeNode) → i < length nodes → n ≡ get_or nodes i n → BindsBelow size n.op

-- no end has that name
abbrev pub Lacks : ℕ → List (ℕ × EndId) → Type 0
Lacks n [] = ⊤
Lacks n (e ∷ es) = (e.0 ≢ n) × Lacks n es

-- no two ends have one name
abbrev pub NamesDiffer : List (ℕ × EndId) → Type 0
NamesDiffer [] = ⊤
NamesDiffer (e ∷ es) = Lacks e.0 es × NamesDiffer es

-- and each name is below that number
abbrev pub AreNamedOnce : ℕ → List (ℕ × EndId) → Type 0
AreNamedOnce size [] = ⊤
AreNamedOnce size (e ∷ es) = (e.0 < size) × Lacks e.0 es × AreNamedOnce size es

-- each end's name is below that number
abbrev pub AreBelowName : ℕ → List (ℕ × EndId) → Type 0
AreBelowName size [] = ⊤
AreBelowName size (e ∷ es) = (e.0 < size) × AreBelowName size es
