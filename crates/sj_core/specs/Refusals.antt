-- Why a world does nothing.
use Rattle.std.specs.Prelude.{⊤}
use Rattle.sj_node.specs.declared.refusal.Halt.{Halt}
use Rattle.sj_node.specs.declared.refusal.Halt.TheVariants as halts

-- a cause, other than being out of memory, why a party's act is illegal
abbrev pub IsStop : Halt → Type 0
IsStop halts.Ended = ⊤
IsStop halts.AtLimit = ⊤
IsStop halts.Waits = ⊤
IsStop halts.NoMemory = ⊥
IsStop halts.Unfit = ⊥
