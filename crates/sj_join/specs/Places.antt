-- Where the parties of a run are.
use Rattle.std.specs.Prelude.{ℕ, List, ◌++◌, codes}
use Rattle.std.specs.Fmt.{decimal}
use Rattle.sj_base.specs.declared.EndId.{EndId}
use Rattle.sj_lang.specs.FileAt.{FileAt}
use Rattle.sj_semantics.specs.Lines.{name_of}
use Rattle.sj_semantics.specs.declared.Limit.{Limit}
use Rattle.sj_semantics.specs.declared.Limit.TheVariants as limits
use Rattle.sj_semantics.specs.declared.State.{State}
use Rattle.sj_semantics.specs.declared.State.TheVariants as states

-- an end, after a space
abbrev pub end_part : EndId → List ℕ
end_part e = codes " " ++ decimal e.sess ++ codes "." ++ decimal e.side

-- a limit, after the steps
abbrev pub limit_part : Limit → List ℕ
limit_part limits.Steps = codes ""
limit_part (limits.Hops e) = end_part e
limit_part limits.Requests = codes " request"

-- how a party stands, after its name
abbrev pub place_part : FileAt → (steps : ℕ) → State → List ℕ
place_part file steps states.Ready = codes " goes on " ++ decimal steps
place_part file steps states.Ended = codes " ended " ++ decimal steps
place_part file steps (states.Waits e) = codes " waits " ++ decimal steps ++ end_part e
place_part file steps (states.WaitsOpen q) = codes " waits " ++ decimal steps ++ codes " from " ++ name_of file q
place_part file steps (states.AtLimit l) = codes " limit " ++ decimal steps ++ limit_part l

-- the line of a party
abbrev pub place_line : FileAt → (party steps : ℕ) → State → List ℕ
place_line file party steps state = codes "party " ++ name_of file party ++ place_part file steps state ++ codes "\n"

-- the same line in a transcript, in which a party that goes on has its name alone
abbrev pub told_part : FileAt → (steps : ℕ) → State → List ℕ
told_part file steps states.Ready = codes ""
told_part file steps states.Ended = place_part file steps states.Ended
told_part file steps (states.Waits e) = place_part file steps (states.Waits e)
told_part file steps (states.WaitsOpen q) = place_part file steps (states.WaitsOpen q)
told_part file steps (states.AtLimit l) = place_part file steps (states.AtLimit l)

abbrev pub told_line : FileAt → (party steps : ℕ) → State → List ℕ
told_line file party steps state = codes "party " ++ name_of file party ++ told_part file steps state ++ codes "\n"
