-- The variables that a table holds, each at the number of its name.
use Rattle.std.specs.Prelude.{List, Option, None, unwrap_or, slice_get}
use Rattle.sj_semantics.specs.declared.Value.{Value}
use Rattle.sj_semantics.specs.Value.{Vars}

-- what stands at the number of the name, and nothing past the table's end
abbrev pub vars_in : List (Option Value) → Vars
vars_in table n = unwrap_or (slice_get table n) None
