use Rattle.std.proofs.Common.{◌≡◌, drop}
use Rattle.std.specs.List.{list_any}
use Rattle.sj_plain.specs.Plain.{world_at}
use Rattle.sj_semantics.specs.State.{states_from, states_of}
use Rattle.sj_join.specs.Now.{is_ready}
use Rattle.sj_join.proofs.now.goes_on.Given as goal

-- who can act is among those that are left
abbrev pub invariant-loop-i : goal.invariant-loop-i
invariant-loop-i l = list_any is_ready (states_of (world_at l.plain)) ≡ list_any is_ready (states_from (world_at l.plain) l.i (drop l.i (world_at l.plain).parties))
