use Rattle.std.proofs.Common.{◌≡◌}
use Rattle.std.specs.List.{list_any}
use Rattle.sj_semantics.specs.State.{is_at_limit, states_of}
use Rattle.sj_plain.specs.Course.{world_in}
use Rattle.sj_plain.proofs.StatesLemmas.{states_on}
use Rattle.sj_plain.proofs.course.Course.some_at_limit.Given as goal

abbrev pub invariant-loop-i : goal.invariant-loop-i
invariant-loop-i l = list_any is_at_limit (states_on (world_in l.self) l.i) ≡ list_any is_at_limit (states_of (world_in l.self))
