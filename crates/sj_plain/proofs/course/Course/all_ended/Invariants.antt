use Rattle.std.proofs.Common.{◌≡◌}
use Rattle.std.specs.List.{list_all}
use Rattle.sj_semantics.specs.State.{has_ended, states_of}
use Rattle.sj_plain.specs.Course.{world_in}
use Rattle.sj_plain.proofs.StatesLemmas.{states_on}
use Rattle.sj_plain.proofs.course.Course.all_ended.Given as goal

abbrev pub invariant-loop-i : goal.invariant-loop-i
invariant-loop-i l = list_all has_ended (states_on (world_in l.self) l.i) ≡ list_all has_ended (states_of (world_in l.self))
