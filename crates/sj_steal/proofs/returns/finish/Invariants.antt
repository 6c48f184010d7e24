use Rattle.std.proofs.Common.{flat_map}
use Rattle.sj_steal.specs.Parts.{Upto}
use Rattle.sj_steal.specs.Runs.{HasRun, RanMore}
use Rattle.sj_steal.specs.Members.{done_by, taken_by}
use Rattle.sj_steal.specs.Teams.{IsEmptied}
use Rattle.sj_steal.proofs.returns.finish.Given as goal

abbrev pub invariant-loop-worker : goal.invariant-loop-worker
invariant-loop-worker g l =
    Upto IsEmptied l.worker l.initial.members.items l.members.items
    × RanMore (HasRun g.J.Job.number_of g.J.Job.ran) (flat_map taken_by l.initial.members.items) (flat_map done_by l.initial.members.items)
    (flat_map taken_by l.members.items) (flat_map done_by l.members.items)
