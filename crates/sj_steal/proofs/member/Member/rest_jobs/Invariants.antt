use Rattle.std.proofs.Common.{◌≡◌, ◌-◌, length}
use Rattle.sj_steal.specs.Hands.{whole}
use Rattle.sj_steal.specs.Runs.{HasRun, RanMore}
use Rattle.sj_steal.specs.Members.{done_by, own_put, own_taken, taken_by}
use Rattle.sj_steal.specs.Teams.{IsBack}
use Rattle.sj_steal.proofs.member.Member.rest_jobs.Given as goal

abbrev pub invariant-loop : goal.invariant-loop
invariant-loop g l =
    IsBack whole l.self
    × (l.self.all ≡ l.initial.self.all)
    × (own_put l.self ≡ own_put l.initial.self)
    × RanMore (HasRun g.J.Job.number_of g.J.Job.ran) (taken_by l.initial.self) (done_by l.initial.self) (taken_by l.self) (done_by l.self)

abbrev pub decreases-loop : goal.decreases-loop
decreases-loop g l = l.self.most - length (own_taken l.self)
