use Rattle.std.proofs.Common.{◌+◌, ◌≤◌, length, vec_len, vec_capacity}
use Rattle.sj_steal.specs.Runs.{HasRun, RanMore}
use Rattle.sj_steal.specs.Members.{IsMember, SameMember, done_by, own_taken, taken_by}
use Rattle.sj_steal.proofs.member.Member.own_jobs.Given as goal

abbrev pub invariant-loop : goal.invariant-loop
invariant-loop g l =
    IsMember l.self
    × SameMember l.initial.self l.self
    × RanMore (HasRun g.J.Job.number_of g.J.Job.ran) (taken_by l.initial.self) (done_by l.initial.self) (taken_by l.self) (done_by l.self)
    × (length (own_taken l.self) ≤ l.counter)
    × (l.self.most + vec_len l.initial.self.all + vec_len l.self.done ≤ vec_capacity l.self.done + length (own_taken l.self))
