use Rattle.std.proofs.Common.{◌≡◌, ◌-◌, vec_len}
use Rattle.sj_steal.specs.Runs.{HasRun, RanMore}
use Rattle.sj_steal.specs.Members.{HasRoom, IsMember, SameMember, done_by, taken_by}
use Rattle.sj_steal.proofs.member.Member.stolen_jobs.Given as goal

abbrev pub invariant-loop-from : goal.invariant-loop-from
invariant-loop-from g l =
    IsMember l.self
    × SameMember l.initial.self l.self
    × RanMore (HasRun g.J.Job.number_of g.J.Job.ran) (taken_by l.initial.self) (done_by l.initial.self) (taken_by l.self) (done_by l.self)
    × HasRoom (vec_len l.initial.self.all - l.from) l.self
    × (vec_len l.self.all ≡ vec_len l.initial.self.all)
