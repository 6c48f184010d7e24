use Rattle.std.proofs.Common.{◌≡◌, ap, length, refl, arith}
use Rattle.sj_steal.specs.Runs.{HasRun}
use Rattle.sj_steal.specs.Members.{own_put, own_taken}
use Rattle.sj_steal.proofs.RunLemmas.{ran_none, ran_later}
use Rattle.sj_steal.proofs.MemberLemmas.{same_itself, same_later, same_many}
use Rattle.sj_steal.proofs.member.Member.stolen_jobs.Goals as goal

pub loop-from-init : goal.loop-from-init
loop-from-init g c =
    let r = c.requires.room in
    let free = r.free in (
      c.requires.member,
      same_itself c.args.self.now,
      ran_none (HasRun g.J.Job.number_of g.J.Job.ran) _ _,
      record { put = r.put; taken = r.taken; free = omega arith },
      refl,
    )

pub loop-from-preserved : goal.loop-from-preserved
loop-from-preserved g c =
    let i = c.loop-from.invariant in
    let s = c.stolen_job.ensures in
    let old = c.loop-from.self in
    let new = c.stolen_job.new.self in
    let put : length (own_put new) ≡ length (own_put old) = ap (λ h. length h.put) s.own in
    let taken : length (own_taken new) ≡ length (own_taken old) = ap (λ h. length h.taken) s.own in
    let most = s.same.most in
    let capacity = s.same.capacity in
    let one = s.one in
    let p = i.3.put in
    let t = i.3.taken in
    let free = i.3.free in
    let many = same_many old new s.same in
    let before = i.4 in
    let test = c.loop-from-test.true in (
      s.member,
      same_later c.args.self.now old new i.1 s.same,
      ran_later (HasRun g.J.Job.number_of g.J.Job.ran) _ _ _ _ _ _ i.2 s.ran,
      record { put = omega arith; taken = omega arith; free = omega arith },
      omega (arith, old.all.ok.0, new.all.ok.0),
    )
