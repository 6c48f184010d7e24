use Rattle.std.proofs.Common.{length, arith, ap}
use Rattle.std.proofs.lemmas.List.{length-map}
use Rattle.sj_plain.specs.Course.{acts_in, file_in, world_in}
use Rattle.sj_plain.specs.Ends.{session_at}
use Rattle.sj_plain.proofs.CountLemmas.{counts}
use Rattle.sj_plain.proofs.plain.Plain.sessions.Goals as goal

pub returns-clause-kept : goal.returns-clause-kept
returns-clause-kept c =
    let course = c.self.inside.course in
    omega (arith, c.len.ensures, (counts (file_in course) (acts_in course) (world_in course) c.self.invariant.run).1, length-map course.sessions.items (session_at course.table), ap (λ v. length (file_in v).connects) c.self.view_is)
