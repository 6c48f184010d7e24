use Rattle.std.proofs.Common.{length, arith, ap}
use Rattle.std.proofs.lemmas.List.{length-map}
use Rattle.sj_machine.specs.Sound.{program_at}
use Rattle.sj_plain.specs.Course.{acts_in, file_in, world_in}
use Rattle.sj_plain.proofs.CountLemmas.{counts}
use Rattle.sj_plain.proofs.plain.Plain.parties.Goals as goal

pub returns-clause-kept : goal.returns-clause-kept
returns-clause-kept c =
    let course = c.self.inside.course in
    omega (arith, c.len.ensures, (counts (file_in course) (acts_in course) (world_in course) c.self.invariant.run).0, length-map course.machines.items program_at, ap (λ v. length (file_in v).parties) c.self.view_is)
