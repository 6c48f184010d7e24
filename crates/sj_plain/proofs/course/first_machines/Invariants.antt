use Rattle.std.proofs.Common.{◌≡◌, map, take}
use Rattle.sj_lang.specs.FileView.{file_of}
use Rattle.sj_machine.specs.Sound.{program_at}
use Rattle.sj_semantics.specs.World.{start_of}
use Rattle.sj_plain.proofs.course.first_machines.Given as goal

abbrev pub invariant-loop-party : goal.invariant-loop-party
invariant-loop-party l = map program_at l.machines.items ≡ take l.party (start_of (file_of l.file)).parties
