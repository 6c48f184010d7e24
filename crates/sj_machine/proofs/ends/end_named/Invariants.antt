use Rattle.std.proofs.Common.{◌≡◌, drop}
use Rattle.sj_lang.specs.FileAt.{named}
use Rattle.sj_machine.proofs.ends.end_named.Given as goal

abbrev pub invariant-loop-entry : goal.invariant-loop-entry
invariant-loop-entry l = named (drop l.entry-index l.ends) l.name ≡ named l.ends l.name
