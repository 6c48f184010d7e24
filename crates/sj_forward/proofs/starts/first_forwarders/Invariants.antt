use Rattle.sj_lang.specs.FileView.{file_of}
use Rattle.sj_forward.specs.Starting.{AreFirst}
use Rattle.sj_forward.proofs.starts.first_forwarders.Given as goal

-- the parties so far
abbrev pub invariant-loop-party : goal.invariant-loop-party
invariant-loop-party l = AreFirst (file_of l.file) l.party l.forwarders.items
