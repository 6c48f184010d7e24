use Rattle.sj_check.specs.Held.{file_in}
use Rattle.sj_lang.specs.FileView.{file_of}
use Rattle.sj_core.specs.Nodes.{AreBegun}
use Rattle.sj_core.proofs.starts.first_nodes.Given as goal

-- the nodes of the parties so far
abbrev pub invariant-loop-party : goal.invariant-loop-party
invariant-loop-party l = AreBegun (file_of (file_in l.accepted)) l.table l.party l.nodes.items
