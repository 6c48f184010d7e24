use Rattle.std.proofs.Common.{◌≡◌, List}
use Rattle.std.specs.Global.{Vec}
use Rattle.sj_end.specs.declared.note.Entry.{Entry}
use Rattle.sj_core.specs.Tails.{last_clocks}
use Rattle.sj_core.proofs.LastLemmas.{back_of}
use Rattle.sj_core.proofs.TailLemmas.{IsEnd}
use Rattle.sj_core.proofs.tails.last_party.Given as goal

-- the last tail of the logs so far
abbrev pub invariant-loop-party : goal.invariant-loop-party
invariant-loop-party l = (logs : List (Vec Entry)) → l.clocks ≡ last_clocks logs → IsEnd (back_of logs) l.party l.latest
