use Rattle.std.proofs.Common.{map, take}
use Rattle.sj_end.specs.Views.{frame_at}
use Rattle.sj_node.specs.Gives.{HasNoGive}
use Rattle.sj_node.proofs.readers.has_give.Given as goal

-- none of those so far is a Give
abbrev pub invariant-loop-at : goal.invariant-loop-at
invariant-loop-at l = HasNoGive (map frame_at (take l.at l.out.items))
