use Rattle.std.proofs.Common.{◌≡◌, ◌++◌, take}
use Rattle.std.specs.List.{flat_map}
use Rattle.sj_wire.specs.Spelling.{message}
use Rattle.sj_wire.proofs.spelling.put_slice.Given as goal

abbrev pub invariant-loop-msg : goal.invariant-loop-msg
invariant-loop-msg l = l.out.items ≡ l.fn.out.items ++ flat_map message (take l.msg-index l.msgs)
