use Rattle.std.proofs.Common.{◌↔◌, drop}
use Rattle.std.specs.List.{AllByRecursion}
use Rattle.sj_wire.specs.Lawful.{HasSide}
use Rattle.sj_wire.proofs.lawful.all_have_sides.Given as goal

-- all have sides exactly where those that are left have
abbrev pub invariant-loop-msg : goal.invariant-loop-msg
invariant-loop-msg l = AllByRecursion HasSide (drop l.msg-index l.msgs) ↔ AllByRecursion HasSide l.msgs
