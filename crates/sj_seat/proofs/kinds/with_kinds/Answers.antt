use Rattle.sj_seat.proofs.KindLemmas.{def_named, still_named}
use Rattle.sj_seat.proofs.kinds.with_kinds.Goals as goal

pub add_kinds-requires : goal.add_kinds-requires
add_kinds-requires c = record {
  named = still_named c.args.protocols.now c.loop-def.defs.items c.def-item.result.name c.loop-def.invariant
      (def_named c.args.protocols.now c.loop-def.def-index c.def-item.result c.loop-def-test.true c.def-item.is);
}
