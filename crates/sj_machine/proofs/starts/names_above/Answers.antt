use Rattle.std.proofs.Common.{arith}
use Rattle.sj_machine.proofs.NameLemmas.{binds_more}
use Rattle.sj_machine.proofs.StartLemmas.{names_next}
use Rattle.sj_machine.proofs.starts.names_above.Goals as goal

pub loop-entry-preserved : goal.loop-entry-preserved
loop-entry-preserved c = record {
  nodes = λ i n lt e. binds_more c.loop-entry.names c.max-names-in-loop-entry.result n.op (omega arith) (c.loop-entry.invariant.nodes i n lt e);
  ends = names_next c.loop-entry.names c.max-names-in-loop-entry.result c.args.ends.now c.loop-entry.entry-index (0, record { sess = 0; side = 0 }) (omega arith) c.loop-entry-test.true (omega arith) c.loop-entry.invariant.ends;
}
