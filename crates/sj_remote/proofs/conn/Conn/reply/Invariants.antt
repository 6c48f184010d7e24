use Rattle.std.proofs.Common.{◌≡◌, ◌≤◌}
use Rattle.sj_remote.specs.Conn.{sink_of, source_of}
use Rattle.sj_remote.proofs.ReplyLemmas.{Gathered}
use Rattle.sj_remote.proofs.conn.Conn.reply.Given as goal

abbrev pub invariant-loop : goal.invariant-loop
invariant-loop g l = record {
  gathered : Gathered g.S.Source.left l.fn.self l.self l.reply;
  later : g.S.Source.faults (source_of l.fn.self) ≤ g.S.Source.faults (source_of l.self);
  sink : sink_of l.self ≡ sink_of l.fn.self;
}
