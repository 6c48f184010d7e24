use Rattle.std.proofs.Common.{◌≡◌, ℕ, List, get_or}
use Rattle.sj_base.specs.Stream.{put_behind}
use Rattle.sj_remote.specs.Conn.{sink_of}
use Rattle.sj_remote.specs.Streams.{keys_of, seen_of}
use Rattle.sj_streams.specs.Words.{words_at}
use Rattle.sj_remote_run.specs.Asked.{Talks}
use Rattle.sj_remote_run.specs.Caught.{entry_count, reads_text}
use Rattle.sj_remote_run.proofs.catching.read_all.Given as goal

abbrev pub invariant-loop : goal.invariant-loop
invariant-loop g l = record {
  keys : keys_of l.streams ≡ keys_of l.fn.streams;
  count : (get_or (seen_of l.fn.streams) l.party 0 ≡ entry_count l.fn.own.items → get_or (seen_of l.streams) l.party 0 ≡ entry_count l.own.items);
  sent : (asked : List (List ℕ)) × (g.K.Sink.written (sink_of l.conn) ≡ put_behind (g.K.Sink.written (sink_of l.fn.conn)) (reads_text (words_at (keys_of l.fn.streams)) asked));
  talked : Talks g.S.Source.left g.S.Source.faults g.K.Sink.faults l.fn.conn l.conn;
}
