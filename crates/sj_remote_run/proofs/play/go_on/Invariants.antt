use Rattle.std.proofs.Common.{◌≡◌, get_or}
use Rattle.sj_check.specs.Held.{file_in}
use Rattle.sj_lang.specs.FileView.{file_of}
use Rattle.sj_node.specs.Reading.{party_of}
use Rattle.sj_remote.specs.Conn.{sink_of}
use Rattle.sj_remote.specs.Streams.{keys_of, seen_of}
use Rattle.sj_streams.specs.Words.{words_at}
use Rattle.sj_remote_run.specs.Asked.{Talks}
use Rattle.sj_remote_run.specs.Posts.{HasNone}
use Rattle.sj_remote_run.specs.Sent.{text_sent}
use Rattle.sj_remote_run.specs.Turns.{node_in, outs_in}
use Rattle.sj_remote_run.proofs.TurnLemmas.{Going}
use Rattle.sj_remote_run.proofs.play.go_on.Given as goal

abbrev pub invariant-loop : goal.invariant-loop
invariant-loop g l = record {
  going : Going (text_sent (file_of (file_in l.accepted)) l.how.run.now (words_at (keys_of l.fn.streams)) (party_of (node_in l.fn.player)))
      (get_or (seen_of l.fn.streams) (party_of (node_in l.fn.player)) 0) (get_or (seen_of l.streams) (party_of (node_in l.fn.player)) 0)
      (node_in l.fn.player) (node_in l.player) (g.K.Sink.written (sink_of l.fn.conn)) (g.K.Sink.written (sink_of l.conn));
  none : HasNone (outs_in l.player) (node_in l.player);
  keys : keys_of l.streams ≡ keys_of l.fn.streams;
  talked : Talks g.S.Source.left g.S.Source.faults g.K.Sink.faults l.fn.conn l.conn;
}
