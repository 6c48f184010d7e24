use Rattle.std.proofs.Common.{◌≡◌, get_or}
use Rattle.sj_lang.specs.FileView.{file_of}
use Rattle.sj_node.specs.Reading.{party_of}
use Rattle.sj_remote.specs.Conn.{sink_of}
use Rattle.sj_remote.specs.Streams.{keys_of, seen_of}
use Rattle.sj_seat.specs.Views.{node_of}
use Rattle.sj_streams.specs.Words.{words_at}
use Rattle.sj_remote_seat.specs.Steps.{Steps}
use Rattle.sj_remote_seat.specs.Turns.{IsClear}
use Rattle.sj_remote_seat.proofs.GoingLemmas.{Going}
use Rattle.sj_remote_seat.proofs.play.go_on.Given as goal

-- what was sent so far
abbrev pub invariant-loop : goal.invariant-loop
invariant-loop g l = record {
  going : Going (file_of l.file) l.how.run.now (words_at (keys_of l.fn.streams)) (get_or (seen_of l.fn.streams) (party_of (node_of l.fn.seat)) 0)
      (get_or (seen_of l.streams) (party_of (node_of l.fn.seat)) 0) l.fn.seat l.going (g.K.Sink.written (sink_of l.fn.conn)) (g.K.Sink.written (sink_of l.conn));
  clear : IsClear l.going;
  keys : keys_of l.streams ≡ keys_of l.fn.streams;
  steps : Steps g.C.Code.step l.fn.code l.code;
}
