use Rattle.std.proofs.Common.{◌≡◌, get_or}
use Rattle.sj_node.specs.Reading.{party_of}
use Rattle.sj_remote.specs.Streams.{keys_of, seen_of}
use Rattle.sj_remote_run.specs.Turns.{node_in, outs_in}
use Rattle.sj_remote_run.proofs.turns.take_all.Given as goal

abbrev pub invariant-loop-one : goal.invariant-loop-one
invariant-loop-one l = record {
  number : get_or (seen_of l.streams) (party_of (node_in l.fn.player)) 0 ≡ get_or (seen_of l.fn.streams) (party_of (node_in l.fn.player)) 0;
  keys : keys_of l.streams ≡ keys_of l.fn.streams;
  node : node_in l.player ≡ node_in l.fn.player;
  lanes : outs_in l.player ≡ outs_in l.fn.player;
}
