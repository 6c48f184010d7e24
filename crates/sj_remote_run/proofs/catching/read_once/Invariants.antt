use Rattle.std.proofs.Common.{◌≡◌, get_or}
use Rattle.sj_remote.specs.Streams.{keys_of, seen_of}
use Rattle.sj_remote_run.specs.Caught.{entry_count}
use Rattle.sj_remote_run.proofs.catching.read_once.Given as goal

abbrev pub invariant-loop-one : goal.invariant-loop-one
invariant-loop-one g l = record {
  keys : keys_of l.streams ≡ keys_of l.fn.streams;
  count : (get_or (seen_of l.fn.streams) l.party 0 ≡ entry_count l.fn.own.items → get_or (seen_of l.streams) l.party 0 ≡ entry_count l.own.items);
}
