use Rattle.std.proofs.Common.{◌≡◌, ◌-◌, length}
use Rattle.sj_wire.specs.Reading.{messages_at}
use Rattle.sj_wire.proofs.MessageLoopLemmas.{with_front}
use Rattle.sj_wire.proofs.messages.messages.Given as goal

abbrev pub invariant-loop : goal.invariant-loop
invariant-loop l = record {
  read : with_front l.cache.items (messages_at (l.count - l.counter) l.rest) ≡ messages_at l.count l.bytes;
  count : length l.cache.items ≡ l.counter;
}
