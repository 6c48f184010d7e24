use Rattle.std.proofs.Common.{◌≡◌, ◌++◌, drop, map}
use Rattle.sj_seat.specs.Holding.{ends_at}
use Rattle.sj_seat_lines.specs.Heard.{after_spaces}
use Rattle.sj_seat_lines.specs.Names.{name_in, named}
use Rattle.sj_seat_lines.proofs.party.put_ends.Given as goal

abbrev pub invariant-loop-held : goal.invariant-loop-held
invariant-loop-held l = l.text.items ++ after_spaces (map (λ b. name_in (named l.names) b.0) (ends_at l.table (drop l.held-index l.ends))) ≡ l.fn.text.items ++ after_spaces (map (λ b. name_in (named l.names) b.0) (ends_at l.table l.ends))
