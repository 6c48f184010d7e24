use Rattle.std.proofs.Common.{◌≡◌, ◌++◌}
use Rattle.sj_party.specs.CanonicalCode.{spaces}
use Rattle.sj_party.proofs.printing_parts.put_spaces.Given as goal

abbrev pub invariant-loop : goal.invariant-loop
invariant-loop l = l.text.items ≡ l.fn.text.items ++ spaces l.counter
