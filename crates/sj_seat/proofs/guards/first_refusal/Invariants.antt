use Rattle.std.proofs.Common.{◌≡◌, drop}
use Rattle.sj_seat.specs.Rules.{first_refusal}
use Rattle.sj_seat.proofs.guards.first_refusal.Given as goal

abbrev pub invariant-loop-test : goal.invariant-loop-test
invariant-loop-test l = first_refusal (drop l.test-index l.tests) ≡ first_refusal l.tests
