use Rattle.std.proofs.Common.{◌≡◌, drop}
use Rattle.sj_talk.specs.Rules.{first_rule}
use Rattle.sj_talk.proofs.refusals.first_rule.Given as goal

abbrev pub invariant-loop-test : goal.invariant-loop-test
invariant-loop-test l = first_rule (drop l.test-index l.tests) ≡ first_rule l.tests
