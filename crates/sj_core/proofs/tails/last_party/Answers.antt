use Rattle.std.proofs.Common.{◌≤◌, length, ap, subst, arith}
use Rattle.sj_core.proofs.LastLemmas.{back_of, last_is, later_next, length-last_clocks, none_last}
use Rattle.sj_core.proofs.TailLemmas.{IsEnd, end_of_none}
use Rattle.sj_core.proofs.tails.last_party.Goals as goal

pub loop-party-init : goal.loop-party-init
loop-party-init c = λ logs are. end_of_none (back_of logs)

pub loop-party-preserved : goal.loop-party-preserved
loop-party-preserved c =
    λ logs are.
    later_next logs c.args.clocks.now c.loop-party.party _ c.loop-party.latest c.later-latest.result are c.loop-party-test.true (c.loop-party.invariant logs are) c.later-latest.ensures

pub returns-in-Some-clause-some : goal.returns-in-Some-clause-some
returns-in-Some-clause-some c =
    λ logs are.
    let all : length logs ≤ c.loop-party.party = omega (arith, c.loop-party-test.false, c.loop-party.auto.party-end, length-last_clocks logs, ap length are) in
    last_is logs c.loop-party.party all c.in-Some.tail (subst (IsEnd (back_of logs) c.loop-party.party) c.in-Some.is (c.loop-party.invariant logs are))

pub returns-in-None-clause-none : goal.returns-in-None-clause-none
returns-in-None-clause-none c =
    λ logs are.
    let all : length logs ≤ c.loop-party.party = omega (arith, c.loop-party-test.false, c.loop-party.auto.party-end, length-last_clocks logs, ap length are) in
    none_last logs c.loop-party.party all (subst (IsEnd (back_of logs) c.loop-party.party) c.in-None.is (c.loop-party.invariant logs are))
