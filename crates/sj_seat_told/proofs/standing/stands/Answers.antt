use Rattle.std.proofs.Common.{arith}
use Rattle.sj_seat_told.proofs.StandLemmas.{all_stands, no_stands, one_stands, stands_at_end}
use Rattle.sj_seat_told.proofs.standing.stands.Goals as goal

pub loop-party-init : goal.loop-party-init
loop-party-init c = no_stands c.args.world.now _ c.new-stands.ensures.items

pub loop-party-preserved : goal.loop-party-preserved
loop-party-preserved c = one_stands c.args.world.now c.loop-party.party c.loop-party.stands.items _ c.stand_at.result c.loop-party.invariant c.stand_at.ensures c.in_ok-push.ensures.items

pub returns-clause-seen : goal.returns-clause-seen
returns-clause-seen c = all_stands c.args.world.now c.loop-party.party c.loop-party.stands.items (omega arith) c.loop-party.invariant

pub returns-clause-stands : goal.returns-clause-stands
returns-clause-stands c = λ file t quiet end. stands_at_end file c.args.world.now t c.loop-party.stands.items quiet end (all_stands c.args.world.now c.loop-party.party c.loop-party.stands.items (omega arith) c.loop-party.invariant)
