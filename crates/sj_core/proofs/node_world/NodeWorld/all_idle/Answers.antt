use Rattle.std.proofs.Common.{refl, arith}
use Rattle.std.proofs.lemmas.Grind.{common_steps}
use Rattle.sj_core.proofs.node_world.NodeWorld.all_idle.Goals as goal
use Rattle.sj_core.proofs.QuietLemmas.{all_idle, idle_next}

pub loop-party-preserved : goal.loop-party-preserved
loop-party-preserved c = idle_next c.args.self.now c.loop-party.party c.loop-party.invariant (c.is_idle.ensures.0 (grind (arith, common_steps)))

pub returns : goal.returns
returns c =
    (λ t. all_idle c.args.self.now (λ p lt. c.loop-party.invariant p (omega (arith, lt, c.loop-party-test.false, c.len-party-end.ensures))), λ t. refl)
