use Rattle.sj_core.proofs.node_world.NodeWorld.quiet.Goals as goal
use Rattle.sj_core.proofs.LawLemmas.{quiescent}

pub returns-clause-whole : goal.returns-clause-whole
returns-clause-whole c = (
  λ t. quiescent c.args.self.now c.requires.led (c.all_idle.ensures.0 t),
  λ all. c.all_idle.ensures.1 (record { empty = λ from to lf lt. all.empty from to; still = λ p lt. all.still p }),
)
