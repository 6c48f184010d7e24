use Rattle.std.proofs.Common.{◌∙◌, ap, map, subst, sym}
use Rattle.sj_semantics.specs.Run.{end_of}
use Rattle.sj_told.specs.Told.{AreStands}
use Rattle.sj_core.specs.ToldWorld.{stand_seen}
use Rattle.sj_core.proofs.ToldWorldLemmas.{nodes_stand}
use Rattle.sj_core.proofs.node_world.NodeWorld.stands.Goals as goal

pub returns-clause-seen : goal.returns-clause-seen
returns-clause-seen c = c.in_ok-stands.ensures ∙ ap (map stand_seen) c.deref.ensures.value

pub returns-clause-stands : goal.returns-clause-stands
returns-clause-stands c = λ file q. subst (AreStands (end_of file)) (sym (c.in_ok-stands.ensures ∙ ap (map stand_seen) c.deref.ensures.value)) (nodes_stand c.args.self.now c.requires.reached file q)
