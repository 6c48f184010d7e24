use Rattle.std.proofs.Common.{◌∙◌, ap, sym}
use Rattle.std.specs.List.{list_any}
use Rattle.sj_core.specs.ToldWorld.{has_opened}
use Rattle.sj_core.proofs.ToldWorldLemmas.{none_opened}
use Rattle.sj_core.proofs.node_world.NodeWorld.opens.Goals as goal

pub returns-clause-opened : goal.returns-clause-opened
returns-clause-opened c = c.have_opened.ensures ∙ ap (list_any has_opened) c.deref.ensures.value

pub returns-clause-none : goal.returns-clause-none
returns-clause-none c = λ none file q. none_opened c.args.self.now c.requires.reached file q (ap (list_any has_opened) (sym c.deref.ensures.value) ∙ sym c.have_opened.ensures ∙ none)
