use Rattle.std.proofs.Common.{◌≡◌, None, sym, ◌∙◌}
use Rattle.sj_node.specs.Halts.{stop_by}
use Rattle.sj_node.specs.Node.{offers_of, steps_of, node_halt}
use Rattle.sj_node.specs.Slots.{mains_in}
use Rattle.sj_node.proofs.AgreeLemmas.{only_misfits}
use Rattle.sj_node.proofs.node.Node.act.Goals as goal

pub returns-in-None-clause-cause : goal.returns-in-None-clause-cause
returns-in-None-clause-cause c = λ unfit agrees.
    let n = c.args.self.now in
    let goes : node_halt n ≡ None =
    sym (λ i. stop_by (mains_in n.mains.items) n.requests (offers_of n) (steps_of n) (c.wants-want.ensures i)) ∙ sym c.stop_at.ensures ∙ c.in-None.is in
    only_misfits n goes agrees (c.step.ensures.unfit unfit)
