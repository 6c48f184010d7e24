use Rattle.std.proofs.Common.{ap, ◌∙◌}
use Rattle.sj_semantics.specs.Steps.{opened_of}
use Rattle.sj_node.specs.Node.{act_note, node_at, offers_of}
use Rattle.sj_node.proofs.OpeningLemmas.{requests_by}
use Rattle.sj_node.proofs.StepLemmas.{acted}
use Rattle.sj_node.proofs.node.Node.step_request.Goals as goal

pub returns-in-Ok-clause-ok : goal.returns-in-Ok-clause-ok
returns-in-Ok-clause-ok c =
    let n = c.args.self.now in
    acted n _ _ _ _ _ _ _ (requests_by n c.args.protocol c.args.to c.start-place.result c.requires.step c.requires.steps c.start-place.ensures.place)
    (ap (act_note n.party (node_at n).main n.requests (offers_of n)) c.requires.step)
    (c.opened.ensures ∙ (λ i. opened_of (c.request.ensures.program i) (c.in-Ok.ensures.opened i))) c.in-Ok.ensures.ok
