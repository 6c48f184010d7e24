use Rattle.std.proofs.Common.{ap, ◌∙◌}
use Rattle.sj_semantics.specs.Steps.{opened_of}
use Rattle.sj_node.specs.Node.{act_note, node_at, offers_of}
use Rattle.sj_node.proofs.OpeningLemmas.{accepts_by, accepts_none, refused_so}
use Rattle.sj_node.proofs.StepLemmas.{acted}
use Rattle.sj_node.proofs.node.Node.step_accept.Goals as goal

pub returns-in-Ok-clause-ok : goal.returns-in-Ok-clause-ok
returns-in-Ok-clause-ok c =
    let n = c.args.self.now in
    acted n _ _ _ _ _ _ _ (accepts_by n c.args.protocol c.args.from c.in-Ok.end c.start-place.result c.requires.step c.requires.steps c.start-place.ensures.place c.in-Ok.ensures.opened)
    (ap (act_note n.party (node_at n).main n.requests (offers_of n)) c.requires.step)
    (c.opened.ensures ∙ ap (λ g. opened_of g c.in-Ok.end) c.accept.ensures.program) c.in-Ok.ensures.ok

pub returns-in-Err-clause-unfit : goal.returns-in-Err-clause-unfit
returns-in-Err-clause-unfit c = λ unfit.
    accepts_none c.args.self.now c.args.protocol c.args.from c.start-place.result c.requires.step c.requires.steps c.start-place.ensures.place (c.in-Err.ensures.unfit (refused_so _ _ unfit))
