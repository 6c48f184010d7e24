use Rattle.std.proofs.Common.{ap, option_map, ◌∙◌}
use Rattle.sj_semantics.specs.Steps.{sent_of}
use Rattle.sj_node.specs.Node.{act_note, node_at, offers_of}
use Rattle.sj_node.proofs.StepLemmas.{acted, delegates_by}
use Rattle.sj_node.proofs.node.Node.step_delegate.Goals as goal

pub returns-clause-ok : goal.returns-clause-ok
returns-clause-ok c =
    let n = c.args.self.now in
    acted n _ _ _ _ _ _ _ (delegates_by n c.args.end c.args.sent c.requires.step c.requires.steps) (ap (act_note n.party (node_at n).main n.requests (offers_of n)) c.requires.step)
    (c.sent.ensures ∙ ap sent_of c.call_delegate.ensures.program) c.in_default.ensures.ok

pub returns-in-Err-clause-unfit : goal.returns-in-Err-clause-unfit
returns-in-Err-clause-unfit c = λ unfit.
    delegates_by c.args.self.now c.args.end c.args.sent c.requires.step c.requires.steps ∙ ap (option_map _) (c.in-Err.ensures.unfit unfit)
