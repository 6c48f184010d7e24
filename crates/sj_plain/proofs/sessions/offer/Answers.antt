use Rattle.std.proofs.Common.{◌+◌, ◌-◌, ◌∙◌, ap, drop, take}
use Rattle.sj_semantics.specs.Requests.{first_offer}
use Rattle.sj_plain.specs.Opened.{before_in, requests_in}
use Rattle.sj_plain.proofs.SearchLemmas.{own_lie_there}
use Rattle.sj_plain.proofs.sessions.offer.Goals as goal

pub returns : goal.returns
returns c =
    c.first_offered.ensures
    ∙ ap (λ t. first_offer c.args.to (requests_in (take (t - c.own-start.result.0) (drop c.own-start.result.0 c.args.opened.now)) c.args.from)) c.own-start.ensures.end
    ∙ ap (λ t. first_offer c.args.to (requests_in (take (before_in c.args.opened.now (c.args.from + 1) - t) (drop t c.args.opened.now)) c.args.from)) c.own-start.ensures.start
    ∙ ap (first_offer c.args.to) (own_lie_there c.args.opened.now c.requires.order.1.parties c.args.from c.requires.order.1.ordered)
