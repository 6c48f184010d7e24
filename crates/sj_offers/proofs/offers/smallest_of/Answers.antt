use Rattle.std.proofs.Common.{◌+◌, Some, drop, ap, sym, ◌∙◌, arith}
use Rattle.sj_rules.specs.Opened.{smallest_from}
use Rattle.sj_offers.proofs.OfferLemmas.{least_from}
use Rattle.sj_offers.proofs.offers.smallest_of.Goals as goal

pub loop-at-preserved : goal.loop-at-preserved
loop-at-preserved c =
    let ns = c.args.numbers.now in
    let at = c.loop-at.at in (
      omega (arith, c.loop-at-test.true),
      c.loop-at.invariant.1
          ∙ ap (λ n. Some n) (sym (ap (λ n. smallest_from n (drop (at + 1) ns)) c.min-least.ensures ∙ least_from c.loop-at.least ns at _ (omega (arith, c.loop-at-test.true)))),
    )
