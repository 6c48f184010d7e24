use Rattle.std.proofs.Common.{rules, ◌==◌, not, ap, sym, ◌∙◌}
use Rattle.std.proofs.lemmas.Fn.{filter_same}
use Rattle.sj_rules.specs.Opened.{without}
use Rattle.sj_offers.proofs.OfferLemmas.{offering_there, offers_here, offers_set}
use Rattle.sj_offers.proofs.offers.withdraw.Goals as goal

pub returns : goal.returns
returns c =
    let lists = c.args.offers.now.items in
    let from = c.args.from in
    let list = c.index_mut-list.result.now in
    let there = offering_there lists from c.args.sess c.requires in
    offers_set lists from list c.retain.new.self _ there c.index_mut-list.ensures.value
    (filter_same _ (λ n. not (n == c.args.sess)) _ (λ x r f' k. search rules) list.items c.retain.new.self.items c.retain.ensures.filtered
    ∙ ap (without c.args.sess) (sym (offers_here lists from list there c.index_mut-list.ensures.value)))
