use Rattle.std.proofs.Common.{◌∷◌, ◌++◌, [], sym, ◌∙◌}
use Rattle.sj_offers.specs.Offers.{offering, offers_in}
use Rattle.sj_offers.proofs.OfferLemmas.{list_there, offers_here, offers_set}
use Rattle.sj_offers.proofs.offers.offer.Goals as goal

pub returns-in-Ok-clause-ok : goal.returns-in-Ok-clause-ok
returns-in-Ok-clause-ok c =
    let lists = c.make_list.new.offers.items in
    let from = c.args.from in
    let there = list_there lists from c.in-Ok.ensures.room in
    offers_set lists from c.index_mut-list.result.now c.push_reserved.new.self _ there c.index_mut-list.ensures.value c.push_reserved.ensures.items
    ∙ (λ i. offering from (sym (offers_here lists from c.index_mut-list.result.now there c.index_mut-list.ensures.value) i ++ c.args.sess ∷ []) (offers_in lists))
    ∙ (λ i. offering from (c.make_list.ensures.same i from ++ c.args.sess ∷ []) (c.make_list.ensures.same i))
