use Rattle.std.proofs.Common.{ap, ◌∙◌, arith}
use Rattle.sj_offers.specs.Offers.{offers_in}
use Rattle.sj_offers.proofs.OfferLemmas.{offers_grown, offers_kept, room_set}
use Rattle.sj_offers.proofs.offers.make_list.Goals as goal

pub loop-alloc-preserved : goal.loop-alloc-preserved
loop-alloc-preserved c = ap offers_in c.in_ok-push.ensures.items ∙ offers_grown c.loop-alloc.offers.items c.new.result c.new.ensures.items ∙ c.loop-alloc.invariant

pub returns-in_err-reserve-clause-same : goal.returns-in_err-reserve-clause-same
returns-in_err-reserve-clause-same c =
    offers_kept c.loop-alloc.offers.items c.args.from c.index_mut-list.result.now c.reserve.new.self (omega (arith, c.loop-alloc-test.false, c.len.ensures, c.loop-alloc.offers.ok.0))
    c.index_mut-list.ensures.value c.reserve.ensures.items
    ∙ c.loop-alloc.invariant

pub returns-clause-same : goal.returns-clause-same
returns-clause-same c =
    offers_kept c.loop-alloc.offers.items c.args.from c.index_mut-list.result.now c.reserve.new.self (omega (arith, c.loop-alloc-test.false, c.len.ensures, c.loop-alloc.offers.ok.0))
    c.index_mut-list.ensures.value c.reserve.ensures.items
    ∙ c.loop-alloc.invariant

pub returns-clause-room : goal.returns-clause-room
returns-clause-room c =
    room_set c.loop-alloc.offers.items c.args.from c.reserve.new.self (omega (arith, c.loop-alloc-test.false, c.len.ensures, c.loop-alloc.offers.ok.0))
    (omega (arith, c.in_ok-reserve.ensures.ok, c.reserve.ensures.len))
