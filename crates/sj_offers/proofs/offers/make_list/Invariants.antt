use Rattle.std.proofs.Common.{◌≡◌, ◌+◌, ◌-◌, vec_len}
use Rattle.sj_offers.specs.Offers.{offers_in}
use Rattle.sj_offers.proofs.offers.make_list.Given as goal

-- the same is offered
abbrev pub invariant-loop-alloc : goal.invariant-loop-alloc
invariant-loop-alloc l = offers_in l.offers.items ≡ offers_in l.initial.offers.items

abbrev pub decreases-loop-alloc : goal.decreases-loop-alloc
decreases-loop-alloc l = l.from + 1 - vec_len l.offers
