use Rattle.std.proofs.Common.{refl}
use Rattle.sj_lane.proofs.HandLemmas.{all_joined_kept, lists_kept, rest_more, square_kept, told_rest}
use Rattle.sj_lane.proofs.ring.RingLinksLinks.rest.Goals as goal

pub returns-clause-square : goal.returns-clause-square
returns-clause-square c = square_kept c.args.lanes.now.items c.take_rest.new.lanes.items c.take_rest.ensures.lanes c.requires.square

pub returns-clause-joined : goal.returns-clause-joined
returns-clause-joined c = all_joined_kept c.args.lanes.now.items c.take_rest.new.lanes.items c.take_rest.ensures.lanes c.requires.joined

pub returns-clause-lists : goal.returns-clause-lists
returns-clause-lists c = lists_kept c.args.lanes.now.items c.take_rest.new.lanes.items c.take_rest.ensures.lanes

pub returns-clause-rest : goal.returns-clause-rest
returns-clause-rest c =
    rest_more c.take_rest.result _ _
    (λ v r. (refl, told_rest c.args.lanes.now.items c.args.from c.args.to v.items r))
    c.take_rest.ensures.rest
