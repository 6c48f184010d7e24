use Rattle.sj_lane.proofs.CarryLemmas.{are_met, put_back, put_moved, put_still, room_left}
use Rattle.std.proofs.lemmas.Result.{on_err_weaker, on_ok_weaker}
use Rattle.sj_lane.proofs.carries.carry_between.Goals as goal

pub carry_link-carried-requires : goal.carry_link-carried-requires
carry_link-carried-requires c =
    are_met c.args.lanes.now c.args.from c.args.to c.index-lanes-to-2.result c.index-lanes-from.result c.index-lanes-from.result c.replace-lane.new.dest c.replace-lane.result c.index_mut-2.result.now c.requires.from c.requires.to c.requires.square c.requires.joined (rw c.replace-lane.ensures.value c.index_mut.ensures.value) c.index_mut-2.ensures.value

pub index_mut-requires-3 : goal.index_mut-requires-3
index_mut-requires-3 c =
    room_left c.args.lanes.now c.args.from c.args.to c.index-lanes-to-2.result c.index-lanes-from.result c.index-lanes-to-3.result c.replace-lane.new.dest c.replace-lane.result c.index_mut-2.result.now c.requires.from c.requires.to c.requires.square c.requires.joined (rw c.replace-lane.ensures.value c.index_mut.ensures.value) c.index_mut-2.ensures.value c.carry_link-carried.new.out

pub returns-clause-square : goal.returns-clause-square
returns-clause-square c =
    let all = put_back c.args.lanes.now c.args.from c.args.to c.index-lanes-to-2.result c.index-lanes-from.result c.index-lanes-to-3.result c.replace-lane.new.dest c.replace-lane.result c.index_mut-2.result.now c.requires.from c.requires.to c.requires.square c.requires.joined (rw c.replace-lane.ensures.value c.index_mut.ensures.value) c.index_mut-2.ensures.value
    c.carry_link-carried.new.out c.carry_link-carried.new.lane c.carry_link-carried.ensures.out c.carry_link-carried.ensures.lane c.carry_link-carried.ensures.joined in
    all.square

pub returns-clause-joined : goal.returns-clause-joined
returns-clause-joined c =
    let all = put_back c.args.lanes.now c.args.from c.args.to c.index-lanes-to-2.result c.index-lanes-from.result c.index-lanes-to-3.result c.replace-lane.new.dest c.replace-lane.result c.index_mut-2.result.now c.requires.from c.requires.to c.requires.square c.requires.joined (rw c.replace-lane.ensures.value c.index_mut.ensures.value) c.index_mut-2.ensures.value
    c.carry_link-carried.new.out c.carry_link-carried.new.lane c.carry_link-carried.ensures.out c.carry_link-carried.ensures.lane c.carry_link-carried.ensures.joined in
    all.joined

pub returns-clause-lists : goal.returns-clause-lists
returns-clause-lists c =
    let all = put_back c.args.lanes.now c.args.from c.args.to c.index-lanes-to-2.result c.index-lanes-from.result c.index-lanes-to-3.result c.replace-lane.new.dest c.replace-lane.result c.index_mut-2.result.now c.requires.from c.requires.to c.requires.square c.requires.joined (rw c.replace-lane.ensures.value c.index_mut.ensures.value) c.index_mut-2.ensures.value
    c.carry_link-carried.new.out c.carry_link-carried.new.lane c.carry_link-carried.ensures.out c.carry_link-carried.ensures.lane c.carry_link-carried.ensures.joined in
    all.lists

pub returns-clause-moved : goal.returns-clause-moved
returns-clause-moved c =
    on_ok_weaker _ (put_moved c.args.lanes.now c.args.from c.args.to c.index-lanes-to-2.result c.index-lanes-from.result c.index-lanes-to-3.result c.replace-lane.new.dest c.replace-lane.result c.index_mut-2.result.now c.requires.from c.requires.to c.requires.square c.requires.joined (rw c.replace-lane.ensures.value c.index_mut.ensures.value) c.index_mut-2.ensures.value
    c.carry_link-carried.new.out c.carry_link-carried.new.lane c.carry_link-carried.ensures.out c.carry_link-carried.ensures.lane c.carry_link-carried.ensures.joined)
    c.carry_link-carried.ensures.moved

pub returns-clause-still : goal.returns-clause-still
returns-clause-still c =
    on_err_weaker _ (put_still c.args.lanes.now c.args.from c.args.to c.index-lanes-to-2.result c.index-lanes-from.result c.index-lanes-to-3.result c.replace-lane.new.dest c.replace-lane.result c.index_mut-2.result.now c.requires.from c.requires.to c.requires.square c.requires.joined (rw c.replace-lane.ensures.value c.index_mut.ensures.value) c.index_mut-2.ensures.value
    c.carry_link-carried.new.out c.carry_link-carried.new.lane c.carry_link-carried.ensures.out c.carry_link-carried.ensures.lane c.carry_link-carried.ensures.joined)
    c.carry_link-carried.ensures.still
