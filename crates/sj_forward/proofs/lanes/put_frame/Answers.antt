use Rattle.sj_forward.proofs.LaneLemmas.{put_so, room_there}
use Rattle.sj_forward.proofs.lanes.put_frame.Goals as goal

pub returns : goal.returns
returns c = put_so c.args.outs.now.items c.args.to c.index_mut-out.result.now c.push_back_reserved.new.self c.args.frame (room_there c.args.outs.now.items c.args.to c.requires) c.index_mut-out.ensures.value c.push_back_reserved.ensures.items
