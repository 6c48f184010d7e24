use Rattle.std.proofs.Common.{arith, refl, ◌∙◌}
use Rattle.std.proofs.Math.ListN.{set, length-set}
use Rattle.sj_lane.specs.declared.lane.Lanes.{Lanes}
use Rattle.sj_lane.specs.declared.ends.RingOut.{RingOut}
use Rattle.sj_lane.specs.declared.ends.RingIn.{RingIn}
use Rattle.sj_lane.proofs.GridLemmas.{link_lists}
use Rattle.sj_lane.proofs.grids.link.Goals as goal

pub returns : goal.returns
returns c =
    let l1 : Lanes RingOut RingIn = record { outs = c.push.new.self; ins = c.index_mut.result.now.ins } in
    let lane : RingIn = record { consumer = c.in_ok-producer.consumer; vain = 0; handed = 0 } in
    let k = length-set {A = Lanes RingOut RingIn} c.args.lanes.now.items c.args.from l1 in
    let lists = link_lists c.args.lanes.now.items c.args.from c.args.to c.index_mut.result.now l1 c.index_mut-2.result.now _ _ lane c.requires.from (omega arith) c.index_mut.ensures.value c.index_mut-2.ensures.value c.in_ok-push.ensures.items refl refl c.in_ok-push-2.ensures.items in
    record {
      size = length-set {A = Lanes RingOut RingIn} (set c.args.lanes.now.items c.args.from l1) c.args.to _ ∙ k;
      out = _;
      lane = lane;
      joined = c.in_ok-producer.ensures.pair;
      new_out = record { sent = c.in_ok-producer.ensures.producer.0; vain = refl };
      new_in = record { popped = c.in_ok-producer.ensures.consumer.0; vain = refl; handed = refl };
      outs = lists.0;
      ins = lists.1;
    }
