use Rattle.std.proofs.Common.{arith, length, refl}
use Rattle.std.proofs.lemmas.Option.{slice_get_read}
use Rattle.sj_lane.proofs.EachLemmas.{each2_length, each2_put, each2_refl}
use Rattle.sj_socket.specs.Kept.{OutKept}
use Rattle.sj_socket.specs.Streams.{told}
use Rattle.sj_socket.proofs.KeptLemmas.{out_itself, out_later}
use Rattle.sj_socket.proofs.OwnLemmas.{lists_itself, lists_put}
use Rattle.sj_socket.proofs.carries.carry_outs.Goals as goal

pub loop-to-init : goal.loop-to-init
loop-to-init c = record { kept = each2_refl (OutKept told) out_itself c.args.outs.now.items; lists = lists_itself c.args.outs.now.items }

pub index_mut-requires : goal.index_mut-requires
index_mut-requires c = omega (arith, each2_length (OutKept told) c.args.outs.now.items c.loop-to.outs.items c.loop-to.invariant.kept)

pub loop-to-preserved : goal.loop-to-preserved
loop-to-preserved c =
    let kept = c.loop-to.invariant.kept in
    let n = each2_length (OutKept told) c.args.outs.now.items c.loop-to.outs.items kept in
    let at = slice_get_read c.loop-to.outs.items (length c.loop-to.outs.items) c.loop-to.to c.index_mut.result.now refl (omega arith) c.index_mut.ensures.value in
    record {
      kept = each2_put (OutKept told) c.args.outs.now.items c.loop-to.outs.items c.loop-to.to c.index_mut.result.now c.carry.new.self kept at (λ o h. out_later o c.index_mut.result.now c.carry.new.self h c.carry.ensures.kept);
      lists = lists_put c.args.outs.now.items c.loop-to.outs.items c.loop-to.to c.index_mut.result.now c.carry.new.self c.loop-to.invariant.lists at c.carry.ensures.list;
    }
