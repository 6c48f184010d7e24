use Rattle.std.proofs.Common.{length, refl, rules}
use Rattle.std.proofs.lemmas.Option.{slice_get_read}
use Rattle.sj_socket.proofs.KeptLemmas.{ins_put, ins_same, outs_put}
use Rattle.sj_socket.proofs.OwnLemmas.{moved_put, own_put, own_tried}
use Rattle.sj_socket.proofs.carries.carry_from.Goals as goal

pub returns-in_err-carry_own-clause-kept : goal.returns-in_err-carry_own-clause-kept
returns-in_err-carry_own-clause-kept c =
    let o = slice_get_read c.carry_outs.new.outs.items (length c.carry_outs.new.outs.items) c.args.party c.index_mut.result.now refl (search rules) c.index_mut.ensures.value in
    let i = slice_get_read c.args.own.now.ins.items (length c.args.own.now.ins.items) c.args.party c.index_mut-then-party-len-2.result.now refl (search rules) c.index_mut-then-party-len-2.ensures.value in
    record {
      outs = outs_put c.args.own.now.outs.items c.carry_outs.new.outs.items c.args.party c.index_mut.result.now c.carry_own.new.out c.carry_outs.ensures.kept o c.carry_own.ensures.out;
      ins = ins_put c.args.own.now.ins.items c.args.party c.index_mut-then-party-len-2.result.now c.carry_own.new.lane i c.carry_own.ensures.lane;
    }

pub returns-in_err-carry_own-clause-own : goal.returns-in_err-carry_own-clause-own
returns-in_err-carry_own-clause-own c =
    let o = slice_get_read c.carry_outs.new.outs.items (length c.carry_outs.new.outs.items) c.args.party c.index_mut.result.now refl (search rules) c.index_mut.ensures.value in
    let i = slice_get_read c.args.own.now.ins.items (length c.args.own.now.ins.items) c.args.party c.index_mut-then-party-len-2.result.now refl (search rules) c.index_mut-then-party-len-2.ensures.value in
    own_put c.args.own.now.ins.items c.args.own.now.outs.items c.carry_outs.new.outs.items c.args.party c.index_mut-then-party-len-2.result.now c.carry_own.new.lane c.index_mut.result.now c.carry_own.new.out i o
    c.carry_outs.ensures.lists c.carry_own.ensures.own

pub returns-in_ok-carry_own-clause-kept : goal.returns-in_ok-carry_own-clause-kept
returns-in_ok-carry_own-clause-kept c =
    let o = slice_get_read c.carry_outs.new.outs.items (length c.carry_outs.new.outs.items) c.args.party c.index_mut.result.now refl (search rules) c.index_mut.ensures.value in
    let i = slice_get_read c.args.own.now.ins.items (length c.args.own.now.ins.items) c.args.party c.index_mut-then-party-len-2.result.now refl (search rules) c.index_mut-then-party-len-2.ensures.value in
    record {
      outs = outs_put c.args.own.now.outs.items c.carry_outs.new.outs.items c.args.party c.index_mut.result.now c.carry_own.new.out c.carry_outs.ensures.kept o c.carry_own.ensures.out;
      ins = ins_put c.args.own.now.ins.items c.args.party c.index_mut-then-party-len-2.result.now c.carry_own.new.lane i c.carry_own.ensures.lane;
    }

pub returns-in_ok-carry_own-clause-own : goal.returns-in_ok-carry_own-clause-own
returns-in_ok-carry_own-clause-own c =
    let o = slice_get_read c.carry_outs.new.outs.items (length c.carry_outs.new.outs.items) c.args.party c.index_mut.result.now refl (search rules) c.index_mut.ensures.value in
    let i = slice_get_read c.args.own.now.ins.items (length c.args.own.now.ins.items) c.args.party c.index_mut-then-party-len-2.result.now refl (search rules) c.index_mut-then-party-len-2.ensures.value in
    own_put c.args.own.now.ins.items c.args.own.now.outs.items c.carry_outs.new.outs.items c.args.party c.index_mut-then-party-len-2.result.now c.carry_own.new.lane c.index_mut.result.now c.carry_own.new.out i o
    c.carry_outs.ensures.lists c.carry_own.ensures.own

pub returns-in_ok-carry_own-clause-moved : goal.returns-in_ok-carry_own-clause-moved
returns-in_ok-carry_own-clause-moved c =
    let o = slice_get_read c.carry_outs.new.outs.items (length c.carry_outs.new.outs.items) c.args.party c.index_mut.result.now refl (search rules) c.index_mut.ensures.value in
    let i = slice_get_read c.args.own.now.ins.items (length c.args.own.now.ins.items) c.args.party c.index_mut-then-party-len-2.result.now refl (search rules) c.index_mut-then-party-len-2.ensures.value in
    moved_put c.args.own.now.ins.items c.carry_outs.new.outs.items c.args.party c.index_mut-then-party-len-2.result.now c.carry_own.new.lane c.index_mut.result.now c.carry_own.new.out i o c.in_ok-carry_own.ensures.moved

pub returns-else-party-len-clause-kept : goal.returns-else-party-len-clause-kept
returns-else-party-len-clause-kept c = record { outs = c.carry_outs.ensures.kept; ins = ins_same c.args.own.now.ins.items }

pub returns-else-party-len-clause-own : goal.returns-else-party-len-clause-own
returns-else-party-len-clause-own c = own_tried c.args.own.now.ins.items c.args.own.now.outs.items c.carry_outs.new.outs.items c.args.party c.carry_outs.ensures.lists
