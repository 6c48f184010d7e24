use Rattle.std.proofs.Common.{arith, length, refl}
use Rattle.std.proofs.lemmas.Option.{slice_get_read}
use Rattle.sj_socket.proofs.LinkLemmas.{row_link}
use Rattle.sj_socket.proofs.RowLemmas.{lane_more, out_more}
use Rattle.sj_socket.proofs.grid.join.Goals as goal

pub returns-clause-outs : goal.returns-clause-outs
returns-clause-outs c = rw c.in_ok-push.ensures.items (out_more c.args.to c.args.outs.now.items c.args.ends.0 c.requires.outs c.requires.new.out)

pub returns-clause-lanes : goal.returns-clause-lanes
returns-clause-lanes c =
    let at = slice_get_read c.args.lanes.now.items (length c.args.lanes.now.items) c.args.to c.index_mut.result.now refl c.requires.within c.index_mut.ensures.value in
    lane_more (length c.args.lanes.now.items) c.args.from c.args.lanes.now.items c.index_mut.result.now _ c.args.to c.args.ends.1 c.requires.lanes c.requires.within at c.requires.new.lane refl c.in_ok-push-2.ensures.items

pub returns-clause-links : goal.returns-clause-links
returns-clause-links c =
    let at = slice_get_read c.args.lanes.now.items (length c.args.lanes.now.items) c.args.to c.index_mut.result.now refl c.requires.within c.index_mut.ensures.value in
    let has = c.requires.lanes.each c.args.to c.index_mut.result.now at in
    let news = has.ins (omega arith) in
    rw c.in_ok-push.ensures.items
    (row_link c.args.lanes.now.items c.args.to c.index_mut.result.now _ at c.args.from c.args.outs.now.items c.args.ends.0 c.args.ends.1 c.requires.links c.requires.outs.size news.size c.in_ok-push-2.ensures.items c.requires.new.link)
