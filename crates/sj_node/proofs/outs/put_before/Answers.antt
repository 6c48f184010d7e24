use Rattle.std.proofs.Common.{◌<◌, ◌++◌, length, map, ap, sym, ◌∙◌, arith}
use Rattle.std.proofs.lemmas.List.{map-append}
use Rattle.sj_end.specs.Views.{frame_at}
use Rattle.sj_node.specs.Outs.{frames_in, room_in}
use Rattle.sj_node.proofs.OutLemmas.{room_there, set_here, set_there, waiting_here}
use Rattle.sj_node.proofs.outs.put_before.Goals as goal

pub returns-clause-own : goal.returns-clause-own
returns-clause-own c =
    let some : 0 < room_in c.args.outs.now.items c.args.to = omega (arith, c.requires.some, c.requires.room) in
    let lt : c.args.to < length c.args.outs.now.items = room_there c.args.outs.now.items c.args.to some in
    let out = c.index_mut-out.result.now in
    ap frames_in (set_here c.args.outs.now.items c.args.to c.push_before.new.out lt)
    ∙ ap (map frame_at) c.push_before.ensures
    ∙ map-append frame_at c.args.frames.items out.items
    ∙ ap (λ l. map frame_at c.args.frames.items ++ l) (sym (waiting_here c.args.outs.now.items c.args.to out lt c.index_mut-out.ensures.value))

pub returns-clause-others : goal.returns-clause-others
returns-clause-others c = λ q other. ap frames_in (set_there c.args.outs.now.items c.args.to q c.push_before.new.out other)
