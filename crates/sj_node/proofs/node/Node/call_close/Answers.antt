use Rattle.std.proofs.Common.{◌+◌, [], ◌∷◌, ◌++◌, ◌∙◌, ap, refl}
use Rattle.sj_end.specs.Views.{post_at}
use Rattle.sj_rules.specs.Frames.{frames_for}
use Rattle.sj_rules.specs.Mapped.{node_with}
use Rattle.sj_table.specs.Spots.{place_in}
use Rattle.sj_node.specs.Node.{spot_node}
use Rattle.sj_node.specs.Slots.{mains_in}
use Rattle.sj_node.proofs.ActLemmas.{does, stays}
use Rattle.sj_node.proofs.CallLemmas.{call_closes}
use Rattle.sj_node.proofs.node.Node.call_close.Goals as goal

pub returns-in-Err-clause-err : goal.returns-in-Err-clause-err
returns-in-Err-clause-err c =
    let n = c.args.self.now in
    stays n _ (λ i. node_with (place_in n.table) (record (spot_node n) { main = c.in-Err.ensures.err i })) c.make_room.ensures.same c.reserve.ensures.items refl refl refl refl

pub returns-clause-ok : goal.returns-clause-ok
returns-clause-ok c =
    let n = c.args.self.now in
    does n _ _ _ _ _ (post_at c.in-Ok.post ∷ []) _ _ _ (call_closes n c.args.end (mains_in c.close_on.new.mains.items) (post_at c.in-Ok.post) c.in-Ok.ensures.ok)
    (record {
      program = refl;
      requests = refl;
      offers = refl;
      mains = refl;
      olds = refl;
      time = refl;
      waits = λ q. c.put_frame.ensures.waits q ∙ ap (λ ws. ws ++ frames_for q (n.clock + 1) (post_at c.in-Ok.post ∷ [])) (c.make_room.ensures.same q);
      noted = rw (c.push_reserved.ensures.items, c.reserve.ensures.items) refl;
      table = refl;
      party = refl;
      parties = refl;
      connects = refl;
    })
