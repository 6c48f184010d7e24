use Rattle.std.proofs.Common.{◌++◌, ◌∷◌, [], ap, refl, ◌∙◌}
use Rattle.sj_core.specs.Views.{line_at}
use Rattle.sj_core.proofs.ReachedLemmas.{listed_more}
use Rattle.sj_core.proofs.RedoLemmas.{reached_so}
use Rattle.sj_core.proofs.node_world.NodeWorld.follow.Goals as goal

pub returns-in-Ok-clause-reached : goal.returns-in-Ok-clause-reached
returns-in-Ok-clause-reached c =
    let old = c.args.self.now in
    let redone = c.redo.new.self in
    reached_so old (record { alloc = old.alloc; kept = old.kept; nodes = old.nodes; history = c.reserve.new.self }) redone
    (record { alloc = redone.alloc; kept = redone.kept; nodes = redone.nodes; history = c.push_reserved.new.self }) (line_at c.args.line.now) c.in-Ok.ensures.ok refl refl refl refl
    (listed_more old.history.items c.push_reserved.new.self.items c.args.line.now
    (c.push_reserved.ensures.items ∙ ap (λ v. v.items ++ c.args.line.now ∷ []) c.in-Ok.ensures.history ∙ ap (λ t. t ++ c.args.line.now ∷ []) c.reserve.ensures.items))
    c.requires.reached
