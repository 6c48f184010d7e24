use Rattle.std.proofs.Common.{◌++◌, ◌∷◌, [], ap, ◌∙◌}
use Rattle.sj_end.specs.declared.note.Line.{Line}
use Rattle.sj_core.proofs.node_world.NodeWorld.step.Goals as goal
use Rattle.sj_core.proofs.ReachedLemmas.{listed_more, reached_on, stepped}

pub returns-in-Ok-clause-ok : goal.returns-in-Ok-clause-ok
returns-in-Ok-clause-ok c =
    let l : Line = record { party = c.args.party; entry = c.in-Ok.entry } in
    stepped c.args.self.now (record { alloc = c.happen.new.self.alloc; kept = c.happen.new.self.kept; nodes = c.happen.new.self.nodes; history = c.push_reserved.new.self })
    c.args.party c.args.event c.in-Ok.entry c.in-Ok.ensures.ok
    (listed_more c.args.self.now.history.items c.push_reserved.new.self.items l
    (c.push_reserved.ensures.items ∙ ap (λ v. v.items ++ l ∷ []) c.happen.ensures.history ∙ ap (λ t. t ++ l ∷ []) c.reserve.ensures.items))
    c.happen.ensures.file

pub returns-in-Ok-clause-reached : goal.returns-in-Ok-clause-reached
returns-in-Ok-clause-reached c =
    let l : Line = record { party = c.args.party; entry = c.in-Ok.entry } in
    reached_on c.args.self.now (record { alloc = c.happen.new.self.alloc; kept = c.happen.new.self.kept; nodes = c.happen.new.self.nodes; history = c.push_reserved.new.self })
    c.args.party c.args.event c.in-Ok.entry c.requires.reached c.in-Ok.ensures.ok
    (listed_more c.args.self.now.history.items c.push_reserved.new.self.items l
    (c.push_reserved.ensures.items ∙ ap (λ v. v.items ++ l ∷ []) c.happen.ensures.history ∙ ap (λ t. t ++ l ∷ []) c.reserve.ensures.items))
    c.happen.ensures.file
