use Rattle.std.proofs.Common.{ℕ, List, Option, arith, ap, ◌∙◌, ◌∷◌}
use Rattle.sj_semantics.specs.declared.Value.{Value}
use Rattle.sj_semantics.specs.declared.Want.TheVariants.{Ended}
use Rattle.sj_semantics.specs.Wants.{want_of, want_of_todo}
use Rattle.std.specs.Option.{unwrap_or}
use Rattle.sj_machine.specs.Arena.{deed_in, codes_of}
use Rattle.sj_machine.specs.Frames.{thing_at}
use Rattle.sj_machine.specs.Table.{vars_in}
use Rattle.sj_machine.specs.Sound.{program_at}
use Rattle.sj_machine.proofs.FrameLemmas.{frame_there}
use Rattle.sj_machine.proofs.StepLemmas.{step_makes}
use Rattle.sj_machine.proofs.machine.Machine.wants.Goals as goal

pub index-requires : goal.index-requires
index-requires c = let h = frame_there c.self.inside.nodes.items c.self.inside.stack.0 c.in-Some.ensures.some.0 c.in-Some.frame c.in-Some.ensures.some.1 c.self.invariant.fits in omega arith

pub returns-in-Some : goal.returns-in-Some
returns-in-Some c =
    step_makes c.self.inside.nodes.items c.self.inside.stack.0 c.in-Some.ensures.some.0 c.in-Some.frame c.index.result.now c.in-Some.ensures.some.1 c.self.invariant.back c.self.invariant.fits c.index.ensures
    c.want_at.result (λ todo. unwrap_or (want_of_todo c.self.inside.peers.items (vars_in c.self.inside.vars.items) c.self.inside.ends.items todo) Ended)
    (λ rest.
    c.want_at.ensures _ rest
    ∙ ap (λ (t : List ℕ). unwrap_or (want_of_todo t (vars_in c.deref-in-Some.result.now) c.deref-in-Some-2.result.now (thing_at c.in-Some.frame.stage (deed_in (codes_of c.self.inside.nodes.items) c.index.result.now.op) ∷ rest)) Ended) c.deref.ensures.value
    ∙ ap (λ (t : List (Option Value)). unwrap_or (want_of_todo c.self.inside.peers.items (vars_in t) c.deref-in-Some-2.result.now (thing_at c.in-Some.frame.stage (deed_in (codes_of c.self.inside.nodes.items) c.index.result.now.op) ∷ rest)) Ended) c.deref-in-Some.ensures.value
    ∙ ap (λ t. unwrap_or (want_of_todo c.self.inside.peers.items (vars_in c.self.inside.vars.items) t (thing_at c.in-Some.frame.stage (deed_in (codes_of c.self.inside.nodes.items) c.index.result.now.op) ∷ rest)) Ended) c.deref-in-Some-2.ensures.value)
    ∙ ap (λ m. unwrap_or (want_of (program_at m)) Ended) c.self.view_is
