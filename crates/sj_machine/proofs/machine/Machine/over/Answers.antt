use Rattle.std.proofs.Common.{◌≡◌, ◌≤◌, vec_capacity, ℕ, List, length, arith, sym, subst}
use Rattle.std.proofs.lemmas.Grind.{common_steps}
use Rattle.sj_base.specs.declared.EndId.{EndId}
use Rattle.sj_machine.specs.declared.arena.CodeNode.{CodeNode}
use Rattle.sj_machine.specs.Names.{AllBindBelow, AreNamedOnce}
use Rattle.sj_machine.proofs.FrameLemmas.{fits_first}
use Rattle.sj_machine.proofs.NameLemmas.{once_from}
use Rattle.sj_machine.proofs.machine.Machine.over.Goals as goal

pub invariant_of-result : goal.invariant_of-result
invariant_of-result c =
    let nodes : List CodeNode = c.add_block.new.nodes.items in
    let names : ℕ = c.names_above-names.result in
    let size : names ≡ length c.in_ok-vars.vars.items = sym c.in_ok-vars.ensures.size in
    record {
      back = c.in_ok-first.ensures.grown.back;
      fits = fits_first (length nodes) c.enter.new.self.0 c.in_ok-stack.stack.0 c.in_ok-first.first c.enter.ensures.entered c.in_ok-stack.ensures.empty c.in_ok-first.ensures.below;
      frames_room = grind (arith, common_steps);
      named = subst (λ (n : ℕ). AllBindBelow n nodes) size (subst (AllBindBelow names) c.deref.ensures.value c.names_above-names.ensures.nodes);
      once = subst (λ (es : List (ℕ × EndId)). AreNamedOnce (length c.in_ok-vars.vars.items) es) (sym c.in_ok-ends.ensures.items)
          (subst (λ (n : ℕ). AreNamedOnce n c.args.connected.now) size (once_from names c.args.connected.now c.requires.differ c.names_above-names.ensures.ends));
      names_room = subst (λ (n : ℕ). n ≤ vec_capacity c.in_ok-ends.ends) size c.in_ok-ends.ensures.room;
      few = c.requires.few;
    }
