use Rattle.std.proofs.Common.{◌≡◌, ◌≢◌, [], List, length, map, arith, subst}
use Rattle.std.proofs.lemmas.Grind.{common_steps}
use Rattle.std.proofs.lemmas.List.{length-map}
use Rattle.sj_forest.specs.Edges.{edge_of}
use Rattle.sj_forest.specs.Left.{left_in}
use Rattle.sj_forest.specs.declared.edges.Edge.{Edge}
use Rattle.sj_forest.proofs.ShapeLemmas.{cycle_is_none, is_cycle, is_forest, nobody_left}
use Rattle.sj_forest_laws.specs.Forest.{AreLeft}
use Rattle.sj_lang.specs.FileView.{file_of, party_of}
use Rattle.sj_forest.proofs.forests.without_openings.Goals as goal

pub invariant_of-result : goal.invariant_of-result
invariant_of-result c = record {
  none_left =
      let empty : c.in_ok-numbers.numbers.items ≡ [] = grind (arith, common_steps) in
      ∣ nobody_left (map edge_of c.in_ok-edges.edges.items) c.len-parties.result c.in_ok-left.left.items c.deref-2.result.now c.in_ok-numbers.numbers.items
      (subst (λ (es : List Edge). AreLeft (map edge_of es) c.len-parties.result (left_in c.in_ok-left.left.items)) c.deref.ensures.value c.in_ok-left.ensures.left)
      c.deref-2.ensures.value c.in_ok-numbers.ensures empty ∣₁;
}

pub returns-then-is_empty-clause-exact : goal.returns-then-is_empty-clause-exact
returns-then-is_empty-clause-exact c =
    let empty : c.in_ok-numbers.numbers.items ≡ [] = grind (arith, common_steps) in
    let count : c.len-parties.result ≡ length (file_of c.args.file.now).parties =
    omega (arith, c.len-parties.ensures, c.args.file.now.parties.ok.0, length-map c.args.file.now.parties.items party_of) in (
      λ t. is_forest (map edge_of c.in_ok-edges.edges.items) c.len-parties.result (file_of c.args.file.now) c.requires.openless c.in_ok-edges.ensures count
          (nobody_left (map edge_of c.in_ok-edges.edges.items) c.len-parties.result c.in_ok-left.left.items c.deref-2.result.now c.in_ok-numbers.numbers.items
          (subst (λ (es : List Edge). AreLeft (map edge_of es) c.len-parties.result (left_in c.in_ok-left.left.items)) c.deref.ensures.value c.in_ok-left.ensures.left)
          c.deref-2.ensures.value c.in_ok-numbers.ensures empty),
      λ f. tt,
    )

pub returns-else-is_empty-clause-exact : goal.returns-else-is_empty-clause-exact
returns-else-is_empty-clause-exact c =
    let some : c.in_ok-numbers.numbers.items ≢ [] = λ e. grind (arith, common_steps) in
    let count : c.len-parties.result ≡ length (file_of c.args.file.now).parties =
    omega (arith, c.len-parties.ensures, c.args.file.now.parties.ok.0, length-map c.args.file.now.parties.items party_of) in (
      λ t. absurd t,
      cycle_is_none c.in_ok-numbers.numbers.items (file_of c.args.file.now)
          (is_cycle (map edge_of c.in_ok-edges.edges.items) c.len-parties.result c.in_ok-left.left.items c.deref-2.result.now c.in_ok-numbers.numbers.items (file_of c.args.file.now)
          c.requires.openless c.in_ok-edges.ensures count
          (subst (λ (es : List Edge). AreLeft (map edge_of es) c.len-parties.result (left_in c.in_ok-left.left.items)) c.deref.ensures.value c.in_ok-left.ensures.left)
          c.in_ok-left.ensures.count c.deref-2.ensures.value c.in_ok-numbers.ensures some),
    )
