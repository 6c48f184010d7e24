use Rattle.std.proofs.Common.{◌++◌, ◌+◌, ◌-◌, length, ap, ◌∙◌}
use Rattle.sj_forest.specs.Left.{left_in, those_left}
use Rattle.sj_forest.proofs.LeftLemmas.{listed_then, mark_at, skipped_then}
use Rattle.sj_forest.proofs.forests.numbers.Goals as goal
use Rattle.sj_forest.proofs.forests.numbers.Goals.{then-left-party+in_ok-push, else-left-party}

pub loop-party-preserved : goal.loop-party-preserved
loop-party-preserved c =
    let left = left_in c.args.left.now in
    let n = length c.args.left.now in
    let p = c.loop-party.party in
    elim c.if-left-party.branch [
      | then-left-party+in_ok-push w ↦
          ap (λ v. v.items ++ those_left left (p + 1) (n - (p + 1))) w.numbers-is
          ∙ ap (λ xs. xs ++ those_left left (p + 1) (n - (p + 1))) w.in_ok-push.ensures.items
          ∙ listed_then left c.loop-party.numbers.items (those_left left 0 n) p n (mark_at c.args.left.now p ∙ w.if-left-party.true) c.loop-party-test.true c.loop-party.invariant
      | else-left-party w ↦
          ap (λ v. v.items ++ those_left left (p + 1) (n - (p + 1))) w.numbers-is
          ∙ skipped_then left c.loop-party.numbers.items (those_left left 0 n) p n (mark_at c.args.left.now p ∙ w.if-left-party.false) c.loop-party-test.true c.loop-party.invariant
    ]
