use Rattle.std.proofs.Common.{suc, ◌||◌, get_or, drop, sym, ap, ◌∙◌, add-one, drop-cons}
use Rattle.std.specs.Ordering.{nat_cmp}
use Rattle.std.specs.BTreeSet.{contains}
use Rattle.sj_acceptance.specs.LabelTests.{is_among}
use Rattle.sj_check.proofs.NamedLemmas.{one-more}
use Rattle.sj_check.proofs.name_lists.distinct.Goals as goal

pub loop-name-preserved : goal.loop-name-preserved
loop-name-preserved c q =
    let all = c.args.all.now in
    let i = c.loop-name.name-index in
    let old = contains nat_cmp c.loop-name.set q in
    rw add-one (one-more (get_or all i 0) q old (contains nat_cmp c.insert.new.self q) (is_among q (drop (suc i) all)) (c.in_ok-insert.ensures.updates.0 q)
    ∙ ap (λ xs. old || is_among q xs) (sym (drop-cons all i 0 c.loop-name-test.true)) ∙ c.loop-name.invariant q)
