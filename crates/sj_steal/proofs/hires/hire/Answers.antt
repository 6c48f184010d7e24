use Rattle.std.proofs.Common.{◌≡◌, ◌+◌, ◌/◌, sym, ap, ◌∙◌, subst, All, arith}
use Rattle.std.proofs.lemmas.List.Elements.{All-push}
use Rattle.sj_steal.specs.Teams.{IsNew}
use Rattle.sj_steal.proofs.hires.hire.Goals as goal

pub loop-preserved : goal.loop-preserved
loop-preserved g c =
    let i = c.loop.invariant in
    let few = i.2 in
    let room = i.3 in (
      subst (All (IsNew c.from-count.result 0)) (sym c.push_reserved.ensures.items)
          (All-push (IsNew c.from-count.result 0) c.loop.members.items c.in_ok-fresh.field-0 i.0 c.in_ok-fresh.ensures.0),
      subst (All (λ m. m.most ≡ c.in_ok-most.most)) (sym c.push_reserved.ensures.items)
          (All-push (λ m. m.most ≡ c.in_ok-most.most) c.loop.members.items c.in_ok-fresh.field-0 i.1 c.in_ok-fresh.ensures.1),
      omega (arith, c.push_reserved.ensures.len),
      omega (arith, c.push_reserved.ensures.capacity),
    )

pub returns-clause-most : goal.returns-clause-most
returns-clause-most g c =
    let e : c.in_ok-most.most ≡ c.args.jobs / c.args.workers + 1 = c.in_ok-most.ensures ∙ ap (λ n. c.args.jobs / n + 1) c.from-count.ensures in
    subst (λ k. All (λ m. m.most ≡ k) c.connect.new.members.items) e (c.in_ok-connect.ensures.most c.in_ok-most.most c.loop.invariant.1)
