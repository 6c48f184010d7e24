use Rattle.std.proofs.Common.{◌≡◌, ◌<◌, ◌++◌, [], ◌∷◌, ap₂, flat_map, length, get_or, map, sym, ap, ◌∙◌, subst, All, arith}
use Rattle.std.proofs.lemmas.List.Elements.{All-get_or, All-push}
use Rattle.std.proofs.lemmas.List.Concat.{flat_map-append}
use Rattle.sj_steal.specs.Members.{IsReach, own_hand, stolen_by, way_of}
use Rattle.sj_steal.specs.Teams.{Lent}
use Rattle.sj_steal.proofs.PartLemmas.{upto_all, upto_length, upto_next, upto_step}
use Rattle.sj_steal.proofs.HireLemmas.{row_more}
use Rattle.sj_steal.proofs.hires.lend_each.Goals as goal

pub lend-requires-after_bounds : goal.lend-requires-after_bounds
lend-requires-after_bounds g c κs within =
    let old = c.args.members.now.items in
    let now = c.loop-worker.members.items in
    let m = c.index_mut.result.now in
    let long = upto_length Lent old now c.loop-worker.worker c.loop-worker.invariant.0 in
    let there : m ≡ get_or old c.loop-worker.worker m = c.index_mut.ensures.value ∙
    upto_next Lent old now c.loop-worker.worker m c.loop-worker.invariant.0 in
    subst (λ x. 1 < (own_hand x).parts) (sym there) (All-get_or (λ x. 1 < (own_hand x).parts) old c.loop-worker.worker m
    (omega (arith, c.args.members.now.ok.0, c.loop-worker-test.true, c.len-worker-end.ensures)) c.requires)

pub loop-worker-preserved : goal.loop-worker-preserved
loop-worker-preserved g c =
    let old = c.args.members.now.items in
    let now = c.loop-worker.members.items in
    let m = c.index_mut.result.now in
    let r = c.in_ok-reach.reach in
    let i = c.loop-worker.invariant in
    let long = upto_length Lent old now c.loop-worker.worker i.0 in
    let there : m ≡ get_or old c.loop-worker.worker m = c.index_mut.ensures.value ∙ upto_next Lent old now c.loop-worker.worker m i.0 in
    let low : c.loop-worker.worker < length old = omega (arith, c.args.members.now.ok.0, c.loop-worker-test.true, c.len-worker-end.ensures) in
    let few = i.4 in
    let room = i.5 in (
      upto_step Lent old now c.loop-worker.worker m c.lend.new.member (omega arith) c.index_mut.ensures.value c.in_ok-reach.ensures.lent i.0,
      ap (map way_of) c.push_reserved.ensures.items ∙ row_more c.loop-worker.row.items old c.loop-worker.worker m r i.1 low there
          c.in_ok-reach.ensures.reach.1,
      subst (All IsReach) (sym c.push_reserved.ensures.items) (All-push IsReach c.loop-worker.row.items r i.2 c.in_ok-reach.ensures.reach.0),
      ap (flat_map stolen_by) c.push_reserved.ensures.items ∙ flat_map-append stolen_by c.loop-worker.row.items (r ∷ []) ∙
          ap₂ (λ x y. x ++ (y ++ [])) i.3 c.in_ok-reach.ensures.unused,
      omega (arith, c.push_reserved.ensures.len),
      omega (arith, c.push_reserved.ensures.capacity),
    )

pub returns-clause-lent : goal.returns-clause-lent
returns-clause-lent g c =
    upto_all Lent c.args.members.now.items c.loop-worker.members.items c.loop-worker.worker
    (omega (arith, c.args.members.now.ok.0, c.loop-worker-test.false, c.len-worker-end.ensures)) c.loop-worker.invariant.0
