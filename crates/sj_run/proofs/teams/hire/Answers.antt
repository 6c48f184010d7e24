use Rattle.std.proofs.Common.{◌≡◌, ◌∙◌, ◌<◌, ◌+◌, length, ap, refl, sym, subst, arith, slice_index_or, Some}
use Rattle.std.specs.List.{remove}
use Rattle.sj_run.specs.Workers.{AreHired}
use Rattle.sj_run.proofs.HiredLemmas.{front_is, rest_is, some_left, none_hired, one_hired}
use Rattle.sj_run.proofs.teams.hire.Goals as goal

pub loop-init : goal.loop-init
loop-init g c = record {
  nodes = refl;
  lanes = refl;
  hired = subst (AreHired c.args.nodes.items c.args.lanes.items 0) (sym c.new-workers.ensures.items) (none_hired c.args.nodes.items c.args.lanes.items);
}

pub remove-node-requires : goal.remove-node-requires
remove-node-requires g c =
    let lt : c.loop.counter < length c.args.nodes.items = omega (arith, c.loop-test.true, c.len-end.ensures) in
    omega (arith, some_left c.args.nodes.items c.loop.nodes.items c.loop.counter c.loop.invariant.nodes lt, c.loop.nodes.ok)

pub remove-own-requires : goal.remove-own-requires
remove-own-requires g c =
    let lt : c.loop.counter < length c.args.lanes.items = omega (arith, c.loop-test.true, c.len-end.ensures, c.requires) in
    omega (arith, some_left c.args.lanes.items c.loop.lanes.items c.loop.counter c.loop.invariant.lanes lt, c.loop.lanes.ok)

pub loop-preserved : goal.loop-preserved
loop-preserved g c =
    let k = c.loop.counter in
    let lt : k < length c.args.nodes.items = omega (arith, c.loop-test.true, c.len-end.ensures) in
    let mt : k < length c.args.lanes.items = omega (arith, c.loop-test.true, c.len-end.ensures, c.requires) in
    let worker = c.new-worker.result in
    record {
      nodes = c.remove-node.ensures.items ∙ ap (λ xs. remove xs 0) c.loop.invariant.nodes ∙ rest_is c.args.nodes.items k lt;
      lanes = c.remove-own.ensures.items ∙ ap (λ xs. remove xs 0) c.loop.invariant.lanes ∙ rest_is c.args.lanes.items k mt;
      hired =
          subst (AreHired c.args.nodes.items c.args.lanes.items (k + 1)) (sym c.in_ok-push.ensures.items)
          (one_hired c.args.nodes.items c.args.lanes.items k c.loop.workers.items worker c.loop.invariant.hired
          (front_is c.args.nodes.items k c.remove-node.result lt (c.remove-node.ensures.value ∙ ap (λ xs. slice_index_or xs 0 c.remove-node.result) c.loop.invariant.nodes) ∙ ap Some (sym c.new-worker.ensures.node))
          (front_is c.args.lanes.items k c.remove-own.result mt (c.remove-own.ensures.value ∙ ap (λ xs. slice_index_or xs 0 c.remove-own.result) c.loop.invariant.lanes) ∙ ap Some (sym c.new-worker.ensures.lanes))
          c.new-worker.ensures.stop);
    }

pub returns : goal.returns
returns g c =
    let all : c.loop.counter ≡ length c.args.nodes.items = omega (arith, c.loop-test.false, c.loop.auto.counter-end, c.len-end.ensures) in
    subst (λ k. AreHired c.args.nodes.items c.args.lanes.items k c.loop.workers.items) all c.loop.invariant.hired
