use Rattle.std.proofs.Common.{◌≡◌, ◌∙◌, ◌+◌, ◌<◌, List, [], ◌∷◌, Option, Some, true, ap, length, length-append, refl, sym, subst, arith, slice_index_or}
use Rattle.std.specs.List.{remove}
use Rattle.std.specs.Prelude.{IfSome, slice_get}
use Rattle.sj_node.specs.declared.node.Node.{Node}
use Rattle.sj_run.specs.Handed.{IsHandedIn}
use Rattle.sj_run.proofs.HandedLemmas.{each_more, handed_back, same_count, some_there, stay_itself, stay_later}
use Rattle.sj_run.proofs.HiredLemmas.{front_is, rest_is, some_left}
use Rattle.sj_run.proofs.handed.hand_in.Goals as goal

pub returns-then-not-asked-clause-lanes : goal.returns-then-not-asked-clause-lanes
returns-then-not-asked-clause-lanes g c = stay_itself g.L.Out.OutLane g.L.In.InLane g.L.Links.joined c.args.lanes.now.items c.requires.square c.requires.joined

pub loop-from-init : goal.loop-from-init
loop-from-init g c = record {
  lanes = stay_itself g.L.Out.OutLane g.L.In.InLane g.L.Links.joined c.args.lanes.now.items c.requires.square c.requires.joined;
  tells = refl;
  faults = refl;
  telling = λ lt. absurd (omega (arith, lt));
  nodes = refl;
  count = ap length c.new-handed.ensures.items;
  each = λ p m is. let none = subst (λ (hs : List Node). slice_get hs p ≡ Some m) c.new-handed.ensures.items is in absurd (cc none);
}

pub remove-node-requires : goal.remove-node-requires
remove-node-requires g c =
    let lt : c.loop-from.from < length c.args.nodes.items = omega (arith, c.loop-from-test.true, c.len-parties.ensures) in
    omega (arith, some_left c.args.nodes.items c.loop-from.nodes.items c.loop-from.from c.loop-from.invariant.nodes lt, c.loop-from.nodes.ok)

pub hand_from-requires-clause-count : goal.hand_from-requires-clause-count
hand_from-requires-clause-count g c =
    let stay = c.loop-from.invariant.lanes in
    let many = same_count g.L.Out.OutLane.pushed g.L.In.InLane.popped g.L.Out.OutLane.vain g.L.In.InLane.vain c.args.lanes.now.items c.loop-from.lanes.items stay.lists c.requires.square stay.square in
    omega (arith, many, c.requires.count, c.requires.few, c.len-parties.ensures)

pub returns-in_err-own-clause-lanes : goal.returns-in_err-own-clause-lanes
returns-in_err-own-clause-lanes g c =
    stay_later g.L.Out.OutLane g.L.In.InLane g.L.Links.joined c.args.lanes.now.items c.loop-from.lanes.items c.hand_from.new.lanes.items c.loop-from.invariant.lanes c.hand_from.ensures.lanes

pub returns-in_default-clause-lanes : goal.returns-in_default-clause-lanes
returns-in_default-clause-lanes g c =
    stay_later g.L.Out.OutLane g.L.In.InLane g.L.Links.joined c.args.lanes.now.items c.loop-from.lanes.items c.hand_from.new.lanes.items c.loop-from.invariant.lanes c.hand_from.ensures.lanes

pub returns-in_err-push-clause-lanes : goal.returns-in_err-push-clause-lanes
returns-in_err-push-clause-lanes g c =
    stay_later g.L.Out.OutLane g.L.In.InLane g.L.Links.joined c.args.lanes.now.items c.loop-from.lanes.items c.hand_from.new.lanes.items c.loop-from.invariant.lanes c.hand_from.ensures.lanes

pub loop-from-preserved : goal.loop-from-preserved
loop-from-preserved g c =
    let k = c.loop-from.from in
    let i = c.loop-from.invariant in
    let h = c.hand_from in
    let old = c.args.lanes.now.items in
    let lanes = c.loop-from.lanes.items in
    let own = c.in-Some.own in
    let lt : k < length c.args.nodes.items = omega (arith, c.loop-from-test.true, c.len-parties.ensures) in
    let many = same_count g.L.Out.OutLane.pushed g.L.In.InLane.popped g.L.Out.OutLane.vain g.L.In.InLane.vain old lanes i.lanes.lists c.requires.square i.lanes.square in
    let there = front_is c.args.nodes.items k c.remove-node.result lt (c.remove-node.ensures.value ∙ ap (λ xs. slice_index_or xs 0 c.remove-node.result) i.nodes) in
    let took : IsHandedIn g.L.Out.OutLane.pushed g.L.In.InLane.popped lanes k c.remove-node.result own =
    subst (λ (o : Option Node). IfSome o (λ m. IsHandedIn g.L.Out.OutLane.pushed g.L.In.InLane.popped lanes k c.remove-node.result m)) c.in-Some.is c.in_ok-own.ensures.handed in
    let told : 0 < length lanes → g.L.Links.tells c.loop-from.links ≡ true = subst (λ (o : Option Node). IfSome o (λ m. 0 < length lanes → g.L.Links.tells c.loop-from.links ≡ true)) c.in-Some.is c.in_ok-own.ensures.telling in
    let back = handed_back g.L.Out.OutLane.pushed g.L.In.InLane.popped g.L.Out.OutLane.vain g.L.In.InLane.vain old lanes i.lanes.lists c.requires.square i.lanes.square k c.remove-node.result own took in
    record {
      lanes = stay_later g.L.Out.OutLane g.L.In.InLane g.L.Links.joined old lanes h.new.lanes.items i.lanes h.ensures.lanes;
      tells = h.ensures.tells ∙ i.tells;
      faults = h.ensures.faults ∙ i.faults;
      telling = λ pos. sym i.tells ∙ told (omega (arith, many, c.requires.count, lt));
      nodes = c.remove-node.ensures.items ∙ ap (λ xs. remove xs 0) i.nodes ∙ rest_is c.args.nodes.items k lt;
      count = ap length c.in_ok-push.ensures.items ∙ length-append c.loop-from.handed.items (own ∷ []) ∙ ap (λ n. n + 1) i.count;
      each = λ p m is.
          each_more g.L.Out.OutLane.pushed g.L.In.InLane.popped g.L.Out.OutLane.vain g.L.In.InLane.vain old c.args.nodes.items c.loop-from.handed.items k c.remove-node.result own i.count i.each there back p m
          (subst (λ (hs : List Node). slice_get hs p ≡ Some m) c.in_ok-push.ensures.items is);
    }

pub returns-clause-telling : goal.returns-clause-telling
returns-clause-telling g c =
    let some = some_there _ (sym c.is_empty.ensures ∙ c.if-is_empty.false) in
    c.loop-from.invariant.telling (omega (arith, some, c.args.nodes.ok, c.requires.count, c.requires.few, c.loop-from-test.false, c.len-parties.ensures))

pub returns-clause-handed : goal.returns-clause-handed
returns-clause-handed g c =
    let i = c.loop-from.invariant in
    let all : c.loop-from.from ≡ length c.args.nodes.items = omega (arith, c.args.nodes.ok, c.requires.count, c.requires.few, c.loop-from-test.false, c.loop-from.auto.from-end, c.len-parties.ensures) in
    record { count = i.count ∙ all; each = i.each }
