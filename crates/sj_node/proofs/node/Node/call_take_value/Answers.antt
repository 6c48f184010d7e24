use Rattle.std.proofs.Common.{[], append-nil, sym, refl}
use Rattle.sj_rules.specs.Mapped.{node_with}
use Rattle.sj_table.specs.Spots.{place_in}
use Rattle.sj_node.specs.Node.{spot_node}
use Rattle.sj_node.specs.Outs.{waiting_in}
use Rattle.sj_node.specs.Slots.{mains_in}
use Rattle.sj_node.proofs.ActLemmas.{does, stays}
use Rattle.sj_node.proofs.CallLemmas.{call_takes}
use Rattle.sj_node.proofs.TakeLemmas.{not_let}
use Rattle.sj_node.proofs.node.Node.call_take_value.Goals as goal

pub returns-in-Err-clause-err : goal.returns-in-Err-clause-err
returns-in-Err-clause-err c =
    let n = c.args.self.now in
    stays n _ (λ i. node_with (place_in n.table) (record (spot_node n) { main = c.in-Err.ensures.err i })) (λ q. refl) c.reserve.ensures.items refl refl refl refl

pub returns-clause-ok : goal.returns-clause-ok
returns-clause-ok c =
    let n = c.args.self.now in
    λ place.
    does n _ _ _ _ _ [] _ _ _
    (call_takes n c.args.end place c.args.msg (mains_in c.take_on.new.mains.items) c.in_default.ensures.ok c.requires.value)
    (record {
      program = refl;
      requests = refl;
      offers = refl;
      mains = refl;
      olds = refl;
      time = refl;
      waits = λ q. sym (append-nil (waiting_in n.outs.items q));
      noted = rw (c.push_reserved.ensures.items, c.reserve.ensures.items) refl;
      table = refl;
      party = refl;
      parties = refl;
      connects = refl;
    })

pub returns-in-Err-clause-unfit : goal.returns-in-Err-clause-unfit
returns-in-Err-clause-unfit c = λ unfit place.
    not_let c.args.self.now c.args.end place c.args.msg c.requires.head (c.in-Err.ensures.unfit unfit)
