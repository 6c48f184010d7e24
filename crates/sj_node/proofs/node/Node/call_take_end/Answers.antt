use Rattle.std.proofs.Common.{◌≡◌, ◌+◌, ◌<◌, [], ◌∷◌, ◌++◌, Some, true, ◌∙◌, ap, subst, sym, refl}
use Rattle.std.specs.Prelude.{is_none}
use Rattle.sj_base.specs.declared.EndId.{EndId}
use Rattle.sj_base.specs.declared.Msg.TheVariants as msgs
use Rattle.sj_rules.specs.Frames.{frames_for}
use Rattle.sj_rules.specs.Mapped.{node_with}
use Rattle.sj_rules.specs.Node.{put}
use Rattle.sj_rules.specs.Record.{Claim}
use Rattle.sj_table.specs.Spots.{place_in}
use Rattle.sj_node.specs.Fitting.{can_take}
use Rattle.sj_node.specs.Node.{spot_node}
use Rattle.sj_node.specs.Slots.{mains_in}
use Rattle.sj_node.specs.Taking.{Takes, held_head}
use Rattle.sj_node.proofs.ActLemmas.{does, stays}
use Rattle.sj_node.proofs.CallLemmas.{call_takes_end}
use Rattle.sj_node.proofs.TakeLemmas.{not_free, not_let}
use Rattle.sj_node.proofs.node.Node.call_take_end.Goals as goal

pub returns-in-Err-clause-err : goal.returns-in-Err-clause-err
returns-in-Err-clause-err c =
    let n = c.args.self.now in
    stays n _ (λ i. node_with (place_in n.table) (record (spot_node n) { main = (c.in-Err.ensures.err ∙ c.make_main_slot.ensures.same) i })) c.make_room.ensures.same c.reserve.ensures.items refl refl refl refl

pub returns-clause-ok : goal.returns-clause-ok
returns-clause-ok c =
    let n = c.args.self.now in
    let y = c.args.of in
    let vacant : is_none (mains_in n.mains.items y) ≡ true =
    ap (λ xs. is_none (mains_in xs y)) (sym c.deref.ensures.value) ∙ sym c.is_free.ensures ∙ c.if-not-is_free.false in
    let takes : Takes n.table c.args.end (msgs.Sess y.sess y.side c.args.keeper) (mains_in n.mains.items) (mains_in c.take_on.new.mains.items) =
    subst (λ t. Takes n.table c.args.end (msgs.Sess y.sess y.side c.args.keeper) t (mains_in c.take_on.new.mains.items)) c.make_main_slot.ensures.same c.in_default.ensures.ok in
    does n _ _ _ _ _ (record { party = c.args.keeper; body = Claim y } ∷ []) _ _ _
    (call_takes_end n c.args.end y c.args.keeper c.args.place (mains_in c.take_on.new.mains.items) takes vacant)
    (record {
      program = refl;
      requests = refl;
      offers = refl;
      mains = c.expect.ensures ∙ (λ i. put (c.claim-expected.ensures.id i) (Some (c.claim-expected.ensures.expected i)) (mains_in c.take_on.new.mains.items));
      olds = refl;
      time = refl;
      waits = λ q.
          c.put_frame.ensures.waits q
          ∙ (λ i. c.make_room.ensures.same q i ++ frames_for q (n.clock + 1) (record { party = c.args.keeper; body = c.claim-expected.ensures.body i } ∷ []));
      noted = rw (c.push_reserved.ensures.items, c.reserve.ensures.items) refl;
      table = refl;
      party = refl;
      parties = refl;
      connects = refl;
    })

pub take_on-requires : goal.take_on-requires
take_on-requires c = (λ i. held_head (c.make_main_slot.ensures.same i c.args.end)) ∙ c.requires.head

pub expect-requires-clause-side : goal.expect-requires-clause-side
expect-requires-clause-side c =
    let y = c.args.of in
    subst (λ (e : EndId). e.side < 2) (sym c.claim-expected.ensures.id) c.requires.side

pub returns-then-is_err-clause-err : goal.returns-then-is_err-clause-err
returns-then-is_err-clause-err c =
    let n = c.args.self.now in
    stays n _ (λ i. node_with (place_in n.table) (record (spot_node n) { main = c.make_main_slot.ensures.same i })) c.make_room.ensures.same c.reserve.ensures.items refl refl refl refl

pub returns-then-not-is_free-clause-unfit : goal.returns-then-not-is_free-clause-unfit
returns-then-not-is_free-clause-unfit c = λ unfit.
    let n = c.args.self.now in
    let y = c.args.of in
    not_free n c.args.end (place_in n.table c.args.place) y.sess y.side c.args.keeper c.requires.head
    (ap (λ xs. is_none (mains_in xs y)) (sym c.deref.ensures.value) ∙ sym c.is_free.ensures ∙ c.if-not-is_free.true)

pub returns-in-Err-clause-unfit : goal.returns-in-Err-clause-unfit
returns-in-Err-clause-unfit c = λ unfit.
    let n = c.args.self.now in
    let m = msgs.Sess c.args.of.sess c.args.of.side c.args.keeper in
    not_let n c.args.end (place_in n.table c.args.place) m c.requires.head
    ((λ i. can_take n.table m (sym c.make_main_slot.ensures.same i c.args.end)) ∙ c.in-Err.ensures.unfit unfit)
