use Rattle.std.proofs.Common.{◌≡◌, ℕ, ◌<◌, true, false, get_or, take, is_some, inl, inr, sym, subst, ◌∙◌, arith}
use Rattle.sj_lang.specs.declared.proto.Item.TheVariants.{Send, Recv, Branch}
use Rattle.sj_lang.proofs.MeetCodeLemmas.{lengths_differ, item_by, goes_on, stops, kinds_alike, labels_turned, no_arm_first, no_arm_second}
use Rattle.sj_lang.specs.MeetTests.{passes, each_label, arm_meets, arms_seen}
use Rattle.sj_lang.specs.After.{at_label}
use Rattle.sj_lang.specs.View.{choices_of}
use Rattle.sj_lang.specs.declared.proto.Arm.{Arm}
use Rattle.sj_lang.proofs.InStepLemmas.{alike_by, absent, present, at_places, label_fails, meets_more, each_passes}
use Rattle.sj_lang.proofs.meeting.+meets.Goals as goal
use Rattle.sj_lang.proofs.meeting.+meets.Goals.{meet_arms-else-not-meet-via-then-not-meet+else-not-has_label, meet_arms-else-not-meet-via-else-not-meet}

pub meet_item-returns-then-not-turned : goal.meet_item-returns-then-not-turned
meet_item-returns-then-not-turned t c =
    item_by _ false _ (Send c.in-Send-Recv.k) _ (Recv c.in-Send-Recv.l) c.same_kind.result c.if-not-turned.true c.in-Send-Recv.is-0 c.in-Send-Recv.is-1 (kinds_alike c.same_kind.result c.in-Send-Recv.k c.in-Send-Recv.l c.same_kind.ensures)

pub meet_item-returns-then-not-turned-2 : goal.meet_item-returns-then-not-turned-2
meet_item-returns-then-not-turned-2 t c =
    item_by _ false _ (Recv c.in-Recv-Send.k) _ (Send c.in-Recv-Send.l) c.same_kind-then-not-turned-2.result c.if-not-turned-2.true c.in-Recv-Send.is-0 c.in-Recv-Send.is-1 (kinds_alike c.same_kind-then-not-turned-2.result c.in-Recv-Send.k c.in-Recv-Send.l c.same_kind-then-not-turned-2.ensures)

pub meet_item-returns-then-turned : goal.meet_item-returns-then-turned
meet_item-returns-then-turned t c =
    item_by _ true _ (Send c.in-Send-Send.k) _ (Send c.in-Send-Send.l) c.same_kind-then-turned.result c.if-turned.true c.in-Send-Send.is-0 c.in-Send-Send.is-1 (kinds_alike c.same_kind-then-turned.result c.in-Send-Send.k c.in-Send-Send.l c.same_kind-then-turned.ensures)

pub meet_item-returns-then-turned-2 : goal.meet_item-returns-then-turned-2
meet_item-returns-then-turned-2 t c =
    item_by _ true _ (Recv c.in-Recv-Recv.k) _ (Recv c.in-Recv-Recv.l) c.same_kind-then-turned-2.result c.if-turned-2.true c.in-Recv-Recv.is-0 c.in-Recv-Recv.is-1 (kinds_alike c.same_kind-then-turned-2.result c.in-Recv-Recv.k c.in-Recv-Recv.l c.same_kind-then-turned-2.ensures)

pub meet_item-returns-then-turned-4 : goal.meet_item-returns-then-turned-4
meet_item-returns-then-turned-4 t c =
    item_by _ true _ (Branch c.in-Branch-Branch.x) _ (Branch c.in-Branch-Branch.y) c.meet_arms-then-turned-4.result c.if-turned-4.true c.in-Branch-Branch.is-0 c.in-Branch-Branch.is-1
    (labels_turned c.meet_arms-then-turned-4.result c.in-Branch-Branch.x c.in-Branch-Branch.y (rw c.if-turned-4.true at c.meet_arms-then-turned-4.ensures))

pub meet_items-loop-i-preserved : goal.meet_items-loop-i-preserved
meet_items-loop-i-preserved t c =
    goes_on c.args.turned c.args.a.now c.args.b.now c.loop-i.i c.index-a-i.result c.index-b-i.result c.meet_item.result _ (omega arith) (omega arith) c.index-a-i.is c.index-b-i.is c.meet_item.ensures c.loop-i.invariant c.if-not-meet_item.false

pub meet_items-returns-then-not-meet_item : goal.meet_items-returns-then-not-meet_item
meet_items-returns-then-not-meet_item t c =
    stops c.args.turned c.args.a.now c.args.b.now c.loop-i.i c.index-a-i.result c.index-b-i.result c.meet_item.result _ (omega arith) (omega arith) c.index-a-i.is c.index-b-i.is c.meet_item.ensures c.loop-i.invariant c.if-not-meet_item.true

pub meet_items-returns-then-a-b : goal.meet_items-returns-then-a-b
meet_items-returns-then-a-b t c = sym (lengths_differ c.args.turned c.args.a.now c.args.b.now c.if-a-b.true)

pub meet_arms-returns-in_default : goal.meet_arms-returns-in_default
meet_arms-returns-in_default t c =
    label_fails c.args.turned c.args.a.now c.args.b.now c.args.labels.now c.labels.inside.arms.items c.loop-i.i c.index.result.now c.labels.view_is (omega arith) c.index.ensures
    (no_arm_first c.args.turned c.args.a.now c.index.result.now.label _ (rw c.in_default.is at c.arm_from.ensures.none))

pub meet_arms-returns-in_default-arm_from : goal.meet_arms-returns-in_default-arm_from
meet_arms-returns-in_default-arm_from t c =
    label_fails c.args.turned c.args.a.now c.args.b.now c.args.labels.now c.labels.inside.arms.items c.loop-i.i c.index.result.now c.labels.view_is (omega arith) c.index.ensures
    (no_arm_second c.args.turned c.args.a.now c.index.result.now.label _ (rw c.in_default-arm_from.is at c.arm_from-in-loop-i.ensures.none))

pub meet_arms-returns-then-not-has_label : goal.meet_arms-returns-then-not-has_label
meet_arms-returns-then-not-has_label t c =
    label_fails c.args.turned c.args.a.now c.args.b.now c.args.labels.now c.labels.inside.arms.items c.loop-i.i c.index.result.now c.labels.view_is (omega arith) c.index.ensures
    (elim (at_places c.args.turned c.args.a.now c.args.b.now c.a.inside.arms.items c.b.inside.arms.items c.labels.inside.arms.items c.a.view_is c.b.view_is
    c.arms_alike-in_a.result c.arms_alike-in_b.result c.loop-i.i c.in-Some.p c.in-Some-arm_from.q c.index.result.now c.index-in-loop-i.result.now c.index-in-loop-i-2.result.now
    (alike_by c.deref.ensures.value c.deref-2.ensures.value c.arms_alike-in_a.ensures) (alike_by c.deref-3.ensures.value c.deref-4.ensures.value c.arms_alike-in_b.ensures)
    c.index.ensures c.index-in-loop-i.ensures c.index-in-loop-i-2.ensures
    c.in-Some.ensures.within c.in-Some.ensures.there c.in-Some.ensures.found c.in-Some-arm_from.ensures.within c.in-Some-arm_from.ensures.there c.in-Some-arm_from.ensures.found
    c.meet.result c.meet.ensures {P = ⊥}
    (λ k below e. absent c.labels.inside.arms.items c.loop-i.i c.index.result.now c.index.result.now.label k
    (subst (λ xs. is_some (at_label c.index.result.now.label (choices_of (take c.loop-i.i xs))) ≡ false) c.deref-then-not-meet.ensures.value (sym c.has_label.ensures ∙ c.if-not-has_label.true)) below (omega arith) e)) [
      | inl it ↦ sym c.if-not-meet.true ∙ it
      | inr before ↦ absurd before
    ])

pub meet_arms-loop-i-preserved : goal.meet_arms-loop-i-preserved
meet_arms-loop-i-preserved t c =
    meets_more c.args.turned c.args.a.now c.args.b.now c.loop-i.i c.labels.inside.arms.items c.index.result.now (omega arith) c.loop-i.invariant
    (subst (λ (x : Arm). passes (arm_meets (arms_seen c.args.turned c.args.a.now) x.label) (at_label x.label c.args.b.now) ≡ true) c.index.ensures
    (elim c.else-not-meet.branch [
      | meet_arms-else-not-meet-via-then-not-meet+else-not-has_label w ↦
          present c.labels.inside.arms.items c.loop-i.i c.index.result.now c.index.result.now.label
          (subst (λ xs. is_some (at_label c.index.result.now.label (choices_of (take c.loop-i.i xs))) ≡ true) w.deref-then-not-meet.ensures.value (sym w.has_label.ensures ∙ w.if-not-has_label.false))
          before
      | meet_arms-else-not-meet-via-else-not-meet w ↦ elim (at_places c.args.turned c.args.a.now c.args.b.now c.a.inside.arms.items c.b.inside.arms.items c.labels.inside.arms.items c.a.view_is c.b.view_is
          c.arms_alike-in_a.result c.arms_alike-in_b.result c.loop-i.i c.in-Some.p c.in-Some-arm_from.q c.index.result.now c.index-in-loop-i.result.now c.index-in-loop-i-2.result.now
          (alike_by c.deref.ensures.value c.deref-2.ensures.value c.arms_alike-in_a.ensures) (alike_by c.deref-3.ensures.value c.deref-4.ensures.value c.arms_alike-in_b.ensures)
          c.index.ensures c.index-in-loop-i.ensures c.index-in-loop-i-2.ensures
          c.in-Some.ensures.within c.in-Some.ensures.there c.in-Some.ensures.found c.in-Some-arm_from.ensures.within c.in-Some-arm_from.ensures.there c.in-Some-arm_from.ensures.found
          c.meet.result c.meet.ensures {P = now} before) [
            | inl it ↦ sym it ∙ w.if-not-meet.false
            | inr it ↦ it
          ]
    ]))
  where
    now : Type 0
    now = passes (arm_meets (arms_seen c.args.turned c.args.a.now) c.index.result.now.label) (at_label c.index.result.now.label c.args.b.now) ≡ true

    before : (k : ℕ) → k < c.loop-i.i → (get_or c.labels.inside.arms.items k c.index.result.now).label ≡ c.index.result.now.label → now
    before k below e = subst (λ l. passes (arm_meets (arms_seen c.args.turned c.args.a.now) l) (at_label l c.args.b.now) ≡ true) e (c.loop-i.invariant k c.index.result.now below)

pub meet_arms-returns : goal.meet_arms-returns
meet_arms-returns t c =
    subst (λ v. true ≡ each_label (arm_meets (arms_seen c.args.turned c.args.a.now)) v c.args.b.now) c.labels.view_is
    (sym (each_passes (arm_meets (arms_seen c.args.turned c.args.a.now)) c.labels.inside.arms.items c.args.b.now (λ k d below. c.loop-i.invariant k d (omega arith))))
