use Rattle.std.proofs.Common.{◌≡◌, ◌<◌, ◌+◌, ◌-◌, ◌++◌, [], length, map, set, ap, refl, sym, subst, ◌∙◌, flat_map, All, arith}
use Rattle.std.specs.List.Sorted.{IsPermutation}
use Rattle.std.proofs.lemmas.List.Elements.{recursion_from_All, All-from_recursion}
use Rattle.std.proofs.lemmas.List.Sorted.{IsPermutation-refl, IsPermutation-trans}
use Rattle.sj_steal.specs.declared.member.Member.{Member}
use Rattle.sj_steal.specs.Hands.{whole}
use Rattle.sj_steal.specs.Members.{IsReach, deque_of, stolen_by, taken_by, way_of}
use Rattle.sj_steal.specs.Teams.{HasWays, IsBack}
use Rattle.sj_steal.proofs.PartLemmas.{parted_all, parted_at, parted_start}
use Rattle.sj_steal.proofs.MemberLemmas.{map_stays}
use Rattle.sj_steal.proofs.BackLemmas.{row_back}
use Rattle.sj_steal.proofs.returns.give_all_back.Goals as goal

pub loop-worker-init : goal.loop-worker-init
loop-worker-init g c =
    let now = c.args.members.now.items in
    let count : whole - length now ≡ whole - length now + 0 = omega arith in (
      subst (λ n. All (IsBack n) now) count c.requires.back,
      parted_start (λ m. m.all.items ≡ []) (HasWays (map deque_of now)) now (recursion_from_All (HasWays (map deque_of now)) now c.requires.ways),
      refl,
      refl,
      refl,
      IsPermutation-refl _,
    )

pub give_back_each-requires-clause-ways : goal.give_back_each-requires-clause-ways
give_back_each-requires-clause-ways g c κs within =
    let now = c.loop-worker.members.items in
    let worker = c.loop-worker.worker in
    let m = c.index_mut.result.now in
    let i = c.loop-worker.invariant in
    let low : worker < length now = omega (arith, c.args.members.now.ok.0, c.loop-worker-test.true, c.len-worker-end.ensures, i.2) in
    let has = parted_at (λ x. x.all.items ≡ []) (HasWays (map deque_of now)) now worker m low c.index_mut.ensures.value i.1 in
    ap (λ a. map way_of a.items) c.replace-row.ensures.value ∙ has.ways
    ∙ sym (map_stays deque_of now worker m (record { own = m.own; all = c.replace-row.new.dest; done = m.done; most = m.most })
    c.index_mut.ensures.value refl)

pub give_back_each-requires-clause-reaches : goal.give_back_each-requires-clause-reaches
give_back_each-requires-clause-reaches g c κs within =
    let now = c.loop-worker.members.items in
    let worker = c.loop-worker.worker in
    let m = c.index_mut.result.now in
    let i = c.loop-worker.invariant in
    let low : worker < length now = omega (arith, c.args.members.now.ok.0, c.loop-worker-test.true, c.len-worker-end.ensures, i.2) in
    let has = parted_at (λ x. x.all.items ≡ []) (HasWays (map deque_of now)) now worker m low c.index_mut.ensures.value i.1 in
    subst (λ a. All IsReach a.items) (sym c.replace-row.ensures.value) has.reaches

pub loop-worker-preserved : goal.loop-worker-preserved
loop-worker-preserved g c =
    let now = c.loop-worker.members.items in
    let worker = c.loop-worker.worker in
    let m = c.index_mut.result.now in
    let i = c.loop-worker.invariant in
    let low : worker < length now = omega (arith, c.args.members.now.ok.0, c.loop-worker-test.true, c.len-worker-end.ensures, i.2) in
    let old = c.args.members.now.items in
    let back = c.give_back_each.new.members.items in
    let none = c.replace-row.new.dest in
    let m1 : Member _ = record { own = m.own; all = none; done = m.done; most = m.most } in
    let empty : none.items ≡ [] = ap (λ a. a.items) c.replace-row.ensures.after ∙ c.new.ensures.items in
    let taken : IsPermutation (flat_map taken_by (set now worker m1) ++ flat_map stolen_by m.all.items) (flat_map taken_by back) =
    subst (λ a. IsPermutation (flat_map taken_by (set now worker m1) ++ flat_map stolen_by a.items) (flat_map taken_by back))
    c.replace-row.ensures.value c.give_back_each.ensures.taken in
    let after = row_back (whole - length old + worker) worker now back m none low c.index_mut.ensures.value empty i.0 i.1
    c.give_back_each.ensures.back
    taken in
    let count : whole - length old + worker + 1 ≡ whole - length old + (worker + 1) = omega arith in (
      subst (λ n. All (IsBack n) back) count after.back,
      after.ways,
      after.long ∙ i.2,
      after.put ∙ i.3,
      after.done ∙ i.4,
      IsPermutation-trans _ _ _ i.5 after.taken,
    )

pub returns-clause-alone : goal.returns-clause-alone
returns-clause-alone g c =
    let now = c.loop-worker.members.items in
    All-from_recursion (λ m. m.all.items ≡ []) now
    (parted_all (λ m. m.all.items ≡ []) (HasWays (map deque_of now)) now c.loop-worker.worker
    (omega (arith, c.args.members.now.ok.0, c.loop-worker-test.false, c.len-worker-end.ensures, c.loop-worker.invariant.2)) c.loop-worker.invariant.1)
