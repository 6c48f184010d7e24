use Rattle.std.proofs.Common.{◌≡◌, ◌+◌, ◌*◌, ◌/◌, ◌≤◌, ◌<◌, ◌%◌, ◌++◌, set, length, get_or}
use Rattle.std.proofs.Common.{sym, ap, subst, append-nil, ◌∙◌, zero-mul, length-append, [], ◌∷◌, All, arith}
use Rattle.std.specs.List.{flat_map}
use Rattle.std.specs.List.Sorted.{IsPermutation}
use Rattle.std.proofs.lemmas.Nat.{mod_below}
use Rattle.std.proofs.lemmas.List.Elements.{All-get_or}
use Rattle.std.proofs.lemmas.List.Sorted.{IsPermutation-refl, length_permutation, IsPermutation-trans, IsPermutation-append_right}
use Rattle.crossbeam_deque.specs.Handles.{worker_capacity, worker_index}
use Rattle.sj_steal.specs.Members.{own_hand, own_put}
use Rattle.sj_steal.specs.Teams.{Dealt, IsSpread}
use Rattle.sj_steal.proofs.RunLemmas.{each2_length}
use Rattle.sj_steal.proofs.EachLemmas.{all_all, nothing, each2_refl, each2_set}
use Rattle.sj_steal.proofs.DealLemmas.{dealt_itself, dealt_later, put_more, spread_more, turn_fits, turn_of}
use Rattle.sj_steal.proofs.deals.deal.Goals as goal

pub loop-job-init : goal.loop-job-init
loop-job-init g c = (
  each2_refl Dealt dealt_itself c.args.members.now.items,
  (λ i d in'. let none = c.requires.none i d in' in let zero : worker_index (get_or c.args.members.now.items i d).own * length
      c.args.members.now.items ≡ 0 = ap (λ n. n * length c.args.members.now.items) none ∙ zero-mul _ in omega arith),
  omega arith,
  IsPermutation-refl _,
)

pub index_mut-requires : goal.index_mut-requires
index_mut-requires g c =
    let long = each2_length Dealt c.args.members.now.items c.loop-job.members.items c.loop-job.invariant.0 in
    let some = c.requires.some in
    let count = c.len-count.ensures in
    let here = mod_below c.loop-job.turn c.len-count.result (omega (arith, c.args.members.now.ok.0)) in
    omega (arith, c.args.members.now.ok.0, c.loop-job.members.ok.0)

pub put-requires-clause-part : goal.put-requires-clause-part
put-requires-clause-part g c κs within =
    let now = c.loop-job.members.items in
    let long = each2_length Dealt c.args.members.now.items now c.loop-job.invariant.0 in
    let count = c.len-count.ensures in
    let some = c.requires.some in
    let here = mod_below c.loop-job.turn c.len-count.result (omega (arith, c.args.members.now.ok.0)) in
    let parts = all_all Dealt (λ m. 0 < (own_hand m).parts) (λ m. 0 < (own_hand m).parts) (λ x y d p. let e = d.parts in omega arith)
    c.args.members.now.items now c.loop-job.invariant.0 c.requires.parts in
    subst (λ m. 0 < (own_hand m).parts) (sym c.index_mut.ensures.value)
    (All-get_or (λ m. 0 < (own_hand m).parts) now (c.loop-job.turn % c.len-count.result) c.index_mut.result.now
    (omega (arith, c.args.members.now.ok.0)) parts)

pub put-requires-clause-room : goal.put-requires-clause-room
put-requires-clause-room g c κs within =
    let now = c.loop-job.members.items in
    let workers = c.len-count.result in
    let m = c.index_mut.result.now in
    let long = each2_length Dealt c.args.members.now.items now c.loop-job.invariant.0 in
    let some = c.requires.some in
    let count : length c.args.members.now.items ≡ workers = omega (arith, c.args.members.now.ok.0, c.len-count.ensures) in
    let here = mod_below c.loop-job.turn workers (omega arith) in
    let spread = subst (λ n. IsSpread n c.loop-job.turn now) count c.loop-job.invariant.1 in
    let low = turn_of workers c.loop-job.turn now m (omega arith) (omega arith) spread c.index_mut.ensures.value in
    let jobs = length c.args.jobs.items in
    let many = length_permutation c.args.jobs.items c.reverse.new.self.items c.reverse.ensures.permutation in
    let left = length-append c.pop.new.self.items (c.in-Some.job ∷ []) in
    let was : length c.loop-job.jobs.items ≡ length (c.pop.new.self.items ++ c.in-Some.job ∷ []) = ap length c.in-Some.ensures.items in
    let before = c.loop-job.invariant.2 in
    let slots = all_all Dealt (λ x. jobs / workers + 1 ≤ worker_capacity x.own) (λ x. jobs / workers + 1 ≤ worker_capacity x.own)
    (λ x y d p. let e = d.slots in omega arith) c.args.members.now.items now c.loop-job.invariant.0
    (subst (λ n. All (λ x. jobs / n + 1 ≤ worker_capacity x.own) c.args.members.now.items) count c.requires.slots) in
    let room : jobs / workers + 1 ≤ worker_capacity m.own =
    subst (λ x. jobs / workers + 1 ≤ worker_capacity x.own) (sym c.index_mut.ensures.value)
    (All-get_or (λ x. jobs / workers + 1 ≤ worker_capacity x.own) now (c.loop-job.turn % workers) m (omega arith) slots) in
    turn_fits workers c.loop-job.turn jobs (worker_capacity m.own) (worker_index m.own) (omega arith) low (omega arith) room

pub loop-job-preserved : goal.loop-job-preserved
loop-job-preserved g c =
    let now = c.loop-job.members.items in
    let workers = c.len-count.result in
    let m = c.index_mut.result.now in
    let m' = c.put.new.member in
    let long = each2_length Dealt c.args.members.now.items now c.loop-job.invariant.0 in
    let some = c.requires.some in
    let count : length c.args.members.now.items ≡ workers = omega (arith, c.args.members.now.ok.0, c.len-count.ensures) in
    let here = mod_below c.loop-job.turn workers (omega arith) in
    let spread = subst (λ n. IsSpread n c.loop-job.turn now) count c.loop-job.invariant.1 in
    let left = length-append c.pop.new.self.items (c.in-Some.job ∷ []) in
    let was : length c.loop-job.jobs.items ≡ length (c.pop.new.self.items ++ c.in-Some.job ∷ []) = ap length c.in-Some.ensures.items in
    let before = c.loop-job.invariant.2 in (
      each2_set Dealt dealt_later c.args.members.now.items now (c.loop-job.turn % workers) m m' c.index_mut.ensures.value c.put.ensures.dealt
          c.loop-job.invariant.0,
      subst (λ n. IsSpread n (c.loop-job.turn + 1) (set now (c.loop-job.turn % workers) m')) (sym count)
          (spread_more workers c.loop-job.turn now m m' (omega arith) (omega arith) spread c.index_mut.ensures.value c.put.ensures.index),
      omega arith,
      put_more now (c.loop-job.turn % workers) m m' c.in-Some.job _ c.loop-job.jobs.items c.pop.new.self.items
          (omega arith) c.index_mut.ensures.value c.put.ensures.put c.in-Some.ensures.items c.loop-job.invariant.3,
    )

pub returns-clause-put : goal.returns-clause-put
returns-clause-put g c =
    let empty : c.loop-job.jobs.items ≡ [] = let h = c.in_default.ensures in nothing _ (omega (arith, h.cases.0, c.loop-job.jobs.ok.0)) in
    let all = subst (λ l. IsPermutation (flat_map own_put c.args.members.now.items ++ c.reverse.new.self.items)
    (flat_map own_put c.loop-job.members.items ++ l)) empty c.loop-job.invariant.3 in
    IsPermutation-trans _ _ _ (IsPermutation-append_right (flat_map own_put c.args.members.now.items) _ _ c.reverse.ensures.permutation)
    (subst (IsPermutation (flat_map own_put c.args.members.now.items ++ c.reverse.new.self.items))
    (append-nil (flat_map own_put c.loop-job.members.items)) all)
