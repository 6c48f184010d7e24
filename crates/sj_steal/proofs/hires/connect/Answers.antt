use Rattle.std.proofs.Common.{◌≡◌, ◌<◌, length, map, sym, refl, ◌∙◌, subst, arith}
use Rattle.std.proofs.lemmas.List.Elements.{All-get_or, All-set, recursion_from_All}
use Rattle.sj_steal.specs.Members.{deque_of}
use Rattle.sj_steal.specs.Teams.{IsJoined, Lent}
use Rattle.sj_steal.proofs.RunLemmas.{each2_length}
use Rattle.sj_steal.proofs.EachLemmas.{all_all}
use Rattle.sj_steal.proofs.PartLemmas.{parted_start}
use Rattle.sj_steal.proofs.HireLemmas.{connected_more}
use Rattle.sj_steal.proofs.hires.connect.Goals as goal

pub loop-worker-init : goal.loop-worker-init
loop-worker-init g c = (
  record {
    count = refl;
    new = c.requires.new;
    ways = parted_start (IsJoined (map deque_of c.args.members.now.items))
        (λ _. Unit {0}) c.args.members.now.items (recursion_from_All (λ _. Unit {0}) c.args.members.now.items (λ i d l. tt));
  },
  λ k h. h,
)

pub index_mut-requires : goal.index_mut-requires
index_mut-requires g c =
    let long = each2_length Lent c.loop-worker.members.items c.lend_each.new.members.items c.in_ok-row.ensures.lent in
    let count = c.loop-worker.invariant.0.count in
    omega (arith, c.args.members.now.ok.0, c.lend_each.new.members.ok.0, c.loop-worker-test.true, c.len-worker-end.ensures)

pub loop-worker-preserved : goal.loop-worker-preserved
loop-worker-preserved g c =
    let n = length c.args.members.now.items in
    let m = c.index_mut.result.now in
    let lent = c.lend_each.new.members.items in
    let now = c.loop-worker.members.items in
    let long = each2_length Lent now lent c.in_ok-row.ensures.lent in
    let count = c.loop-worker.invariant.0.count in
    let low : c.loop-worker.worker < n = omega (arith, c.args.members.now.ok.0, c.loop-worker-test.true, c.len-worker-end.ensures) in (
      connected_more n c.loop-worker.worker now lent c.in_ok-row.row m c.loop-worker.invariant.0 c.in_ok-row.ensures.lent low c.in_ok-row.ensures.ways
          c.in_ok-row.ensures.reaches c.in_ok-row.ensures.unused c.index_mut.ensures.value,
      λ k h.
          let all = all_all Lent (λ x. x.most ≡ k) (λ x. x.most ≡ k) (λ x y l p. l.most ∙ p) now lent c.in_ok-row.ensures.lent
          (c.loop-worker.invariant.1 k h) in
          All-set (λ x. x.most ≡ k) lent c.loop-worker.worker _
          (subst (λ x. x.most ≡ k) (sym c.index_mut.ensures.value) (All-get_or (λ x. x.most ≡ k) lent c.loop-worker.worker m (omega arith) all))
          all,
    )
