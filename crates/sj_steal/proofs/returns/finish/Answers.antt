use Rattle.std.proofs.Common.{◌≡◌, ◌<◌, ◌++◌, [], length, get_or, ap, refl, sym, subst, ◌∙◌, append-nil, flat_map, arith}
use Rattle.std.specs.List.Sorted.{IsPermutation}
use Rattle.std.proofs.lemmas.List.Elements.{All-get_or}
use Rattle.sj_steal.specs.Hands.{whole}
use Rattle.sj_steal.specs.Runs.{HasRun}
use Rattle.sj_steal.specs.Members.{done_by, own_put, own_taken, stolen_by, taken_by}
use Rattle.sj_steal.specs.Teams.{IsBack, IsEmptied}
use Rattle.sj_steal.proofs.PartLemmas.{upto_all, upto_length, upto_next, upto_step}
use Rattle.sj_steal.proofs.RunLemmas.{ran_at, ran_later, ran_none}
use Rattle.sj_steal.proofs.returns.finish.Goals as goal

pub loop-worker-init : goal.loop-worker-init
loop-worker-init g c = (refl, ran_none (HasRun g.J.Job.number_of g.J.Job.ran) _ _)

pub rest_jobs-requires-clause-back : goal.rest_jobs-requires-clause-back
rest_jobs-requires-clause-back g c κs within =
    let old = c.args.members.now.items in
    let m = c.index_mut.result.now in
    let there : m ≡ get_or old c.loop-worker.worker m = c.index_mut.ensures.value ∙ upto_next IsEmptied old c.loop-worker.members.items
    c.loop-worker.worker m c.loop-worker.invariant.0 in
    subst (IsBack whole) (sym there) (All-get_or (IsBack whole) old c.loop-worker.worker m
    (omega (arith, c.args.members.now.ok.0, c.loop-worker-test.true, c.len-worker-end.ensures)) c.requires.back)

pub rest_jobs-requires-clause-alone : goal.rest_jobs-requires-clause-alone
rest_jobs-requires-clause-alone g c κs within =
    let old = c.args.members.now.items in
    let m = c.index_mut.result.now in
    let there : m ≡ get_or old c.loop-worker.worker m = c.index_mut.ensures.value ∙ upto_next IsEmptied old c.loop-worker.members.items
    c.loop-worker.worker m c.loop-worker.invariant.0 in
    subst (λ x. x.all.items ≡ []) (sym there) (All-get_or (λ x. x.all.items ≡ []) old c.loop-worker.worker m
    (omega (arith, c.args.members.now.ok.0, c.loop-worker-test.true, c.len-worker-end.ensures)) c.requires.alone)

pub loop-worker-preserved : goal.loop-worker-preserved
loop-worker-preserved g c =
    let old = c.args.members.now.items in
    let now = c.loop-worker.members.items in
    let worker = c.loop-worker.worker in
    let m = c.index_mut.result.now in
    let m' = c.rest_jobs.new.self in
    let s = c.rest_jobs.ensures in
    let long = upto_length IsEmptied old now worker c.loop-worker.invariant.0 in
    let low : worker < length now = omega (arith, c.args.members.now.ok.0, c.loop-worker-test.true, c.len-worker-end.ensures) in
    let there : m ≡ get_or old worker m = c.index_mut.ensures.value ∙ upto_next IsEmptied old now worker m c.loop-worker.invariant.0 in
    let alone : m.all.items ≡ [] = subst (λ x. x.all.items ≡ []) (sym there)
    (All-get_or (λ x. x.all.items ≡ []) old worker m (omega arith) c.requires.alone) in
    let bare : taken_by m' ≡ own_taken m' = ap (λ l. own_taken m' ++ flat_map stolen_by l) (ap (λ a. a.items) s.all ∙ alone) ∙
    append-nil (own_taken m') in (
      upto_step IsEmptied old now worker m m' low c.index_mut.ensures.value
          (record { put = s.put; taken = subst (IsPermutation (own_put m')) (sym bare) s.none }) c.loop-worker.invariant.0,
      ran_later (HasRun g.J.Job.number_of g.J.Job.ran) _ _ _ _ _ _ c.loop-worker.invariant.1
          (ran_at (HasRun g.J.Job.number_of g.J.Job.ran) taken_by done_by now worker m m' low c.index_mut.ensures.value s.ran),
    )

pub returns-clause-emptied : goal.returns-clause-emptied
returns-clause-emptied g c =
    upto_all IsEmptied c.args.members.now.items c.loop-worker.members.items c.loop-worker.worker
    (omega (arith, c.args.members.now.ok.0, c.loop-worker-test.false, c.len-worker-end.ensures)) c.loop-worker.invariant.0
