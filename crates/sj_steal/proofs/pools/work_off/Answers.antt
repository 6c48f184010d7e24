use Rattle.std.proofs.Common.{rules, ◌≡◌, ◌-◌, ◌++◌, length, sym, ap, subst, ◌∙◌, flat_map, All, arith}
use Rattle.std.specs.List.Sorted.{IsNonDecreasingBy, IsPermutation}
use Rattle.std.proofs.lemmas.List.Sorted.{IsPermutation-trans, IsNonDecreasingBy-from_sort_by_key}
use Rattle.sj_steal.specs.Hands.{whole}
use Rattle.sj_steal.specs.Runs.{HasRun}
use Rattle.sj_steal.specs.Members.{Works, done_by}
use Rattle.sj_steal.specs.Teams.{Dealt, IsBack}
use Rattle.sj_steal.proofs.RunLemmas.{each2_length}
use Rattle.sj_steal.proofs.DoneLemmas.{all_done}
use Rattle.sj_steal.proofs.PoolLemmas.{all_back, all_ran, all_ready, all_ways, jobs_taken, none_done, none_taken, ran_many}
use Rattle.sj_steal.proofs.pools.work_off.Goals as goal

pub set_to_work-requires-clause-ready : goal.set_to_work-requires-clause-ready
set_to_work-requires-clause-ready g c κs within =
    all_ready (length c.args.members.items) (length c.args.jobs.items) c.args.members.items c.deal.new.members.items c.requires.some c.requires.few
    c.requires.connected c.requires.most c.deal.ensures.dealt c.deal.ensures.spread

pub give_all_back-requires-clause-few : goal.give_all_back-requires-clause-few
give_all_back-requires-clause-few g c κs within =
    let dealt = each2_length Dealt c.args.members.items c.deal.new.members.items c.deal.ensures.dealt in
    let worked = each2_length (Works (HasRun g.J.Job.number_of g.J.Job.ran)) c.deal.new.members.items c.set_to_work.new.members.items
    c.set_to_work.ensures in
    omega (arith, c.requires.few)

pub give_all_back-requires-clause-back : goal.give_all_back-requires-clause-back
give_all_back-requires-clause-back g c κs within =
    let dealt = each2_length Dealt c.args.members.items c.deal.new.members.items c.deal.ensures.dealt in
    let worked = each2_length (Works (HasRun g.J.Job.number_of g.J.Job.ran)) c.deal.new.members.items c.set_to_work.new.members.items
    c.set_to_work.ensures in
    subst (λ n. All (IsBack (whole - n)) c.set_to_work.new.members.items) (sym (worked ∙ dealt))
    (all_back (HasRun g.J.Job.number_of g.J.Job.ran) (length c.args.members.items) c.args.members.items c.deal.new.members.items
    c.set_to_work.new.members.items c.requires.connected c.deal.ensures.dealt c.set_to_work.ensures)

pub give_all_back-requires-clause-ways : goal.give_all_back-requires-clause-ways
give_all_back-requires-clause-ways g c κs within =
    all_ways (HasRun g.J.Job.number_of g.J.Job.ran) (length c.args.members.items) c.args.members.items c.deal.new.members.items
    c.set_to_work.new.members.items c.requires.connected c.deal.ensures.dealt c.set_to_work.ensures

pub gather-requires-after_bounds : goal.gather-requires-after_bounds
gather-requires-after_bounds g c κs within =
    let R = HasRun g.J.Job.number_of g.J.Job.ran in
    let n = length c.args.members.items in
    let xs = c.args.members.items in
    let ys = c.deal.new.members.items in
    let zs = c.set_to_work.new.members.items in
    let back = c.give_all_back.new.members.items in
    let ends = c.finish.new.members.items in
    let ran = all_ran R ys zs back ends c.set_to_work.ensures c.give_all_back.ensures.done c.give_all_back.ensures.taken c.finish.ensures.ran in
    let taken = jobs_taken R n c.args.jobs.items xs ys zs back ends c.requires.connected c.deal.ensures.put c.set_to_work.ensures
    c.give_all_back.ensures.put c.finish.ensures.emptied in
    let many = ran_many R _ _ _ _ c.args.jobs.items ran (none_taken R n xs ys c.requires.connected c.deal.ensures.dealt)
    (none_done R n xs ys c.requires.connected c.deal.ensures.dealt) taken in
    let room = c.requires.room.1 in
    let none : length c.args.room.items ≡ 0 = ap length c.requires.room.0 in
    omega (arith, c.args.room.ok.0)

pub returns : goal.returns
returns g c =
    let R = HasRun g.J.Job.number_of g.J.Job.ran in
    let n = length c.args.members.items in
    let xs = c.args.members.items in
    let ys = c.deal.new.members.items in
    let zs = c.set_to_work.new.members.items in
    let back = c.give_all_back.new.members.items in
    let ends = c.finish.new.members.items in
    let sorted = c.sort_unstable_by_key.new.self.items in
    let ran = all_ran R ys zs back ends c.set_to_work.ensures c.give_all_back.ensures.done c.give_all_back.ensures.taken c.finish.ensures.ran in
    let taken = jobs_taken R n c.args.jobs.items xs ys zs back ends c.requires.connected c.deal.ensures.put c.set_to_work.ensures
    c.give_all_back.ensures.put c.finish.ensures.emptied in
    let gathered = subst (λ l. IsPermutation (l ++ flat_map done_by ends) c.gather.new.into.items) c.requires.room.0 c.gather.ensures.items in
    let order : IsNonDecreasingBy g.J.Job.number_of sorted = IsNonDecreasingBy-from_sort_by_key g.J.Job.number_of sorted
    c.sort_unstable_by_key.ensures.sorted (λ a r q k. search rules) in
    all_done g.J.Job.number_of g.J.Job.ran c.args.jobs.items _ _ _ _ sorted ran (none_taken R n xs ys c.requires.connected c.deal.ensures.dealt)
    (none_done R n xs ys c.requires.connected c.deal.ensures.dealt) taken
    (IsPermutation-trans _ _ _ gathered c.sort_unstable_by_key.ensures.permutation) order
