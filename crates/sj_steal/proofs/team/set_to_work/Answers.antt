use Rattle.std.proofs.Common.{◌≡◌, ◌<◌, length, drop, get_or, sym, ap, subst, ◌∙◌, arith}
use Rattle.std.proofs.lemmas.List.{take_at}
use Rattle.sj_steal.specs.Runs.{Each2, HasRun}
use Rattle.sj_steal.specs.Members.{Works}
use Rattle.sj_steal.proofs.EachLemmas.{each2_index}
use Rattle.sj_steal.proofs.team.set_to_work.Goals as goal

pub returns : goal.returns
returns g c =
    let old = c.args.members.now.items in
    let new = c.work_each.new.members in
    let W = Works (HasRun g.J.Job.number_of g.J.Job.ran) in
    let same = c.as_mut_slice.ensures.value in
    let long : length new ≡ length old = c.work_each.ensures.length ∙ ap length same in
    let each : Each2 W old new = each2_index W old new long
    (λ i d l. subst (λ xs. W (get_or xs i d) (get_or new i d)) same (c.work_each.ensures.each i d (subst (λ xs. i < length xs) (sym same) l))) in
    subst (Each2 W old) (sym (take_at new (drop (length new) old) c.args.members.now.len (omega (arith, c.args.members.now.ok.0)))) each
