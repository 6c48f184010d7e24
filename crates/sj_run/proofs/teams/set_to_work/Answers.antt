use Rattle.std.proofs.Common.{◌≡◌, ◌∙◌, ◌≤◌, length, arith, ap, subst}
use Rattle.sj_check.specs.Held.{file_in}
use Rattle.std.proofs.lemmas.List.{length-map}
use Rattle.sj_lang.specs.declared.file.File.{File}
use Rattle.sj_lang.specs.FileView.{file_of, party_of}
use Rattle.sj_steal.proofs.RunLemmas.{each2_length}
use Rattle.sj_work.specs.Worked.{Worked}
use Rattle.sj_run.proofs.EachLemmas.{each2_get}
use Rattle.sj_run.proofs.WorkedLemmas.{all_worked, are_over}
use Rattle.sj_run.proofs.teams.set_to_work.Goals as goal

pub work_off-requires-clause-few : goal.work_off-requires-clause-few
work_off-requires-clause-few g c κs within =
    let file = file_of (file_in c.args.accepted.now) in
    let many : length c.in_ok-hired.hired.items ≡ length file.parties = c.in_ok-hired.ensures.count ∙ c.in_ok-nodes.ensures.seats.count in
    let few : length file.parties ≤ 16 = subst (λ (f : File). length (file_of f).parties ≤ 16) c.file.ensures.value c.file.ensures.accepted.within.parties in
    omega (arith, many, few)

pub returns-clause-worked : goal.returns-clause-worked
returns-clause-worked g c =
    let file = file_of (file_in c.args.accepted.now) in
    let nodes = c.in_ok-nodes.nodes.items in
    let lanes = c.in_ok-lanes.lanes.items in
    let hired = c.in_ok-hired.hired.items in
    let workers = c.in_ok-workers.workers.items in
    let first = c.in_ok-nodes.ensures in
    let made = c.in_ok-lanes.ensures in
    let as_many = each2_length (Worked g.L.Out.OutLane g.L.In.InLane c.args.looks)
    hired workers c.in_ok-workers.ensures in
    let many : length lanes ≡ length file.parties = omega (arith, made.square.0, length-map (file_in c.args.accepted.now).parties.items party_of, c.len-parties.ensures, ap (λ (f : File). length f.parties.items) c.file.ensures.value, (file_in c.args.accepted.now).parties.ok, c.in_ok-lanes.lanes.ok) in
    all_worked g.L.Out.OutLane g.L.In.InLane g.L.Links.joined g.met.L.Links.joined_later
    file c.args.looks (g.L.Links.tells c.args.links.now) nodes lanes hired workers first made.square.1 many made.joined made.fresh made.faultless c.in_ok-hired.ensures as_many
    (λ p old new before there.
    each2_get (Worked g.L.Out.OutLane g.L.In.InLane c.args.looks)
    hired workers p old new c.in_ok-workers.ensures before there)

pub returns-clause-over : goal.returns-clause-over
returns-clause-over g c =
    let file = file_of (file_in c.args.accepted.now) in
    let nodes = c.in_ok-nodes.nodes.items in
    let lanes = c.in_ok-lanes.lanes.items in
    let hired = c.in_ok-hired.hired.items in
    let workers = c.in_ok-workers.workers.items in
    let first = c.in_ok-nodes.ensures in
    let made = c.in_ok-lanes.ensures in
    let as_many = each2_length (Worked g.L.Out.OutLane g.L.In.InLane c.args.looks)
    hired workers c.in_ok-workers.ensures in
    let many : length lanes ≡ length file.parties = omega (arith, made.square.0, length-map (file_in c.args.accepted.now).parties.items party_of, c.len-parties.ensures, ap (λ (f : File). length f.parties.items) c.file.ensures.value, (file_in c.args.accepted.now).parties.ok, c.in_ok-lanes.lanes.ok) in
    are_over g.L.Out.OutLane g.L.In.InLane g.L.Links.joined g.met.L.Links.joined_later
    file c.args.looks (g.L.Links.tells c.args.links.now) nodes lanes hired workers first made.square.1 many made.joined made.fresh made.faultless c.in_ok-hired.ensures as_many
    (λ p old new before there.
    each2_get (Worked g.L.Out.OutLane g.L.In.InLane c.args.looks)
    hired workers p old new c.in_ok-workers.ensures before there)
