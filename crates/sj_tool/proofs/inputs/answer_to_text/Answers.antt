use Rattle.std.proofs.Common.{subst}
use Rattle.sj_command.specs.declared.tasks.Task.TheVariants as tasks
use Rattle.sj_lang.specs.FileView.{file_of}
use Rattle.sj_tool.specs.declared.plans.Play.{Play}
use Rattle.sj_tool.specs.LogAt.{log_at}
use Rattle.sj_tool.specs.Calls.{link_use}
use Rattle.sj_tool.specs.Plans.{DoesSo}
use Rattle.sj_tool.proofs.FileAnswers.{any_answers, links_answers, log_answers, talk_answers}
use Rattle.sj_tool.proofs.OverAnswers.{none_comes, run_comes}
use Rattle.sj_tool.proofs.inputs.answer_to_text.Goals as goal

pub returns-in-Check-clause-answer : goal.returns-in-Check-clause-answer
returns-in-Check-clause-answer g c =
    any_answers c.args.play c.args.text.now (file_of c.in-Ok.file) c.in-Ok.ensures.found tasks.Check (λ task so. subst (λ (p : Play). DoesSo p task) c.in-Check.is so)
    (link_use g.L.Links c.args.links.now c.args.links.now) (log_at c.args.version c.args.log.now) c.count.result c.count.ensures

pub returns-in-Check-clause-over : goal.returns-in-Check-clause-over
returns-in-Check-clause-over g c =
    let links = link_use g.L.Links c.args.links.now c.args.links.now in
    none_comes g.L.Out.OutLane g.L.In.InLane g.L.Links.joined links c.args.play c.args.text.now tasks.Check (λ task so. subst (λ (p : Play). DoesSo p task) c.in-Check.is so) (λ runs. runs)
    links (log_at c.args.version c.args.log.now) c.count.result (returns-in-Check-clause-answer g c)

pub returns-in-Show-clause-answer : goal.returns-in-Show-clause-answer
returns-in-Show-clause-answer g c =
    any_answers c.args.play c.args.text.now (file_of c.in-Ok.file) c.in-Ok.ensures.found tasks.Show (λ task so. subst (λ (p : Play). DoesSo p task) c.in-Show.is so)
    (link_use g.L.Links c.args.links.now c.args.links.now) (log_at c.args.version c.args.log.now) c.shown.result c.shown.ensures

pub returns-in-Show-clause-over : goal.returns-in-Show-clause-over
returns-in-Show-clause-over g c =
    let links = link_use g.L.Links c.args.links.now c.args.links.now in
    none_comes g.L.Out.OutLane g.L.In.InLane g.L.Links.joined links c.args.play c.args.text.now tasks.Show (λ task so. subst (λ (p : Play). DoesSo p task) c.in-Show.is so) (λ runs. runs)
    links (log_at c.args.version c.args.log.now) c.shown.result (returns-in-Show-clause-answer g c)

pub returns-in-Forest-clause-answer : goal.returns-in-Forest-clause-answer
returns-in-Forest-clause-answer g c =
    any_answers c.args.play c.args.text.now (file_of c.in-Ok.file) c.in-Ok.ensures.found tasks.Forest (λ task so. subst (λ (p : Play). DoesSo p task) c.in-Forest.is so)
    (link_use g.L.Links c.args.links.now c.args.links.now) (log_at c.args.version c.args.log.now) c.shape.result c.shape.ensures

pub returns-in-Forest-clause-over : goal.returns-in-Forest-clause-over
returns-in-Forest-clause-over g c =
    let links = link_use g.L.Links c.args.links.now c.args.links.now in
    none_comes g.L.Out.OutLane g.L.In.InLane g.L.Links.joined links c.args.play c.args.text.now tasks.Forest (λ task so. subst (λ (p : Play). DoesSo p task) c.in-Forest.is so) (λ runs. runs)
    links (log_at c.args.version c.args.log.now) c.shape.result (returns-in-Forest-clause-answer g c)

pub returns-in-Sim-clause-answer : goal.returns-in-Sim-clause-answer
returns-in-Sim-clause-answer g c =
    any_answers c.args.play c.args.text.now (file_of c.in-Ok.file) c.in-Ok.ensures.found tasks.Sim (λ task so. subst (λ (p : Play). DoesSo p task) c.in-Sim.is so)
    (link_use g.L.Links c.args.links.now c.args.links.now) (log_at c.args.version c.args.log.now) c.simulated_file.result c.simulated_file.ensures

pub returns-in-Sim-clause-over : goal.returns-in-Sim-clause-over
returns-in-Sim-clause-over g c =
    let links = link_use g.L.Links c.args.links.now c.args.links.now in
    none_comes g.L.Out.OutLane g.L.In.InLane g.L.Links.joined links c.args.play c.args.text.now tasks.Sim (λ task so. subst (λ (p : Play). DoesSo p task) c.in-Sim.is so) (λ runs. runs)
    links (log_at c.args.version c.args.log.now) c.simulated_file.result (returns-in-Sim-clause-answer g c)

pub returns-in-Forward-clause-answer : goal.returns-in-Forward-clause-answer
returns-in-Forward-clause-answer g c =
    any_answers c.args.play c.args.text.now (file_of c.in-Ok.file) c.in-Ok.ensures.found tasks.Forward (λ task so. subst (λ (p : Play). DoesSo p task) c.in-Forward.is so)
    (link_use g.L.Links c.args.links.now c.args.links.now) (log_at c.args.version c.args.log.now) c.forwarded_file.result c.forwarded_file.ensures

pub returns-in-Forward-clause-over : goal.returns-in-Forward-clause-over
returns-in-Forward-clause-over g c =
    let links = link_use g.L.Links c.args.links.now c.args.links.now in
    none_comes g.L.Out.OutLane g.L.In.InLane g.L.Links.joined links c.args.play c.args.text.now tasks.Forward (λ task so. subst (λ (p : Play). DoesSo p task) c.in-Forward.is so) (λ runs. runs)
    links (log_at c.args.version c.args.log.now) c.forwarded_file.result (returns-in-Forward-clause-answer g c)

pub returns-in-Replay-clause-answer : goal.returns-in-Replay-clause-answer
returns-in-Replay-clause-answer g c =
    log_answers c.args.play c.args.text.now (file_of c.in-Ok.file) c.in-Ok.ensures.found (tasks.Replay c.in-Replay.prints) (λ task so. subst (λ (p : Play). DoesSo p task) c.in-Replay.is so)
    (link_use g.L.Links c.args.links.now c.args.links.now) (log_at c.args.version c.args.log.now) c.ran_by_log.result c.ran_by_log.ensures

pub returns-in-Replay-clause-over : goal.returns-in-Replay-clause-over
returns-in-Replay-clause-over g c =
    let links = link_use g.L.Links c.args.links.now c.args.links.now in
    none_comes g.L.Out.OutLane g.L.In.InLane g.L.Links.joined links c.args.play c.args.text.now (tasks.Replay c.in-Replay.prints) (λ task so. subst (λ (p : Play). DoesSo p task) c.in-Replay.is so) (λ runs. runs)
    links (log_at c.args.version c.args.log.now) c.ran_by_log.result (returns-in-Replay-clause-answer g c)

pub returns-in-Talk-clause-answer : goal.returns-in-Talk-clause-answer
returns-in-Talk-clause-answer g c =
    talk_answers c.args.play c.args.text.now (file_of c.in-Ok.file) c.in-Ok.ensures.found (tasks.Talk c.in-Talk.party) (λ task so. subst (λ (p : Play). DoesSo p task) c.in-Talk.is so)
    (link_use g.L.Links c.args.links.now c.args.links.now) c.args.version c.args.log.now c.talked_file.result c.talked_file.ensures

pub returns-in-Talk-clause-over : goal.returns-in-Talk-clause-over
returns-in-Talk-clause-over g c =
    let links = link_use g.L.Links c.args.links.now c.args.links.now in
    none_comes g.L.Out.OutLane g.L.In.InLane g.L.Links.joined links c.args.play c.args.text.now (tasks.Talk c.in-Talk.party) (λ task so. subst (λ (p : Play). DoesSo p task) c.in-Talk.is so) (λ runs. runs)
    links (log_at c.args.version c.args.log.now) c.talked_file.result (returns-in-Talk-clause-answer g c)

pub returns-in-Run-clause-answer : goal.returns-in-Run-clause-answer
returns-in-Run-clause-answer g c =
    links_answers c.args.play c.args.text.now (file_of c.in-Ok.file) c.in-Ok.ensures.found _ c.in-Run.is
    (link_use g.L.Links c.args.links.now c.ran_by_links.new.links) (log_at c.args.version c.args.log.now) c.ran_by_links.result c.ran_by_links.ensures.answer

pub returns-in-Run-clause-over : goal.returns-in-Run-clause-over
returns-in-Run-clause-over g c =
    run_comes g.L.Out.OutLane g.L.In.InLane g.L.Links.joined (link_use g.L.Links c.args.links.now c.ran_by_links.new.links) c.args.play c.args.text.now (file_of c.in-Ok.file) _ c.in-Run.is
    c.ran_by_links.result c.in-Ok.ensures.found c.ran_by_links.ensures.over

pub returns-in-Run-clause-unused : goal.returns-in-Run-clause-unused
returns-in-Run-clause-unused g c task so = λ none. absurd (none (subst (λ (p : Play). DoesSo p task) c.in-Run.is so).0)
