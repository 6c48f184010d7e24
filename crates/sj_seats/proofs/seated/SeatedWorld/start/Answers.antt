use Rattle.std.proofs.Common.{◌∙◌, ap}
use Rattle.sj_seats.specs.Openings.{opened_by}
use Rattle.sj_seats.proofs.BeginningLemmas.{none_opened}
use Rattle.sj_seats.proofs.ReplayLemmas.{run_told}
use Rattle.sj_seats.proofs.seated.SeatedWorld.start.Goals as goal

pub returns-clause-run : goal.returns-clause-run
returns-clause-run c = run_told c.in_ok-played_world.played_world c.in_ok-played_world.ensures.reached

pub returns-clause-opened : goal.returns-clause-opened
returns-clause-opened c = λ q e. c.in_ok-played_world.ensures.opened q e ∙ ap (λ os. opened_by os q e) c.new.ensures.items ∙ none_opened q e
