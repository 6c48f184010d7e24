use Rattle.std.proofs.Common.{◌∙◌, Bool, ℕ, ap, map, subst}
use Rattle.sj_core.specs.Views.{line_at}
use Rattle.sj_lang.specs.FileAt.{FileAt}
use Rattle.sj_seats.specs.Calls.{OpenedAs}
use Rattle.sj_seats.specs.Openings.{opened_by}
use Rattle.sj_seats.specs.Played.{chairs_in, file_in}
use Rattle.sj_seats.specs.Core.{is_seat}
use Rattle.sj_seats.specs.Replaying.{IsMisfitFrom}
use Rattle.sj_seats.specs.Seated.{seat_in}
use Rattle.sj_seats.proofs.ReplayLemmas.{run_told}
use Rattle.sj_seats.proofs.seated.SeatedWorld.replayed.Goals as goal

pub returns-in-Ok-clause-run : goal.returns-in-Ok-clause-run
returns-in-Ok-clause-run c = run_told c.in-Ok.played_world c.in-Ok.ensures.reached

pub returns-in-Err-clause-misfit : goal.returns-in-Err-clause-misfit
returns-in-Err-clause-misfit c =
    let begun = c.in_ok-played_world in
    let lines = map line_at c.args.lines.items in
    let told = opened_by c.args.opened.items in
    subst (λ (f : FileAt). IsMisfitFrom f (seat_in c.args.seats.now) told lines c.in-Err.refusal) begun.ensures.file
    (subst (λ (s : ℕ → Bool). IsMisfitFrom (file_in begun.played_world) s told lines c.in-Err.refusal) (λ i q. begun.ensures.seats q i)
    (subst (λ (o : OpenedAs). IsMisfitFrom (file_in begun.played_world) (is_seat (chairs_in begun.played_world)) o lines c.in-Err.refusal) (λ i q s. begun.ensures.opened q s i) c.in-Err.ensures.misfit))

pub returns-in-Ok-clause-opened : goal.returns-in-Ok-clause-opened
returns-in-Ok-clause-opened c = λ q e. ap (λ (o : OpenedAs). o q e) c.in-Ok.ensures.keeps.opened ∙ c.in_ok-played_world.ensures.opened q e
