use Rattle.std.proofs.Common.{◌∙◌, ap}
use Rattle.std.specs.FinMap as finite
use Rattle.sj_acceptance.specs.Sameness.{is_same_ends}
use Rattle.sj_check.specs.SpotEnv.{SpotEnv, places_at}
use Rattle.sj_check.proofs.SeenLemmas.{has_none_live}
use Rattle.sj_check.proofs.env.Env.has_no_ends.Goals as goal

pub returns : goal.returns
returns c = λ t.
    has_none_live t c.self.inside.spots c.is_empty.result c.is_empty.ensures ∙ ap (λ (e : SpotEnv). is_same_ends (places_at t e.spots) finite.empty) c.self.view_is
