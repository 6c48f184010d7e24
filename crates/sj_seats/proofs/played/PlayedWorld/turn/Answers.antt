use Rattle.sj_core.proofs.RoundLemmas.{on_ok}
use Rattle.sj_seats.proofs.ListingLemmas.{goes_turn}
use Rattle.sj_seats.proofs.played.PlayedWorld.turn.Goals as goal

pub returns-clause-goes : goal.returns-clause-goes
returns-clause-goes c =
    on_ok c.acts_if_written.result
    (λ acts. goes_turn c.args.self.now c.take_each.new.self c.acts_if_written.new.self c.args.party c.in_ok-take_each.ensures.goes acts)
    c.acts_if_written.ensures.goes
