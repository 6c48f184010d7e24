use Rattle.std.proofs.Common.{ℕ, ap, arith, ◌∙◌}
use Rattle.sj_seat_told_laws.specs.SeatsOpened.{sessions_told}
use Rattle.sj_seats.specs.Seated.{history_of}
use Rattle.sj_seat_told.proofs.OpenedLemmas.{opened_at_end, party_added}
use Rattle.sj_seat_told.proofs.sessions.opened.Goals as goal

pub loop-party-init : goal.loop-party-init
loop-party-init c = c.new-all.ensures.items

pub loop-party-preserved : goal.loop-party-preserved
loop-party-preserved c = party_added _ _ c.loop-party.party _ _ c.history.ensures c.loop-party.invariant c.in_ok-add_opened.ensures

pub returns-clause-seen : goal.returns-clause-seen
returns-clause-seen c = c.loop-party.invariant ∙ ap (λ (n : ℕ). sessions_told (history_of c.args.world.now) n 0) (omega arith)

pub returns-clause-end : goal.returns-clause-end
returns-clause-end c = λ file t quiet end.
    opened_at_end file c.args.world.now t c.loop-party.all.items quiet end (c.loop-party.invariant ∙ ap (λ (n : ℕ). sessions_told (history_of c.args.world.now) n 0) (omega arith))
