use Rattle.std.proofs.Common.{ap, sym, ◌∙◌, subst}
use Rattle.sj_rules.specs.Node.{ended}
use Rattle.sj_seat.specs.Holding.{ends_at}
use Rattle.sj_seat_told.specs.Standing.{IsNodeStand}
use Rattle.sj_seat_told_laws.specs.FirstOpen.{first_open}
use Rattle.sj_seat_told_laws.specs.StillSeats.{still_by_open}
use Rattle.sj_seat_told.proofs.StandLemmas.{by_code, by_file}
use Rattle.sj_seats.specs.Seated.{table_of}
use Rattle.sj_table.specs.declared.table.Table.{Table}
use Rattle.sj_told.specs.declared.told.Stand.{Stand}
use Rattle.sj_seat_told.proofs.standing.stand_at.Goals as goal

pub returns-in-Some : goal.returns-in-Some
returns-in-Some c =
    let held = c.in-Some.ends.now in
    by_code c.args.world.now c.args.party (ends_at (table_of c.args.world.now) held) (record { steps = c.calls-steps.result; state = c.state_by_ends-state.result }) (sym c.in-Some.ensures) c.calls-steps.ensures
    (c.state_by_ends-state.ensures ∙ ap (λ (t : Table). still_by_open c.calls-steps.result ended (first_open (ends_at t held))) c.table.ensures)

pub returns-in-None : goal.returns-in-None
returns-in-None c =
    subst (λ (s : Stand). IsNodeStand c.args.world.now c.args.party s) (sym c.stand_of.ensures) (by_file c.args.world.now c.args.party c.node.result.now c.node.ensures (sym c.in-None.ensures))
