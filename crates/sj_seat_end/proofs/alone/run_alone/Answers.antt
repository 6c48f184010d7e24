use Rattle.std.proofs.Common.{ℕ, Bool, arith, subst}
use Rattle.sj_check.specs.Held.{file_in}
use Rattle.sj_lang.specs.FileView.{file_of}
use Rattle.sj_seat_end.specs.Told.{IsAfterRun, IsAtEnd}
use Rattle.sj_seat_run.specs.Refusals.{IsRefusedOver}
use Rattle.sj_seat_end.proofs.AloneLemmas.{same_seats}
use Rattle.sj_seat_end.proofs.alone.run_alone.Goals as goal

pub swap_remove-requires : goal.swap_remove-requires
swap_remove-requires g c = let many = c.in-Ok-run_to_end.ensures.codes.count in let there = c.requires in omega (arith, many, there)

pub returns-in-Some-clause-end : goal.returns-in-Some-clause-end
returns-in-Some-clause-end g c =
    subst (λ (seats : ℕ → Bool). IsAtEnd (file_of (file_in c.args.accepted.now)) seats c.in-Ok-run_to_end.end.world)
    (same_seats c.args.party c.in-Ok.codes.items c.in-Ok.ensures) c.in-Ok-run_to_end.ensures.end

pub returns-in-Some-clause-logged : goal.returns-in-Some-clause-logged
returns-in-Some-clause-logged g c =
    subst (λ (seats : ℕ → Bool). IsAfterRun g.L.Out.OutLane g.L.In.InLane g.L.Links.joined (file_of (file_in c.args.accepted.now)) c.args.looks (g.L.Links.tells c.args.links.now) seats c.in-Ok-run_to_end.end.world)
    (same_seats c.args.party c.in-Ok.codes.items c.in-Ok.ensures) c.in-Ok-run_to_end.ensures.logged

pub returns-in-Err-run_to_end-clause-cause : goal.returns-in-Err-run_to_end-clause-cause
returns-in-Err-run_to_end-clause-cause g c =
    subst (λ (seats : ℕ → Bool). IsRefusedOver g.L.Out.OutLane g.L.In.InLane g.L.Links.joined (file_of (file_in c.args.accepted.now)) c.args.looks (g.L.Links.tells c.args.links.now) seats c.in-Err-run_to_end.refusal)
    (same_seats c.args.party c.in-Ok.codes.items c.in-Ok.ensures) c.in-Err-run_to_end.ensures.cause
