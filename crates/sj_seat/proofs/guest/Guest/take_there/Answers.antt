use Rattle.std.proofs.Common.{refl, subst}
use Rattle.sj_node.specs.Node.{next_head}
use Rattle.sj_seat_laws.specs.Calls.{Call, place_held}
use Rattle.sj_seat.specs.Views.{ends_of}
use Rattle.sj_seat.specs.Went.{IsHeldUp}
use Rattle.sj_seat.proofs.PickLemmas.{cut_short, head_at_end}
use Rattle.sj_seat.proofs.guest.Guest.take_there.Goals as goal

pub returns-in-Err-attempt-clause-cause : goal.returns-in-Err-attempt-clause-cause
returns-in-Err-attempt-clause-cause g c =
    let a = c.args.self.now in
    let m = c.attempt.new.self in
    let e = c.args.end in
    let why = c.in-Err-attempt.refusal in
    let h = c.in-Err-attempt.ensures in
    cut_short m e (place_held (ends_of m) e) why (head_at_end a.worker.node m.worker.node e (next_head a.worker.node e) refl c.requires.there h.stays) refl
    (subst (λ (d : Call). IsHeldUp why d m) c.in-Ok.ensures.call h.cause)

pub returns-in-Err-attempt-clause-err : goal.returns-in-Err-attempt-clause-err
returns-in-Err-attempt-clause-err g c = c.in-Err-attempt.ensures.err

pub returns-in-Err-attempt-clause-stays : goal.returns-in-Err-attempt-clause-stays
returns-in-Err-attempt-clause-stays g c = c.in-Err-attempt.ensures.stays

pub returns-in-Err-attempt-clause-rests : goal.returns-in-Err-attempt-clause-rests
returns-in-Err-attempt-clause-rests g c = c.in-Err-attempt.ensures.rests

pub returns-in-Err-attempt-clause-keeps : goal.returns-in-Err-attempt-clause-keeps
returns-in-Err-attempt-clause-keeps g c = c.in-Err-attempt.ensures.keeps
