use Rattle.std.proofs.Common.{option_map, ap, ◌∙◌}
use Rattle.sj_forward.specs.Ends.{Rows, held_in}
use Rattle.sj_forward.specs.Views.{use_of}
use Rattle.sj_forward.proofs.TakeLemmas.{can_take}
use Rattle.sj_forward.proofs.ResultLemmas.{on_ok}
use Rattle.sj_forward.proofs.forwarder.Forwarder.room_to_take.Goals as goal

pub returns-in-Some-first-clause-room : goal.returns-in-Some-first-clause-room
returns-in-Some-first-clause-room c =
    let told = c.in-Some.ensures ∙ ap (λ (rows : Rows). option_map use_of (held_in rows c.args.end)) c.deref.ensures.value in
    on_ok c.room_to_claim.result (can_take c.args.self.now c.room_to_claim.new.self c.args.end c.in-Some.used c.in-Some-first.sent c.room_to_claim.ensures.same told c.in-Some-first.is)
    c.room_to_claim.ensures.room
