use Rattle.std.proofs.Common.{option_map, ap, ◌∙◌}
use Rattle.sj_forward.specs.Ends.{Rows, held_in}
use Rattle.sj_forward.specs.Views.{use_of}
use Rattle.sj_forward.proofs.ActLemmas.{room_sent}
use Rattle.sj_forward.proofs.forwarder.Forwarder.send.Goals as goal

pub put_frame-requires : goal.put_frame-requires
put_frame-requires c =
    room_sent c.args.self.now c.args.end c.in-Some.used c.requires.room (c.in-Some.ensures ∙ ap (λ (rows : Rows). option_map use_of (held_in rows c.args.end)) c.deref.ensures.value)
