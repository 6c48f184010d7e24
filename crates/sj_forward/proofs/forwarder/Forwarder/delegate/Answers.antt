use Rattle.std.proofs.Common.{option_map, ap, ◌∙◌}
use Rattle.sj_forward.specs.Ends.{Rows, held_in}
use Rattle.sj_forward.specs.Views.{use_of}
use Rattle.sj_forward.proofs.DelegateLemmas.{carrier_held, carrier_room, delegates_so}
use Rattle.sj_forward.proofs.forwarder.Forwarder.delegate.Goals as goal

pub send-requires-clause-fits : goal.send-requires-clause-fits
send-requires-clause-fits c = carrier_held c.args.self.now c.park.new.ends c.args.party c.args.carrier c.args.end c.requires.fits c.park.ensures

pub send-requires-clause-room : goal.send-requires-clause-room
send-requires-clause-room c = carrier_room c.args.self.now c.park.new.ends c.args.party c.args.carrier c.args.end c.requires.fits c.park.ensures c.requires.room

pub returns : goal.returns
returns c =
    delegates_so c.args.self.now c.park.new.ends c.args.party c.args.carrier c.args.end c.requires.fits c.park.ensures c.in-Some.used c.send.new.self
    (c.in-Some.ensures ∙ ap (λ (rows : Rows). option_map use_of (held_in rows c.args.end)) c.deref.ensures.value) c.send.ensures
