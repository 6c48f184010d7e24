use Rattle.sj_seat_local.proofs.PlayedLemmas.{told_so}
use Rattle.sj_seat_local.proofs.playing.tell.Goals as goal

pub returns-in-Ok : goal.returns-in-Ok
returns-in-Ok g c =
    told_so (g.K.Sink.written c.args.out.now) (g.K.Sink.written c.said.new.out) c.deref.result.now c.in-Ok.told c.args.told.now c.status_of.result c.said.result c.in-Ok.is c.deref.ensures.value c.status_of.ensures c.said.ensures
