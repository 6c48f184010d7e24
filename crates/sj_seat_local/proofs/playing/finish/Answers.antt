use Rattle.sj_seat_local.proofs.PlayedLemmas.{told_last}
use Rattle.sj_seat_local.proofs.playing.finish.Goals as goal

pub returns : goal.returns
returns g c = told_last g.K.Sink.written (g.K.Sink.written c.args.sink) c.tell-status.new.out c.args.told c.tell-status.result c.tell-status.ensures
