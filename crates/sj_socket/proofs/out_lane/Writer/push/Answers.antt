use Rattle.std.proofs.Common.{refl}
use Rattle.sj_end.specs.Views.{frame_at}
use Rattle.sj_wire.specs.Spelling.{spelling}
use Rattle.sj_socket.proofs.StreamLemmas.{writes_more}
use Rattle.sj_socket.proofs.out_lane.Writer.push.Goals as goal

pub returns-in-Ok-flush-clause-ok : goal.returns-in-Ok-flush-clause-ok
returns-in-Ok-flush-clause-ok g c =
    writes_more _ c.args.self.now c.flush.new.self (record c.flush.new.self { rest = c.in-Ok.bytes; gone = 0 }) c.flush-2.new.self (spelling (frame_at c.args.frame.now)) c.flush.ensures.bytes (c.in-Ok-true.ensures.all c.in-Ok-true.field-0-test) refl c.in-Ok.ensures.ok c.flush-2.ensures.bytes
