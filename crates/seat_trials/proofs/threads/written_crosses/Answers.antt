use denote.Param.Send.{sendable}
use denote.Param.SendFields.{declared_send}
use Rattle.std.proofs.option.Option.TheSendSync as option
use Rattle.std.proofs.alloc.Global.TheSendSync as global
use Rattle.seat_trials.proofs.why.Why.TheSendSync as why
use Rattle.seat_trials.specs.contracts.written.Written as written
use Rattle.seat_trials.proofs.threads.written_crosses.Goals as goal

pub returns : goal.returns
returns c =
    declared_send written.the_type
    (search (global.the_send, sendable) depth 20, (c.machine_crosses.ensures, (search sendable, (search sendable, (search (option.the_send, why.the_send, sendable) depth 20, tt)))))
