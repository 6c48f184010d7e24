use Rattle.std.proofs.Common.{arith}
use Rattle.sj_machine.proofs.machine.Machine.closed.Goals as goal

pub invariant_of-self : goal.invariant_of-self
invariant_of-self c = record {
  back = c.self.invariant.back;
  fits = c.closed.ensures.fits;
  frames_room = omega arith;
  named = c.self.invariant.named;
  once = c.closed.ensures.once _ c.self.invariant.once;
  names_room = omega arith;
  few = c.self.invariant.few;
}
