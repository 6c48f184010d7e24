use Rattle.std.proofs.Common.{[], arith}
use Rattle.sj_plain.proofs.UseLemmas.{first_hops, second_hops}
use Rattle.sj_plain.proofs.ends.Session.hand_on.Goals as goal

pub overflow_add-self : goal.overflow_add-self
overflow_add-self c = omega (arith, c.requires ([], []), first_hops ([], []) c.args.side c.args.self.now (omega (arith, c.if-side-eq0.true)))

pub overflow_add-self-else-side-eq0 : goal.overflow_add-self-else-side-eq0
overflow_add-self-else-side-eq0 c = omega (arith, c.requires ([], []), second_hops ([], []) c.args.side c.args.self.now (λ e. absurd (omega (arith, c.if-side-eq0.false, e))))
