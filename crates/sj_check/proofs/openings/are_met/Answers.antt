use Rattle.std.proofs.Common.{◌∙◌}
use Rattle.std.proofs.lemmas.Result.{err_from_is_err_and}
use Rattle.sj_check.specs.Views.{protocols_of}
use Rattle.sj_check.proofs.OpeningLemmas.{accepts-fault, accepts-pass}
use Rattle.sj_check.proofs.openings.are_met.Goals as goal

pub returns-in_err-accepts_met : goal.returns-in_err-accepts_met
returns-in_err-accepts_met c = let p = err_from_is_err_and c.from_residual.result c.from_residual.ensures.1 in rw (p.1, p.2) (accepts-fault (protocols_of c.args.protocols.now) c.args.all.now c.loop-own.own-index c.own-item.result c.loop-own-test.true c.own-item.is _ _ c.loop-own.invariant c.in_err-accepts_met.ensures)

pub loop-own-preserved : goal.loop-own-preserved
loop-own-preserved c = accepts-pass (protocols_of c.args.protocols.now) c.args.all.now c.loop-own.own-index c.own-item.result c.loop-own-test.true c.own-item.is c.in_ok-accepts_met.ensures ∙ c.loop-own.invariant
