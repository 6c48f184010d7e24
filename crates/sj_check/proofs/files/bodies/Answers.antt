use Rattle.std.proofs.Common.{◌∙◌}
use Rattle.sj_check.specs.Seen.{defs_in, names_in}
use Rattle.sj_check.specs.Views.{connects_of}
use Rattle.std.proofs.lemmas.Result.{err_from_is_err_and}
use Rattle.sj_check.proofs.BodyLemmas.{body-fault, body-passes}
use Rattle.sj_check.proofs.files.bodies.Goals as goal

pub returns-in_err-body : goal.returns-in_err-body
returns-in_err-body c = let p = err_from_is_err_and c.from_residual.result c.from_residual.ensures.1 in rw (p.1, p.2) (body-fault (defs_in c.args.protocols.now) (names_in c.args.protocols.now) (connects_of c.args.connects.now) c.args.parties.now c.loop-party.party-index c.party-item.result c.loop-party-test.true c.party-item.is _ _ c.loop-party.invariant c.in_err-body.ensures)

pub loop-party-preserved : goal.loop-party-preserved
loop-party-preserved c =
    body-passes (defs_in c.args.protocols.now) (names_in c.args.protocols.now) (connects_of c.args.connects.now) c.args.parties.now c.loop-party.party-index c.party-item.result c.loop-party-test.true c.party-item.is c.in_ok-body.ensures ∙ c.loop-party.invariant
