use Rattle.std.proofs.Common.{◌∙◌, zero}
use Rattle.std.proofs.lemmas.Result.{err_from_is_err_and}
use Rattle.sj_lang.specs.declared.file.Connect.{Connect}
use Rattle.sj_acceptance.specs.FileTests.{party_names}
use Rattle.sj_check.specs.Views.{protocols_of, parties_of}
use Rattle.sj_check.proofs.ConnectLemmas.{connect-fault, connect-passes}
use Rattle.sj_check.proofs.ends.connections.Goals as goal

abbrev none : Connect
none = record { line = zero; first = record { party = zero; name = zero; protocol = zero }; second = record { party = zero; name = zero; protocol = zero } }

pub returns-in_err-connection : goal.returns-in_err-connection
returns-in_err-connection c = let p = err_from_is_err_and c.from_residual.result c.from_residual.ensures.1 in rw (p.1, p.2) (connect-fault (party_names (parties_of c.args.parties.now)) (protocols_of c.args.protocols.now) c.args.connects.now c.loop-i.i none c.loop-i-test.true _ _ c.loop-i.invariant c.in_err-connection.ensures)

pub loop-i-preserved : goal.loop-i-preserved
loop-i-preserved c = connect-passes (party_names (parties_of c.args.parties.now)) (protocols_of c.args.protocols.now) c.args.connects.now c.loop-i.i none c.loop-i-test.true c.in_ok-connection.ensures ∙ c.loop-i.invariant
