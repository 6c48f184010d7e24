-- Where a reader returns.
use Rattle.std.proofs.Common.{◌≡◌, Result, IfErr}
use Rattle.std.specs.Prelude.{IsErrAnd}
use Rattle.sj_grammar.specs.declared.tokens.Fault.{Fault}
use Rattle.sj_grammar.specs.declared.refusal.ParseRefusal.{ParseRefusal}
use Rattle.sj_grammar.specs.Refusals.{OnFault}
use Rattle.sj_proto.proofs.ExitLemmas.{err_as, on_fault_map}

-- a refusal that is passed on
pub err_fault : {X : Type 0} (r : Result X ParseRefusal) (e : ParseRefusal) (P Q : Fault → Type 0) → IsErrAnd r (λ d. d ≡ e) → ((f : Fault) → P f → Q f) → OnFault P e → IfErr r (OnFault Q)
err_fault r e P Q same h p = err_as r e (OnFault Q) same (on_fault_map P Q e h p)
