use Rattle.sj_grammar.specs.declared.refusal.ParseRefusal.TheVariants as refusals
use Rattle.sj_grammar.specs.Refusals.{OnFault}
use Rattle.sj_proto.specs.Protocols.{IsFirstFault}
use Rattle.sj_proto.proofs.ExitLemmas.{err_as}
use Rattle.sj_proto.proofs.TextLemmas.{first_fault, behind_fault, protocol_is, refused_none, one_protocol}
use Rattle.sj_proto.proofs.protocols.parse_protocol.Goals as goal

pub returns-in_err-p-clause-fault : goal.returns-in_err-p-clause-fault
returns-in_err-p-clause-fault c =
    err_as c.from_residual.result c.in_err-p.field-0.0 (OnFault (IsFirstFault c.args.bytes.now c.args.names.now)) c.from_residual.ensures.1
    (first_fault c.args.bytes.now c.args.names.now c.over-tokens.result c.over-tokens.ensures c.in_err-p.field-0.0 c.in_err-p.ensures.fault)

pub returns-in_err-p-clause-only : goal.returns-in_err-p-clause-only
returns-in_err-p-clause-only c =
    refused_none (λ q. q) c.args.bytes.now c.args.names.now c.from_residual.result c.in_err-p.field-0.0 c.from_residual.ensures.1
    (first_fault c.args.bytes.now c.args.names.now c.over-tokens.result c.over-tokens.ensures c.in_err-p.field-0.0 c.in_err-p.ensures.fault)

pub returns-in_err-finish-clause-fault : goal.returns-in_err-finish-clause-fault
returns-in_err-finish-clause-fault c =
    err_as c.from_residual-in_err-finish.result (refusals.At c.in_err-finish.field-0.0) (OnFault (IsFirstFault c.args.bytes.now c.args.names.now)) c.from_residual-in_err-finish.ensures.1
    (behind_fault c.args.bytes.now c.args.names.now c.over-tokens.result c.over-tokens.ensures c.body.new.names c.body.new.tokens c.in_ok-p.p c.in_ok-p.ensures.reads c.in_err-finish.field-0.0 c.in_ok-p.ensures.ends
    c.in_err-finish.ensures.some c.in_err-finish.ensures.fault)

pub returns-in_err-finish-clause-only : goal.returns-in_err-finish-clause-only
returns-in_err-finish-clause-only c =
    refused_none (λ q. q) c.args.bytes.now c.args.names.now c.from_residual-in_err-finish.result (refusals.At c.in_err-finish.field-0.0) c.from_residual-in_err-finish.ensures.1
    (behind_fault c.args.bytes.now c.args.names.now c.over-tokens.result c.over-tokens.ensures c.body.new.names c.body.new.tokens c.in_ok-p.p c.in_ok-p.ensures.reads c.in_err-finish.field-0.0 c.in_ok-p.ensures.ends
    c.in_err-finish.ensures.some c.in_err-finish.ensures.fault)

pub returns-clause-found : goal.returns-clause-found
returns-clause-found c = protocol_is c.args.bytes.now c.args.names.now c.over-tokens.result c.over-tokens.ensures c.body.new.names c.body.new.tokens c.in_ok-p.p c.in_ok-p.ensures.reads c.in_ok-finish.ensures.ok

pub returns-clause-only : goal.returns-clause-only
returns-clause-only c = λ p new is. (
  (one_protocol c.args.bytes.now c.args.names.now c.body.new.names new c.in_ok-p.p p
      (protocol_is c.args.bytes.now c.args.names.now c.over-tokens.result c.over-tokens.ensures c.body.new.names c.body.new.tokens c.in_ok-p.p c.in_ok-p.ensures.reads c.in_ok-finish.ensures.ok) is).0,
  tt,
)
