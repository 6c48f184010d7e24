use Rattle.std.proofs.Common.{[], ◌∷◌, refl, subst}
use Rattle.std.specs.Prelude.{codes}
use Rattle.sj_grammar.specs.declared.refusal.ParseRefusal.TheVariants as refusals
use Rattle.sj_lang.specs.Limits.{limits}
use Rattle.sj_grammar.specs.Reading.{Reading}
use Rattle.sj_grammar.specs.Tables.{IsNamed}
use Rattle.sj_grammar.specs.Positions.{At, Takes}
use Rattle.sj_grammar.specs.FileDues.{awaited}
use Rattle.sj_grammar.specs.Asked.{Refuses, but}
use Rattle.sj_proto.specs.Parsed.{standing, Gives}
use Rattle.sj_proto.proofs.ExitLemmas.{plain, from_left}
use Rattle.sj_party.proofs.PartLemmas.{stops_behind}
use Rattle.sj_party.proofs.AwaitedLemmas.{no_name_session, took_scalar, awaited_stops, session_stops}
use Rattle.sj_party.proofs.parts.take_awaited.Goals as goal

pub returns-in-Some-clause-reads : goal.returns-in-Some-clause-reads
returns-in-Some-clause-reads c = (
  standing c.take_scalar.new.tokens c.args.names.now,
  took_scalar c.in-Some.kind c.args.tokens.now c.take_scalar.new.tokens c.args.names.now c.in-Some.ensures.taken,
  refl,
)

pub returns-in_err-expect-clause-fault : goal.returns-in_err-expect-clause-fault
returns-in_err-expect-clause-fault c =
    let a = standing c.args.tokens.now c.args.names.now in
    let f = c.in_err-expect.field-0.0 in
    let none = c.in_default.ensures in
    stops_behind _ (refusals.At f) [] a a (λ ds. awaited ∷ ds) (λ ds. ds) c.from_residual.ensures.1 refl
    (awaited_stops c.args.tokens.now c.args.names.now none.int none.boolean none.text f (subst (λ (r : Reading). Refuses (but (codes "session")) r f) none.kept c.in_err-expect.ensures.fault))

pub returns-in_err-protocol-clause-fault : goal.returns-in_err-protocol-clause-fault
returns-in_err-protocol-clause-fault c =
    let a = standing c.args.tokens.now c.args.names.now in
    let m = standing c.expect.new.self c.args.names.now in
    let taken : Takes a (codes "session") m = plain c.args.tokens.now c.expect.new.self c.args.names.now (codes "session") no_name_session refl (from_left _ _ _ _ c.in_default.ensures.kept c.in_ok-expect.ensures.ok) in
    stops_behind _ c.in_err-protocol.field-0.0 [] a a (λ ds. awaited ∷ ds) (λ ds. ds) c.from_residual-in_err-protocol.ensures.1 refl
    (session_stops a m c.in_err-protocol.field-0.0 taken c.in_err-protocol.ensures.fault)

pub returns-clause-reads : goal.returns-clause-reads
returns-clause-reads c =
    let a = standing c.args.tokens.now c.args.names.now in
    let m = standing c.expect.new.self c.args.names.now in
    let b = standing c.one_name.new.tokens c.one_name.new.names in
    let p = c.in_ok-protocol.protocol in
    let taken : Takes a (codes "session") m = plain c.args.tokens.now c.expect.new.self c.args.names.now (codes "session") no_name_session refl (from_left _ _ _ _ c.in_default.ensures.kept c.in_ok-expect.ensures.ok) in
    let r = c.in_ok-protocol.ensures.reads in
    (b, (m, taken, subst (λ (x : At). Gives m x (λ word. word p ∷ []) (λ word. IsNamed limits word p)) r.2 r.1), refl)
