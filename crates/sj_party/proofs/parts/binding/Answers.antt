use Rattle.std.proofs.Common.{[], ◌∷◌, refl}
use Rattle.std.specs.Prelude.{codes}
use Rattle.sj_lang.specs.CodeView.{term_of}
use Rattle.sj_grammar.specs.declared.refusal.ParseRefusal.TheVariants as refusals
use Rattle.sj_grammar.specs.ExpressionDues.{whole}
use Rattle.sj_grammar.specs.FileDues.{name, fixed, expr}
use Rattle.sj_proto.specs.Parsed.{standing}
use Rattle.sj_proto.proofs.ExitLemmas.{plain}
use Rattle.sj_party.specs.Parts.{a_name, an_expression, a_piece}
use Rattle.sj_party.proofs.PartLemmas.{stops_behind, parts_on, piece_stops}
use Rattle.sj_party.proofs.parts.binding.Goals as goal

pub returns-in_err-name-clause-fault : goal.returns-in_err-name-clause-fault
returns-in_err-name-clause-fault c =
    let a = standing c.args.tokens.now c.args.names.now in
    stops_behind _ c.in_err-name.field-0.0 [] a a (λ ds. name ∷ ds) (λ ds. fixed (codes "=") ∷ expr whole ∷ ds) c.from_residual.ensures.1 refl c.in_err-name.ensures.fault

pub returns-in_err-expect-clause-fault : goal.returns-in_err-expect-clause-fault
returns-in_err-expect-clause-fault c =
    let a = standing c.args.tokens.now c.args.names.now in
    let m = standing c.one_name.new.tokens c.one_name.new.names in
    let f = c.in_err-expect.field-0.0 in
    stops_behind _ (refusals.At f) (a_name c.in_ok-name.name ∷ []) a m (λ ds. fixed (codes "=") ∷ ds) (λ ds. expr whole ∷ ds) c.from_residual-in_err-expect.ensures.1 c.in_ok-name.ensures.reads
    (piece_stops (codes "=") c.one_name.new.tokens c.one_name.new.names f refl c.in_err-expect.ensures.fault)

pub returns-in_err-value-clause-fault : goal.returns-in_err-value-clause-fault
returns-in_err-value-clause-fault c =
    let a = standing c.args.tokens.now c.args.names.now in
    let m = standing c.one_name.new.tokens c.one_name.new.names in
    let u = standing c.expect.new.self c.one_name.new.names in
    let taken = plain c.one_name.new.tokens c.expect.new.self c.one_name.new.names (codes "=") refl refl c.in_ok-expect.ensures.ok in
    stops_behind _ c.in_err-value.field-0.0 (a_name c.in_ok-name.name ∷ a_piece (codes "=") ∷ []) a u (λ ds. expr whole ∷ ds) (λ ds. ds) c.from_residual-in_err-value.ensures.1
    (parts_on (a_name c.in_ok-name.name ∷ []) (a_piece (codes "=") ∷ []) a m u c.in_ok-name.ensures.reads (u, taken, refl)) c.in_err-value.ensures.fault

pub returns-clause-reads : goal.returns-clause-reads
returns-clause-reads c =
    let a = standing c.args.tokens.now c.args.names.now in
    let m = standing c.one_name.new.tokens c.one_name.new.names in
    let u = standing c.expect.new.self c.one_name.new.names in
    let b = standing c.parse_expression.new.tokens c.parse_expression.new.names in
    let taken = plain c.one_name.new.tokens c.expect.new.self c.one_name.new.names (codes "=") refl refl c.in_ok-expect.ensures.ok in
    parts_on (a_name c.in_ok-name.name ∷ []) (a_piece (codes "=") ∷ an_expression (term_of c.in_ok-value.value) ∷ []) a m b c.in_ok-name.ensures.reads (u, taken, (b, c.in_ok-value.ensures.reads, refl))
