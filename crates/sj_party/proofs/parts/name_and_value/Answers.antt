use Rattle.std.proofs.Common.{[], ◌∷◌, refl}
use Rattle.sj_lang.specs.CodeView.{term_of}
use Rattle.sj_grammar.specs.ExpressionDues.{whole}
use Rattle.sj_grammar.specs.FileDues.{name, expr}
use Rattle.sj_proto.specs.Parsed.{standing}
use Rattle.sj_party.specs.Parts.{a_name, an_expression}
use Rattle.sj_party.proofs.PartLemmas.{stops_behind, parts_on}
use Rattle.sj_party.proofs.parts.name_and_value.Goals as goal

pub returns-in_err-name-clause-fault : goal.returns-in_err-name-clause-fault
returns-in_err-name-clause-fault c =
    let a = standing c.args.tokens.now c.args.names.now in
    stops_behind _ c.in_err-name.field-0.0 [] a a (λ ds. name ∷ ds) (λ ds. expr whole ∷ ds) c.from_residual.ensures.1 refl c.in_err-name.ensures.fault

pub returns-in_err-value-clause-fault : goal.returns-in_err-value-clause-fault
returns-in_err-value-clause-fault c =
    let a = standing c.args.tokens.now c.args.names.now in
    let m = standing c.one_name.new.tokens c.one_name.new.names in
    stops_behind _ c.in_err-value.field-0.0 (a_name c.in_ok-name.name ∷ []) a m (λ ds. expr whole ∷ ds) (λ ds. ds) c.from_residual-in_err-value.ensures.1 c.in_ok-name.ensures.reads c.in_err-value.ensures.fault

pub returns-clause-reads : goal.returns-clause-reads
returns-clause-reads c =
    let a = standing c.args.tokens.now c.args.names.now in
    let m = standing c.one_name.new.tokens c.one_name.new.names in
    let b = standing c.parse_expression.new.tokens c.parse_expression.new.names in
    parts_on (a_name c.in_ok-name.name ∷ []) (an_expression (term_of c.in_ok-value.value) ∷ []) a m b c.in_ok-name.ensures.reads (b, c.in_ok-value.ensures.reads, refl)
