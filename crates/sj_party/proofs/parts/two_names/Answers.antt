use Rattle.std.proofs.Common.{[], ◌∷◌, refl}
use Rattle.sj_grammar.specs.FileDues.{name}
use Rattle.sj_proto.specs.Parsed.{standing}
use Rattle.sj_party.specs.Parts.{a_name}
use Rattle.sj_party.proofs.PartLemmas.{stops_behind, parts_on}
use Rattle.sj_party.proofs.parts.two_names.Goals as goal

pub returns-in_err-first-clause-fault : goal.returns-in_err-first-clause-fault
returns-in_err-first-clause-fault c =
    let a = standing c.args.tokens.now c.args.names.now in
    stops_behind _ c.in_err-first.field-0.0 [] a a (λ ds. name ∷ ds) (λ ds. name ∷ ds) c.from_residual.ensures.1 refl c.in_err-first.ensures.fault

pub returns-in_err-second-clause-fault : goal.returns-in_err-second-clause-fault
returns-in_err-second-clause-fault c =
    let a = standing c.args.tokens.now c.args.names.now in
    let m = standing c.one_name.new.tokens c.one_name.new.names in
    stops_behind _ c.in_err-second.field-0.0 (a_name c.in_ok-first.first ∷ []) a m (λ ds. name ∷ ds) (λ ds. ds) c.from_residual-in_err-second.ensures.1 c.in_ok-first.ensures.reads c.in_err-second.ensures.fault

pub returns-clause-reads : goal.returns-clause-reads
returns-clause-reads c =
    let a = standing c.args.tokens.now c.args.names.now in
    let m = standing c.one_name.new.tokens c.one_name.new.names in
    let b = standing c.one_name-2.new.tokens c.one_name-2.new.names in
    parts_on (a_name c.in_ok-first.first ∷ []) (a_name c.in_ok-second.second ∷ []) a m b c.in_ok-first.ensures.reads c.in_ok-second.ensures.reads
