use Rattle.std.proofs.Common.{[], ◌∷◌, refl}
use Rattle.sj_grammar.specs.declared.refusal.ParseRefusal.TheVariants as refusals
use Rattle.sj_grammar.specs.FileDues.{name, fixed}
use Rattle.sj_proto.specs.Parsed.{standing}
use Rattle.sj_proto.proofs.ExitLemmas.{plain}
use Rattle.sj_party.specs.Parts.{a_name, a_piece}
use Rattle.sj_party.proofs.PartLemmas.{stops_behind, parts_on, piece_stops}
use Rattle.sj_party.proofs.parts.names_around.Goals as goal

pub returns-in_err-first-clause-fault : goal.returns-in_err-first-clause-fault
returns-in_err-first-clause-fault c =
    let a = standing c.args.tokens.now c.args.names.now in
    stops_behind _ c.in_err-first.field-0.0 [] a a (λ ds. name ∷ name ∷ ds) (λ ds. fixed c.args.word.now ∷ name ∷ ds) c.from_residual.ensures.1 refl c.in_err-first.ensures.fault

pub returns-in_err-expect-clause-fault : goal.returns-in_err-expect-clause-fault
returns-in_err-expect-clause-fault c =
    let a = standing c.args.tokens.now c.args.names.now in
    let m = standing c.two_names.new.tokens c.two_names.new.names in
    let f = c.in_err-expect.field-0.0 in
    stops_behind _ (refusals.At f) (a_name c.in_ok-first.first ∷ a_name c.in_ok-first.second ∷ []) a m (λ ds. fixed c.args.word.now ∷ ds) (λ ds. name ∷ ds) c.from_residual-in_err-expect.ensures.1 c.in_ok-first.ensures.reads
    (piece_stops c.args.word.now c.two_names.new.tokens c.two_names.new.names f c.requires.fixed.no_largest c.in_err-expect.ensures.fault)

pub returns-in_err-third-clause-fault : goal.returns-in_err-third-clause-fault
returns-in_err-third-clause-fault c =
    let a = standing c.args.tokens.now c.args.names.now in
    let m = standing c.two_names.new.tokens c.two_names.new.names in
    let u = standing c.expect.new.self c.two_names.new.names in
    let taken = plain c.two_names.new.tokens c.expect.new.self c.two_names.new.names c.args.word.now c.requires.fixed.no_name c.requires.fixed.no_text c.in_ok-expect.ensures.ok in
    stops_behind _ c.in_err-third.field-0.0 (a_name c.in_ok-first.first ∷ a_name c.in_ok-first.second ∷ a_piece c.args.word.now ∷ []) a u (λ ds. name ∷ ds) (λ ds. ds) c.from_residual-in_err-third.ensures.1
    (parts_on (a_name c.in_ok-first.first ∷ a_name c.in_ok-first.second ∷ []) (a_piece c.args.word.now ∷ []) a m u c.in_ok-first.ensures.reads (u, taken, refl)) c.in_err-third.ensures.fault

pub returns-clause-reads : goal.returns-clause-reads
returns-clause-reads c =
    let a = standing c.args.tokens.now c.args.names.now in
    let m = standing c.two_names.new.tokens c.two_names.new.names in
    let u = standing c.expect.new.self c.two_names.new.names in
    let b = standing c.one_name.new.tokens c.one_name.new.names in
    let taken = plain c.two_names.new.tokens c.expect.new.self c.two_names.new.names c.args.word.now c.requires.fixed.no_name c.requires.fixed.no_text c.in_ok-expect.ensures.ok in
    parts_on (a_name c.in_ok-first.first ∷ a_name c.in_ok-first.second ∷ []) (a_piece c.args.word.now ∷ a_name c.in_ok-third.third ∷ []) a m b c.in_ok-first.ensures.reads (u, taken, c.in_ok-third.ensures.reads)
