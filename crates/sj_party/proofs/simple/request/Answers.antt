use Rattle.std.proofs.Common.{[], ◌∷◌, refl, sym, subst}
use Rattle.std.specs.Prelude.{codes}
use Rattle.sj_lang.specs.Code.{DeedAt}
use Rattle.sj_lang.proofs.FoldLemmas.{deed_of-Request}
use Rattle.sj_grammar.specs.declared.refusal.ParseRefusal.TheVariants as refusals
use Rattle.sj_grammar.specs.FileDues.{name, fixed, semicolon}
use Rattle.sj_proto.specs.Parsed.{standing}
use Rattle.sj_proto.proofs.ExitLemmas.{plain}
use Rattle.sj_party.specs.Parts.{a_name, a_piece, ReadsDeed}
use Rattle.sj_party.proofs.PartLemmas.{stops_behind, parts_on, piece_stops}
use Rattle.sj_party.proofs.WordLemmas.{fixed_to}
use Rattle.sj_party.proofs.simple.request.Goals as goal

pub names_around-requires-clause-fixed : goal.names_around-requires-clause-fixed
names_around-requires-clause-fixed c = fixed_to

pub returns-in_err-end-clause-fault : goal.returns-in_err-end-clause-fault
returns-in_err-end-clause-fault c =
    let a = standing c.args.tokens.now c.args.names.now in
    stops_behind _ c.in_err-end.field-0.0 [] a a (λ ds. name ∷ name ∷ fixed (codes "to") ∷ name ∷ ds) (λ ds. semicolon ∷ ds) c.from_residual.ensures.1 refl c.in_err-end.ensures.fault

pub returns-in_err-expect-clause-fault : goal.returns-in_err-expect-clause-fault
returns-in_err-expect-clause-fault c =
    let a = standing c.args.tokens.now c.args.names.now in
    let m = standing c.names_around.new.tokens c.names_around.new.names in
    let f = c.in_err-expect.field-0.0 in
    stops_behind _ (refusals.At f) (a_name c.in_ok-end.end ∷ a_name c.in_ok-end.protocol ∷ a_piece (codes "to") ∷ a_name c.in_ok-end.party ∷ []) a m (λ ds. semicolon ∷ ds) (λ ds. ds) c.from_residual-in_err-expect.ensures.1 c.in_ok-end.ensures.reads
    (piece_stops (codes ";") c.names_around.new.tokens c.names_around.new.names f refl c.in_err-expect.ensures.fault)

pub returns-clause-reads : goal.returns-clause-reads
returns-clause-reads c = λ o.
    let a = standing c.args.tokens.now c.args.names.now in
    let m = standing c.names_around.new.tokens c.names_around.new.names in
    let b = standing c.expect.new.self c.names_around.new.names in
    let taken = plain c.names_around.new.tokens c.expect.new.self c.names_around.new.names (codes ";") refl refl c.in_ok-expect.ensures.ok in
    subst (λ (deed : DeedAt). ReadsDeed (codes "request") o a b deed) (sym (deed_of-Request c.in_ok-end.end c.in_ok-end.protocol c.in_ok-end.party))
    (record { first = refl; parts = parts_on (a_name c.in_ok-end.end ∷ a_name c.in_ok-end.protocol ∷ a_piece (codes "to") ∷ a_name c.in_ok-end.party ∷ []) (a_piece (codes ";") ∷ []) a m b c.in_ok-end.ensures.reads (b, taken, refl) })
