use Rattle.std.proofs.Common.{◌≡◌, ℕ, true, false, List, ap, sym, subst, ◌∙◌, arith, pos, neg_ℤ}
use Rattle.std.specs.Str.Parse.{digits_value}
use Rattle.std.proofs.Math.Facts.{to_z-of_z}
use Rattle.sj_lang.specs.Term.{Term}
use Rattle.sj_lang.specs.Term as term
use Rattle.sj_lang.proofs.FoldLemmas.{term_of-Int}
use Rattle.sj_grammar.specs.Lexis.{next_of}
use Rattle.sj_grammar.specs.Literals.{is_number}
use Rattle.sj_grammar.specs.Positions.{at}
use Rattle.sj_grammar.specs.Asked.{spelled_next}
use Rattle.sj_grammar.specs.Expressions as level
use Rattle.sj_expr.specs.Read.{ReadsLevel}
use Rattle.sj_expr.proofs.NumberLemmas.{no_number, some_number}
use Rattle.sj_expr.proofs.taking.take_negative.Goals as goal
use Rattle.sj_expr.proofs.FactorReadLemmas.{minus_reads}
use Rattle.sj_expr.proofs.FactorFaultLemmas.{no_number_inside, full_number_inside}

pub returns-in_default-clause-fault : goal.returns-in_default-clause-fault
returns-in_default-clause-fault c = λ o words texts.
    let q = c.accept-minus.new.self in
    let piece = c.spelling.ensures in
    let no : is_number (spelled_next (next_of q.ahead)) ≡ false = subst (λ (s : List ℕ). is_number s ≡ false) piece (no_number c.spelling.result.now c.number_in.result c.number_in.ensures c.in_default.not-Some) in
    no_number_inside c.args.count.now o c.args.tokens.now q words texts (c.accept-minus.ensures.taken (c.accept-minus.ensures.answer ∙ c.requires.minus)) c.fault.result no c.fault.ensures

pub returns-then-count-ge-MOST_OPERANDS-clause-fault : goal.returns-then-count-ge-MOST_OPERANDS-clause-fault
returns-then-count-ge-MOST_OPERANDS-clause-fault c = λ o words texts.
    let q = c.accept-minus.new.self in
    let is = subst (λ (s : List ℕ). is_number s ≡ true) c.spelling.ensures (some_number c.spelling.result.now c.number_in.result c.in-Some.value c.number_in.ensures c.in-Some.is).0 in
    full_number_inside c.args.count.now o c.args.tokens.now q words texts (c.accept-minus.ensures.taken (c.accept-minus.ensures.answer ∙ c.requires.minus)) c.limit_fault.result is (omega arith) c.limit_fault.ensures

pub returns-clause-reads : goal.returns-clause-reads
returns-clause-reads c = λ o words texts.
    let q = c.accept-minus.new.self in
    let s = c.take_piece.result.now in
    let same : c.spelling.result.now ≡ s = c.spelling.ensures ∙ sym c.take_piece.ensures.piece in
    let parts = some_number c.spelling.result.now c.number_in.result c.in-Some.value c.number_in.ensures c.in-Some.is in
    let is = subst (λ (x : List ℕ). is_number x ≡ true) same parts.0 in
    let value = parts.1 ∙ ap (digits_value 10) same in
    let term_is = term_of-Int _ ∙ ap term.int (to_z-of_z c.negative_of.ensures.fits ∙ c.negative_of.ensures.value ∙ ap (λ (v : ℕ). neg_ℤ (pos v)) value) in
    subst (λ (t : Term). ReadsLevel level.factor o (at c.args.tokens.now words texts) (at c.take_piece.new.tokens words texts) t) (sym term_is)
    (minus_reads o c.args.tokens.now q c.take_piece.new.tokens words texts s (c.accept-minus.ensures.taken (c.accept-minus.ensures.answer ∙ c.requires.minus)) is c.take_piece.ensures.taken)
