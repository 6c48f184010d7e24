use Rattle.std.proofs.Common.{rules, ◌<◌, ◌^◌, ℕ, true, false, List, ap, sym, subst, ◌∙◌, arith, pos}
use Rattle.std.proofs.Math.Facts.{to_z_pos}
use Rattle.std.specs.Int.{w64}
use Rattle.sj_lang.specs.Term.{Term}
use Rattle.sj_lang.specs.Term as term
use Rattle.sj_lang.proofs.FoldLemmas.{term_of-Int, term_of-Text, term_of-Var, term_of-Bool}
use Rattle.sj_grammar.specs.Asked.{TakesText, spelled_next}
use Rattle.sj_grammar.specs.Lexis.{next_of}
use Rattle.sj_grammar.specs.Expressions as level
use Rattle.sj_proto.specs.Parsed.{standing}
use Rattle.sj_expr.specs.declared.operands.Operand.{Operand}
use Rattle.sj_expr.specs.Operands.{IsOperandOf, IsSmall}
use Rattle.sj_expr.specs.Read.{ReadsLevel}
use Rattle.sj_expr.proofs.NumberLemmas.{small_number}
use Rattle.sj_expr.proofs.ReadLemmas.{name_read}
use Rattle.sj_expr.proofs.ExitLemmas.{err_fault}
use Rattle.sj_expr.proofs.taking.take_operand.Goals as goal
use Rattle.sj_expr.proofs.FactorReadLemmas.{number_reads, true_reads, false_reads, text_factor}
use Rattle.sj_expr.proofs.FactorFaultLemmas.{is_an_operand, full_inside, text_inside, name_inside}

pub returns-then-count-ge-MOST_OPERANDS-clause-fault : goal.returns-then-count-ge-MOST_OPERANDS-clause-fault
returns-then-count-ge-MOST_OPERANDS-clause-fault c = λ o.
    full_inside c.args.count.now o (standing c.args.tokens.now c.args.names.now) c.limit_fault.result (is_an_operand c.args.operand _ c.requires.stands) (omega arith) c.limit_fault.ensures

pub overflow_cast-result : goal.overflow_cast-result
overflow_cast-result c =
    let small = subst (λ (o : Operand). IsOperandOf o (spelled_next (next_of c.args.tokens.now.ahead))) c.in-Number.is c.requires.stands in
    let below : c.in-Number.value < 2 ^ 63 = subst (λ (v : ℕ). v < 2 ^ 63) (sym small.value) (small_number (spelled_next (next_of c.args.tokens.now.ahead)) small.number small.other) in
    search (rules, below)

pub returns-in_err-n-in-Text-clause-fault : goal.returns-in_err-n-in-Text-clause-fault
returns-in_err-n-in-Text-clause-fault c =
    err_fault _ c.in_err-n-in-Text.field-0.0 _ _ c.from_residual.ensures.1 (λ f r o. text_inside c.args.count.now o (standing c.args.tokens.now c.args.names.now) f (subst (λ (o : Operand). IsOperandOf o (spelled_next (next_of c.args.tokens.now.ahead))) c.in-Text.is c.requires.stands) r) c.in_err-n-in-Text.ensures.fault

pub returns-in_err-n-in-Name-clause-fault : goal.returns-in_err-n-in-Name-clause-fault
returns-in_err-n-in-Name-clause-fault c =
    err_fault _ c.in_err-n-in-Name.field-0.0 _ _ c.from_residual-in_err-n-in-Name.ensures.1 (λ f r o. name_inside c.args.count.now o (standing c.args.tokens.now c.args.names.now) f (subst (λ (o : Operand). IsOperandOf o (spelled_next (next_of c.args.tokens.now.ahead))) c.in-Name.is c.requires.stands) r) c.in_err-n-in-Name.ensures.fault

pub returns-in-Number-clause-reads : goal.returns-in-Number-clause-reads
returns-in-Number-clause-reads c = λ o.
    let s = c.take_piece.result.now in
    let small : IsSmall s c.in-Number.value = subst (λ (x : List ℕ). IsSmall x c.in-Number.value) (sym c.take_piece.ensures.piece) (subst (λ (o : Operand). IsOperandOf o (spelled_next (next_of c.args.tokens.now.ahead))) c.in-Number.is c.requires.stands) in
    let below : c.in-Number.value < 2 ^ 63 = subst (λ (v : ℕ). v < 2 ^ 63) (sym small.value) (small_number s small.number small.other) in
    let term_is = term_of-Int _ ∙ ap term.int (to_z_pos w64 below ∙ ap pos small.value) in
    subst (λ (t : Term). ReadsLevel level.factor o (standing c.args.tokens.now c.args.names.now) (standing c.take_piece.new.tokens c.args.names.now) t) (sym term_is)
    (number_reads o c.args.tokens.now c.take_piece.new.tokens c.args.names.now.words c.args.names.now.texts s small.number small.other c.take_piece.ensures.taken)

pub returns-in_ok-n-in-Text-clause-reads : goal.returns-in_ok-n-in-Text-clause-reads
returns-in_ok-n-in-Text-clause-reads c = λ o.
    subst (λ (t : Term). ReadsLevel level.factor o (standing c.args.tokens.now c.args.names.now) (standing c.take_text.new.tokens c.take_text.new.names) t) (sym (term_of-Text c.in_ok-n-in-Text.n))
    (text_factor o _ _ c.in_ok-n-in-Text.n c.in_ok-n-in-Text.ensures.reads)

pub returns-in_ok-n-in-Name-clause-reads : goal.returns-in_ok-n-in-Name-clause-reads
returns-in_ok-n-in-Name-clause-reads c = λ o.
    subst (λ (t : Term). ReadsLevel level.factor o (standing c.args.tokens.now c.args.names.now) (standing c.take_name.new.tokens c.take_name.new.names) t) (sym (term_of-Var c.in_ok-n-in-Name.n))
    (name_read _ _ c.in_ok-n-in-Name.n c.in_ok-n-in-Name.ensures.reads o)

pub returns-in-True-clause-reads : goal.returns-in-True-clause-reads
returns-in-True-clause-reads c = λ o.
    let is = c.take_piece-in-True.ensures.piece ∙ subst (λ (o : Operand). IsOperandOf o (spelled_next (next_of c.args.tokens.now.ahead))) c.in-True.is c.requires.stands in
    subst (λ (t : Term). ReadsLevel level.factor o (standing c.args.tokens.now c.args.names.now) (standing c.take_piece-in-True.new.tokens c.args.names.now) t) (sym (term_of-Bool true))
    (true_reads o c.args.tokens.now c.take_piece-in-True.new.tokens c.args.names.now.words c.args.names.now.texts
    (subst (λ (x : List ℕ). TakesText c.args.tokens.now x c.take_piece-in-True.new.tokens) is c.take_piece-in-True.ensures.taken))

pub returns-in-False-clause-reads : goal.returns-in-False-clause-reads
returns-in-False-clause-reads c = λ o.
    let is = c.take_piece-in-False.ensures.piece ∙ subst (λ (o : Operand). IsOperandOf o (spelled_next (next_of c.args.tokens.now.ahead))) c.in-False.is c.requires.stands in
    subst (λ (t : Term). ReadsLevel level.factor o (standing c.args.tokens.now c.args.names.now) (standing c.take_piece-in-False.new.tokens c.args.names.now) t) (sym (term_of-Bool false))
    (false_reads o c.args.tokens.now c.take_piece-in-False.new.tokens c.args.names.now.words c.args.names.now.texts
    (subst (λ (x : List ℕ). TakesText c.args.tokens.now x c.take_piece-in-False.new.tokens) is c.take_piece-in-False.ensures.taken))
