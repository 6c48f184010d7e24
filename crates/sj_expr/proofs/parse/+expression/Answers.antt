use Rattle.std.proofs.Common.{◌≡◌, ℕ, ◌+◌, ◌<◌, ◌≤◌, false, List, [], ◌∷◌, length, refl, ap, sym, subst, ◌∙◌, arith, add-one}
use Rattle.std.specs.Prelude.{codes}
use Rattle.std.proofs.lemmas.Bool.{leb-false}
use Rattle.sj_lang.specs.Term.{Term}
use Rattle.sj_lang.specs.CodeView.{term_of}
use Rattle.sj_grammar.specs.declared.refusal.ParseRefusal.TheVariants as refusals
use Rattle.sj_grammar.specs.Lexis.{next_of}
use Rattle.sj_grammar.specs.Reading.{Reading}
use Rattle.sj_grammar.specs.Positions.{Takes}
use Rattle.sj_grammar.specs.Refusals.{OnFault}
use Rattle.sj_grammar.specs.Asked.{TakesText, Passes, spelled_next}
use Rattle.sj_grammar.specs.Expressions.{operand_count}
use Rattle.sj_grammar.specs.Expressions as level
use Rattle.sj_grammar.specs.ExpressionDues.{factor, times, plus, expression_at, is_operand, expression_layer}
use Rattle.sj_proto.specs.Parsed.{standing}
use Rattle.sj_proto.proofs.ReadLemmas.{took_plain}
use Rattle.sj_proto.proofs.OnwardLemmas.{advances_on}
use Rattle.sj_expr.specs.declared.taking.Outer.{Outer}
use Rattle.sj_expr.specs.Factors.{outer_piece}
use Rattle.sj_expr.specs.Read.{ReadsLevel, ReadsWhole}
use Rattle.sj_expr.specs.Signs.{op_piece}
use Rattle.sj_expr.proofs.ReadLemmas.{op_taken, grows_on, stays_on}
use Rattle.sj_expr.proofs.LevelLemmas.{not_read, parens_read, factor_read, term_read, product_read, sign_read, sum_whole, compared_whole}
use Rattle.sj_expr.proofs.StuckLemmas.{Inside, term_first, sum_first, whole_first, term_next, sum_next, whole_next}
use Rattle.sj_proto.proofs.ExitLemmas.{err_as}
use Rattle.sj_expr.proofs.ExitLemmas.{err_fault}
use Rattle.sj_expr.proofs.parse.+expression.Goals as goal
use Rattle.sj_expr.proofs.OuterLemmas.{not_inside, parens_inside, close_inside, outer_inside}
use Rattle.sj_expr.proofs.OperandLemmas.{not_no_name}

pub factor-returns-in_err-take_outer-clause-fault : goal.factor-returns-in_err-take_outer-clause-fault
factor-returns-in_err-take_outer-clause-fault t c =
    let a = standing c.args.tokens.now c.args.names.now in
    let f = c.in_err-take_outer.field-0.0 in
    let other : is_operand (spelled_next (next_of c.args.tokens.now.ahead)) ≡ false = subst (λ (s : List ℕ). is_operand s ≡ false) c.spelling.ensures c.in_default.ensures.none in
    err_as _ (refusals.At f) (OnFault (λ f. Inside c.args.count.now a (factor c.args.depth ∷ []) f)) c.from_residual.ensures.1
    (outer_inside c.args.count.now c.args.depth a f other (sym c.sees.ensures ∙ c.if-sees.false) c.in_err-take_outer.ensures.fault)

pub factor-returns-in_err-inner-in-Not-clause-fault : goal.factor-returns-in_err-inner-in-Not-clause-fault
factor-returns-in_err-inner-in-Not-clause-fault t c =
    let o = c.args.depth in
    let a = standing c.args.tokens.now c.args.names.now in
    let m = standing c.take_outer.new.tokens c.args.names.now in
    let taken : Takes a (codes "not") m = took_plain c.args.tokens.now c.take_outer.new.tokens c.args.names.now.words c.args.names.now.texts (codes "not") not_no_name refl
    (subst (λ (x : Outer). TakesText c.args.tokens.now (outer_piece x) c.take_outer.new.tokens) c.in-Not.is c.in_ok-take_outer.ensures.ok) in
    err_fault _ c.in_err-inner-in-Not.field-0.0 (λ f. Inside c.args.count.now m (factor (o + 1) ∷ []) f) (λ f. Inside c.args.count.now a (factor o ∷ []) f) c.from_residual-in_err-inner-in-Not.ensures.1
    (λ f st. not_inside c.args.count.now o (o + 1) a m f (add-one o) (leb-false 32 o c.in_ok-take_outer.ensures.room) taken st) c.in_err-inner-in-Not.ensures.fault

pub factor-returns-in_err-inner-in-Parens-clause-fault : goal.factor-returns-in_err-inner-in-Parens-clause-fault
factor-returns-in_err-inner-in-Parens-clause-fault t c =
    let o = c.args.depth in
    let a = standing c.args.tokens.now c.args.names.now in
    let m = standing c.take_outer.new.tokens c.args.names.now in
    let taken : Takes a (codes "(") m = took_plain c.args.tokens.now c.take_outer.new.tokens c.args.names.now.words c.args.names.now.texts (codes "(") refl refl
    (subst (λ (x : Outer). TakesText c.args.tokens.now (outer_piece x) c.take_outer.new.tokens) c.in-Parens.is c.in_ok-take_outer.ensures.ok) in
    err_fault _ c.in_err-inner-in-Parens.field-0.0 (λ f. Inside c.args.count.now m (expression_at (o + 1)) f) (λ f. Inside c.args.count.now a (factor o ∷ []) f) c.from_residual-in_err-inner-in-Parens.ensures.1
    (λ f st. parens_inside c.args.count.now o (o + 1) a m f (add-one o) (leb-false 32 o c.in_ok-take_outer.ensures.room) taken st) c.in_err-inner-in-Parens.ensures.fault

pub factor-returns-in_err-expect-in-Parens-clause-fault : goal.factor-returns-in_err-expect-in-Parens-clause-fault
factor-returns-in_err-expect-in-Parens-clause-fault t c =
    let o = c.args.depth in
    let a = standing c.args.tokens.now c.args.names.now in
    let m = standing c.take_outer.new.tokens c.args.names.now in
    let b = standing c.whole.new.tokens c.whole.new.names in
    let f = c.in_err-expect-in-Parens.field-0.0 in
    let taken : Takes a (codes "(") m = took_plain c.args.tokens.now c.take_outer.new.tokens c.args.names.now.words c.args.names.now.texts (codes "(") refl refl
    (subst (λ (x : Outer). TakesText c.args.tokens.now (outer_piece x) c.take_outer.new.tokens) c.in-Parens.is c.in_ok-take_outer.ensures.ok) in
    err_as _ (refusals.At f) (OnFault (λ f. Inside c.args.count.now a (factor o ∷ []) f)) c.from_residual-in_err-expect-in-Parens.ensures.1
    (close_inside c.args.count.now c.whole.new.count o (o + 1) a m b (term_of c.in_ok-inner-in-Parens.inner) f (add-one o) (leb-false 32 o c.in_ok-take_outer.ensures.room) taken c.in_ok-inner-in-Parens.ensures.reads
    c.in_ok-inner-in-Parens.ensures.leaves.count c.in_err-expect-in-Parens.ensures.fault)

pub factor-returns-in_ok-negated-in-Not-clause-reads : goal.factor-returns-in_ok-negated-in-Not-clause-reads
factor-returns-in_ok-negated-in-Not-clause-reads t c =
    let o = c.args.depth in
    let a = standing c.args.tokens.now c.args.names.now in
    let m = standing c.take_outer.new.tokens c.args.names.now in
    let b = standing c.factor.new.tokens c.factor.new.names in
    let taken : Takes a (codes "not") m = took_plain c.args.tokens.now c.take_outer.new.tokens c.args.names.now.words c.args.names.now.texts (codes "not") not_no_name refl
    (subst (λ (x : Outer). TakesText c.args.tokens.now (outer_piece x) c.take_outer.new.tokens) c.in-Not.is c.in_ok-take_outer.ensures.ok) in
    subst (λ (e : Term). ReadsLevel level.factor o a b e) (sym c.in_ok-negated-in-Not.ensures)
    (not_read o (o + 1) a m b (term_of c.in_ok-inner-in-Not.inner) (add-one o) (leb-false 32 o c.in_ok-take_outer.ensures.room) taken c.in_ok-inner-in-Not.ensures.reads)

pub factor-returns-in_ok-expect-in-Parens-clause-reads : goal.factor-returns-in_ok-expect-in-Parens-clause-reads
factor-returns-in_ok-expect-in-Parens-clause-reads t c =
    let o = c.args.depth in
    let a = standing c.args.tokens.now c.args.names.now in
    let m = standing c.take_outer.new.tokens c.args.names.now in
    let b = standing c.whole.new.tokens c.whole.new.names in
    let z = standing c.expect.new.self c.whole.new.names in
    let taken : Takes a (codes "(") m = took_plain c.args.tokens.now c.take_outer.new.tokens c.args.names.now.words c.args.names.now.texts (codes "(") refl refl
    (subst (λ (x : Outer). TakesText c.args.tokens.now (outer_piece x) c.take_outer.new.tokens) c.in-Parens.is c.in_ok-take_outer.ensures.ok) in
    let closed : Takes b (codes ")") z = took_plain c.whole.new.tokens c.expect.new.self c.whole.new.names.words c.whole.new.names.texts (codes ")") refl refl c.in_ok-expect-in-Parens.ensures.ok in
    parens_read o (o + 1) a m b z (term_of c.in_ok-inner-in-Parens.inner) (add-one o) (leb-false 32 o c.in_ok-take_outer.ensures.room) taken c.in_ok-inner-in-Parens.ensures.reads.reads closed

pub sum-returns-in_err-left-clause-fault : goal.sum-returns-in_err-left-clause-fault
sum-returns-in_err-left-clause-fault t c =
    let o = c.args.depth in
    let a = standing c.args.tokens.now c.args.names.now in
    err_fault _ c.in_err-left.field-0.0 (λ f. Inside c.args.count.now a (factor o ∷ times o ∷ []) f) (λ f. Inside c.args.count.now a (factor o ∷ times o ∷ plus o ∷ []) f) c.from_residual.ensures.1
    (λ f st. sum_first c.args.count.now o a f st) c.in_err-left.ensures.fault

pub sum-terms-init : goal.sum-terms-init
sum-terms-init t c =
    let b = standing c.term.new.tokens c.term.new.names in
    let was = c.in_ok-left.ensures in
    record {
      reads = term_read c.args.depth (standing c.args.tokens.now c.args.names.now) b (term_of c.in_ok-left.left) was.reads;
      ends = was.ends;
      count = was.leaves.count;
      few = was.leaves.few;
      room = was.leaves.room;
      shorter = was.leaves.shorter;
      kept = was.leaves.kept;
      onward = was.leaves.onward;
    }

pub sum-returns-in_err-right-clause-fault : goal.sum-returns-in_err-right-clause-fault
sum-returns-in_err-right-clause-fault t c =
    let o = c.args.depth in
    let op = c.in-Some.op in
    let a = standing c.args.tokens.now c.args.names.now in
    let b = standing c.terms.tokens c.terms.names in
    let u = standing c.take_sign.new.tokens c.terms.names in
    let taken : Takes b (op_piece op) u = op_taken op c.terms.tokens c.take_sign.new.tokens c.terms.names.words c.terms.names.texts c.in-Some.ensures.taken in
    err_fault _ c.in_err-right.field-0.0 (λ f. Inside c.terms.count u (factor o ∷ times o ∷ []) f) (λ f. Inside c.args.count.now a (factor o ∷ times o ∷ plus o ∷ []) f) c.from_residual-in_err-right.ensures.1
    (λ f st. sum_next op c.args.count.now c.terms.count o a b u (term_of c.terms.left) f c.in-Some.ensures.sign c.terms.invariant.reads c.terms.invariant.count c.terms.invariant.few taken st) c.in_err-right.ensures.fault

pub sum-terms-preserved : goal.sum-terms-preserved
sum-terms-preserved t c =
    let o = c.args.depth in
    let op = c.in-Some.op in
    let a = standing c.args.tokens.now c.args.names.now in
    let b = standing c.terms.tokens c.terms.names in
    let u = standing c.take_sign.new.tokens c.terms.names in
    let z = standing c.term-in-Some.new.tokens c.term-in-Some.new.names in
    let taken : Takes b (op_piece op) u = op_taken op c.terms.tokens c.take_sign.new.tokens c.terms.names.words c.terms.names.texts c.in-Some.ensures.taken in
    let right = c.in_ok-right.ensures in
    let both : operand_count (term_of c.in_ok-left-2.left) ≡ operand_count (term_of c.terms.left) + operand_count (term_of c.in_ok-right.right) = ap operand_count c.in_ok-left-2.ensures in
    record {
      reads = subst (λ (e : Term). ReadsLevel level.sum o a z e) (sym c.in_ok-left-2.ensures) (sign_read op o a b u z (term_of c.terms.left) (term_of c.in_ok-right.right) c.in-Some.ensures.sign c.terms.invariant.reads taken right.reads);
      ends = right.ends;
      count = omega (arith, both, right.leaves.count, c.terms.invariant.count);
      few = right.leaves.few;
      room = stays_on c.args.names.now c.terms.names c.term-in-Some.new.names c.args.tokens.now c.terms.tokens c.take_sign.new.tokens c.term-in-Some.new.tokens c.terms.invariant.room c.in-Some.ensures.shorter right.leaves.room;
      shorter = omega (arith, right.leaves.shorter, c.in-Some.ensures.shorter, c.terms.invariant.shorter);
      kept = grows_on c.args.names.now c.terms.names c.term-in-Some.new.names c.terms.invariant.kept right.leaves.kept;
      onward = advances_on c.terms.invariant.onward (advances_on c.take_sign.ensures.onward right.leaves.onward);
    }

pub term-returns-in_err-left-clause-fault : goal.term-returns-in_err-left-clause-fault
term-returns-in_err-left-clause-fault t c =
    let o = c.args.depth in
    let a = standing c.args.tokens.now c.args.names.now in
    err_fault _ c.in_err-left.field-0.0 (λ f. Inside c.args.count.now a (factor o ∷ []) f) (λ f. Inside c.args.count.now a (factor o ∷ times o ∷ []) f) c.from_residual.ensures.1
    (λ f st. term_first c.args.count.now o a f st) c.in_err-left.ensures.fault

pub term-factors-init : goal.term-factors-init
term-factors-init t c =
    let b = standing c.factor.new.tokens c.factor.new.names in
    let was = c.in_ok-left.ensures in
    record {
      reads = factor_read c.args.depth (standing c.args.tokens.now c.args.names.now) b (term_of c.in_ok-left.left) was.reads;
      count = was.leaves.count;
      few = was.leaves.few;
      room = was.leaves.room;
      shorter = was.leaves.shorter;
      kept = was.leaves.kept;
      onward = was.leaves.onward;
    }

pub whole-returns-in_err-left-clause-fault : goal.whole-returns-in_err-left-clause-fault
whole-returns-in_err-left-clause-fault t c =
    let o = c.args.depth in
    let a = standing c.args.tokens.now c.args.names.now in
    err_fault _ c.in_err-left.field-0.0 (λ f. Inside c.args.count.now a (factor o ∷ times o ∷ plus o ∷ []) f) (λ f. Inside c.args.count.now a (expression_at o) f) c.from_residual.ensures.1
    (λ f st. whole_first c.args.count.now o a f st) c.in_err-left.ensures.fault

pub sum-returns-clause-ends : goal.sum-returns-clause-ends
sum-returns-clause-ends t c =
    let o = c.args.depth in
    let stays = sym c.in_default.ensures.kept in (
      subst (λ (r : Reading). Passes expression_layer (times o) (next_of r.ahead)) stays c.terms.invariant.ends,
      subst (λ (r : Reading). Passes expression_layer (plus o) (next_of r.ahead)) stays (c.in_default.ensures.none o),
    )

pub term-returns-in_err-right-clause-fault : goal.term-returns-in_err-right-clause-fault
term-returns-in_err-right-clause-fault t c =
    let o = c.args.depth in
    let a = standing c.args.tokens.now c.args.names.now in
    let b = standing c.factors.tokens c.factors.names in
    let u = standing c.accept.new.self c.factors.names in
    let taken : Takes b (codes "*") u = took_plain c.factors.tokens c.accept.new.self c.factors.names.words c.factors.names.texts (codes "*") refl refl (c.accept.ensures.taken c.factors-test.true) in
    err_fault _ c.in_err-right.field-0.0 (λ f. Inside c.factors.count u (factor o ∷ []) f) (λ f. Inside c.args.count.now a (factor o ∷ times o ∷ []) f) c.from_residual-in_err-right.ensures.1
    (λ f st. term_next c.args.count.now c.factors.count o a b u (term_of c.factors.left) f c.factors.invariant.reads c.factors.invariant.count c.factors.invariant.few taken st) c.in_err-right.ensures.fault

pub term-factors-preserved : goal.term-factors-preserved
term-factors-preserved t c =
    let o = c.args.depth in
    let a = standing c.args.tokens.now c.args.names.now in
    let b = standing c.factors.tokens c.factors.names in
    let u = standing c.accept.new.self c.factors.names in
    let z = standing c.factor-in-factors.new.tokens c.factor-in-factors.new.names in
    let taken : Takes b (codes "*") u = took_plain c.factors.tokens c.accept.new.self c.factors.names.words c.factors.names.texts (codes "*") refl refl (c.accept.ensures.taken c.factors-test.true) in
    let right = c.in_ok-right.ensures in
    let shorter : length c.accept.new.self.ahead < length c.factors.tokens.ahead = c.accept.ensures.shorter c.factors-test.true in
    let both : operand_count (term_of c.in_ok-left-2.left) ≡ operand_count (term_of c.factors.left) + operand_count (term_of c.in_ok-right.right) = ap operand_count c.in_ok-left-2.ensures in
    record {
      reads = subst (λ (e : Term). ReadsLevel level.term o a z e) (sym c.in_ok-left-2.ensures) (product_read o a b u z (term_of c.factors.left) (term_of c.in_ok-right.right) c.factors.invariant.reads taken right.reads);
      count = omega (arith, both, right.leaves.count, c.factors.invariant.count);
      few = right.leaves.few;
      room = stays_on c.args.names.now c.factors.names c.factor-in-factors.new.names c.args.tokens.now c.factors.tokens c.accept.new.self c.factor-in-factors.new.tokens c.factors.invariant.room shorter right.leaves.room;
      shorter = omega (arith, right.leaves.shorter, shorter, c.factors.invariant.shorter);
      kept = grows_on c.args.names.now c.factors.names c.factor-in-factors.new.names c.factors.invariant.kept right.leaves.kept;
      onward = advances_on c.factors.invariant.onward (advances_on c.accept.ensures.onward right.leaves.onward);
    }

pub whole-returns-in_err-right-clause-fault : goal.whole-returns-in_err-right-clause-fault
whole-returns-in_err-right-clause-fault t c =
    let o = c.args.depth in
    let op = c.in-Some.op in
    let a = standing c.args.tokens.now c.args.names.now in
    let b = standing c.sum.new.tokens c.sum.new.names in
    let u = standing c.take_comparison.new.tokens c.sum.new.names in
    let taken : Takes b (op_piece op) u = op_taken op c.sum.new.tokens c.take_comparison.new.tokens c.sum.new.names.words c.sum.new.names.texts c.in-Some.ensures.taken in
    err_fault _ c.in_err-right.field-0.0 (λ f. Inside c.sum.new.count u (factor o ∷ times o ∷ plus o ∷ []) f) (λ f. Inside c.args.count.now a (expression_at o) f) c.from_residual-in_err-right.ensures.1
    (λ f st. whole_next op c.args.count.now c.sum.new.count o a b u (term_of c.in_ok-left.left) f c.in-Some.ensures.comparison c.in_ok-left.ensures.reads c.in_ok-left.ensures.leaves.count c.in_ok-left.ensures.leaves.few taken st) c.in_err-right.ensures.fault

pub whole-returns-in-Some-clause-reads : goal.whole-returns-in-Some-clause-reads
whole-returns-in-Some-clause-reads t c =
    let o = c.args.depth in
    let op = c.in-Some.op in
    let n = c.args.count.now in
    let a = standing c.args.tokens.now c.args.names.now in
    let b = standing c.sum.new.tokens c.sum.new.names in
    let u = standing c.take_comparison.new.tokens c.sum.new.names in
    let z = standing c.sum-in-Some.new.tokens c.sum-in-Some.new.names in
    let left = term_of c.in_ok-left.left in
    let right = term_of c.in_ok-right.right in
    let taken : Takes b (op_piece op) u = op_taken op c.sum.new.tokens c.take_comparison.new.tokens c.sum.new.names.words c.sum.new.names.texts c.in-Some.ensures.taken in
    let few : n + (operand_count left + operand_count right) ≤ 256 = omega (arith, c.in_ok-left.ensures.leaves.count, c.in_ok-right.ensures.leaves.count, c.in_ok-right.ensures.leaves.few) in
    subst (λ (e : Term). ReadsWhole n o a z e) (sym c.in_ok-joined.ensures)
    (compared_whole op n o a b u z left right few c.in-Some.ensures.comparison c.in_ok-left.ensures.reads taken c.in_ok-right.ensures.reads c.in_ok-right.ensures.ends.0 c.in_ok-right.ensures.ends.1)

pub whole-returns-clause-reads : goal.whole-returns-clause-reads
whole-returns-clause-reads t c =
    let o = c.args.depth in
    let n = c.args.count.now in
    let a = standing c.args.tokens.now c.args.names.now in
    let left = term_of c.in_ok-left.left in
    let few : n + operand_count left ≤ 256 = omega (arith, c.in_ok-left.ensures.leaves.count, c.in_ok-left.ensures.leaves.few) in
    subst (λ (r : Reading). ReadsWhole n o a (standing r c.sum.new.names) left) (sym c.in_default.ensures.kept)
    (sum_whole n o a (standing c.sum.new.tokens c.sum.new.names) left few c.in_ok-left.ensures.reads c.in_ok-left.ensures.ends.0 c.in_ok-left.ensures.ends.1 (c.in_default.ensures.none o))
