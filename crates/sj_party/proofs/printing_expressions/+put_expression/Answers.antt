use Rattle.std.proofs.Common.{◌≡◌, ◌++◌, OnOk, OnErr, sym, subst}
use Rattle.std.specs.Prelude.{codes}
use Rattle.sj_text.specs.Cut.{IsCutShort}
use Rattle.sj_text.proofs.CutLemmas.{cut_in_first, cut_behind, on_err, ok_behind, err_behind, err_at_once}
use Rattle.sj_lang.specs.CodeView.{term_of}
use Rattle.sj_grammar.specs.Expressions.{factor}
use Rattle.sj_party.specs.CanonicalExpression.{spelling_of, expression_text}
use Rattle.sj_party.specs.Levels.{level_of}
use Rattle.sj_party.proofs.PrintedExpressions.{not_text, two_text, mark_if}
use Rattle.sj_party.proofs.printing_expressions.+put_expression.Goals as goal

pub returns-in_ok-put-in-Not-clause-ok : goal.returns-in_ok-put-in-Not-clause-ok
returns-in_ok-put-in-Not-clause-ok t c =
    let names = spelling_of c.args.names.now in
    let old = c.args.text.now.items in
    let new = c.put_expression.new.text.items in
    let r = c.put_expression.result in
    let is = not_text names (level_of c.args.wanted) c.args.e.now c.deref.result.now c.in-Not.f c.in-Not.is c.deref.ensures in
    subst (λ (w : _). OnOk r (new ≡ old ++ w)) (sym is)
    (ok_behind old (codes "not ") (expression_text names factor (term_of c.deref.result.now)) c.put-in-Not.new.text.items new r c.in_ok-put-in-Not.ensures.ok c.put_expression.ensures.ok)

pub returns-in_ok-put-in-Not-clause-err : goal.returns-in_ok-put-in-Not-clause-err
returns-in_ok-put-in-Not-clause-err t c =
    let names = spelling_of c.args.names.now in
    let old = c.args.text.now.items in
    let new = c.put_expression.new.text.items in
    let r = c.put_expression.result in
    let is = not_text names (level_of c.args.wanted) c.args.e.now c.deref.result.now c.in-Not.f c.in-Not.is c.deref.ensures in
    subst (λ (w : _). OnErr r (IsCutShort old w new)) (sym is)
    (err_behind old (codes "not ") (expression_text names factor (term_of c.deref.result.now)) c.put-in-Not.new.text.items new r c.in_ok-put-in-Not.ensures.ok c.put_expression.ensures.err)

-- the second operand is cut short
pub returns-in_err-put_expression-in-Two-2-clause-err : goal.returns-in_err-put_expression-in-Two-2-clause-err
returns-in_err-put_expression-in-Two-2-clause-err t c =
    let names = spelling_of c.args.names.now in
    let f = c.deref-in-Two.result.now in
    let g = c.deref-in-Two-2.result.now in
    let b = c.is_enclosed-enclosed.result in
    let m = level_of c.on_left.result in
    let n = level_of c.on_right.result in
    let old = c.args.text.now.items in
    let new = c.put_expression-in-Two-2.new.text.items in
    let first = c.put_if.new.text.items in
    let second = c.put_expression-in-Two.new.text.items in
    let third = c.put-in-Two.new.text.items in
    let close = mark_if b (codes ")") in
    let x = expression_text names m (term_of f) in
    let y = expression_text names n (term_of g) in
    let is = two_text names (level_of c.args.wanted) m n c.args.e.now f g c.in-Two.op c.in-Two.f c.in-Two.g b c.sign.result.now c.in-Two.is c.deref-in-Two.ensures c.deref-in-Two-2.ensures c.is_enclosed-enclosed.ensures c.on_left.ensures c.on_right.ensures c.sign.ensures in
    on_err c.from_residual-in_err-put_expression-in-Two-2.result _
    (subst (λ (w : _). IsCutShort old w new) (sym is)
    (cut_behind old (mark_if b (codes "(")) (x ++ (c.sign.result.now ++ (y ++ close))) first new c.in_ok-put_if-in-Two.ensures.ok
    (cut_behind first x (c.sign.result.now ++ (y ++ close)) second new c.in_ok-put_expression-in-Two.ensures.ok
    (cut_behind second c.sign.result.now (y ++ close) third new c.in_ok-put-in-Two.ensures.ok
    (cut_in_first third y close new c.in_err-put_expression-in-Two-2.ensures.err)))))

pub returns-in_ok-put_expression-in-Two-2-clause-ok : goal.returns-in_ok-put_expression-in-Two-2-clause-ok
returns-in_ok-put_expression-in-Two-2-clause-ok t c =
    let names = spelling_of c.args.names.now in
    let f = c.deref-in-Two.result.now in
    let g = c.deref-in-Two-2.result.now in
    let b = c.is_enclosed-enclosed.result in
    let m = level_of c.on_left.result in
    let n = level_of c.on_right.result in
    let old = c.args.text.now.items in
    let new = c.put_if-in-Two.new.text.items in
    let r = c.put_if-in-Two.result in
    let first = c.put_if.new.text.items in
    let second = c.put_expression-in-Two.new.text.items in
    let third = c.put-in-Two.new.text.items in
    let fourth = c.put_expression-in-Two-2.new.text.items in
    let close = mark_if b (codes ")") in
    let x = expression_text names m (term_of f) in
    let y = expression_text names n (term_of g) in
    let is = two_text names (level_of c.args.wanted) m n c.args.e.now f g c.in-Two.op c.in-Two.f c.in-Two.g b c.sign.result.now c.in-Two.is c.deref-in-Two.ensures c.deref-in-Two-2.ensures c.is_enclosed-enclosed.ensures c.on_left.ensures c.on_right.ensures c.sign.ensures in
    subst (λ (w : _). OnOk r (new ≡ old ++ w)) (sym is)
    (ok_behind old (mark_if b (codes "(")) (x ++ (c.sign.result.now ++ (y ++ close))) first new r c.in_ok-put_if-in-Two.ensures.ok
    (ok_behind first x (c.sign.result.now ++ (y ++ close)) second new r c.in_ok-put_expression-in-Two.ensures.ok
    (ok_behind second c.sign.result.now (y ++ close) third new r c.in_ok-put-in-Two.ensures.ok
    (ok_behind third y close fourth new r c.in_ok-put_expression-in-Two-2.ensures.ok c.put_if-in-Two.ensures.ok))))

pub returns-in_ok-put_expression-in-Two-2-clause-err : goal.returns-in_ok-put_expression-in-Two-2-clause-err
returns-in_ok-put_expression-in-Two-2-clause-err t c =
    let names = spelling_of c.args.names.now in
    let f = c.deref-in-Two.result.now in
    let g = c.deref-in-Two-2.result.now in
    let b = c.is_enclosed-enclosed.result in
    let m = level_of c.on_left.result in
    let n = level_of c.on_right.result in
    let old = c.args.text.now.items in
    let new = c.put_if-in-Two.new.text.items in
    let r = c.put_if-in-Two.result in
    let first = c.put_if.new.text.items in
    let second = c.put_expression-in-Two.new.text.items in
    let third = c.put-in-Two.new.text.items in
    let fourth = c.put_expression-in-Two-2.new.text.items in
    let close = mark_if b (codes ")") in
    let x = expression_text names m (term_of f) in
    let y = expression_text names n (term_of g) in
    let is = two_text names (level_of c.args.wanted) m n c.args.e.now f g c.in-Two.op c.in-Two.f c.in-Two.g b c.sign.result.now c.in-Two.is c.deref-in-Two.ensures c.deref-in-Two-2.ensures c.is_enclosed-enclosed.ensures c.on_left.ensures c.on_right.ensures c.sign.ensures in
    subst (λ (w : _). OnErr r (IsCutShort old w new)) (sym is)
    (err_behind old (mark_if b (codes "(")) (x ++ (c.sign.result.now ++ (y ++ close))) first new r c.in_ok-put_if-in-Two.ensures.ok
    (err_behind first x (c.sign.result.now ++ (y ++ close)) second new r c.in_ok-put_expression-in-Two.ensures.ok
    (err_behind second c.sign.result.now (y ++ close) third new r c.in_ok-put-in-Two.ensures.ok
    (err_behind third y close fourth new r c.in_ok-put_expression-in-Two-2.ensures.ok (err_at_once fourth close new r c.put_if-in-Two.ensures.err)))))
