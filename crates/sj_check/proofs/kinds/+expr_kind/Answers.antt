use Rattle.std.proofs.Common.{◌∙◌, sym, ap}
use Rattle.sj_lang.specs.declared.party.Expr.{Expr}
use Rattle.sj_lang.specs.Term.{not, two}
use Rattle.sj_lang.specs.CodeView.{term_of}
use Rattle.std.proofs.lemmas.Result.{err_from_is_err_and}
use Rattle.sj_lang.proofs.FoldLemmas.{term_of-Not, term_of-Two}
use Rattle.sj_check.proofs.TermLemmas as terms
use Rattle.sj_check.proofs.kinds.+expr_kind.Goals as goal

pub returns-in_err-kind-in-Not-clause-tests : goal.returns-in_err-kind-in-Not-clause-tests
returns-in_err-kind-in-Not-clause-tests t c =
    let p = err_from_is_err_and c.from_residual.result c.from_residual.ensures.1 in rw (p.1, p.2) (terms.not-operand c.args.line c.args.known.now (term_of c.args.value.now) (term_of c.deref.result.now) (ap term_of c.in-Not.is ∙ term_of-Not c.in-Not.inner ∙ ap (λ (f : Expr). not (term_of f)) (sym c.deref.ensures)) _ c.in_err-kind-in-Not.ensures.tests)

pub returns-then-not-same_kind-clause-tests : goal.returns-then-not-same_kind-clause-tests
returns-then-not-same_kind-clause-tests t c =
    let k = c.in_ok-kind-in-Not in rw c.broken-then-not-same_kind.ensures (terms.not-fails c.args.line c.args.known.now (term_of c.args.value.now) (term_of c.deref.result.now) (ap term_of c.in-Not.is ∙ term_of-Not c.in-Not.inner ∙ ap (λ (f : Expr). not (term_of f)) (sym c.deref.ensures)) k.kind k.ensures.tests k.ensures.ok (sym c.same_kind.ensures ∙ c.if-not-same_kind.true))

pub returns-else-not-same_kind-clause-tests : goal.returns-else-not-same_kind-clause-tests
returns-else-not-same_kind-clause-tests t c =
    let k = c.in_ok-kind-in-Not in terms.not-passes c.args.line c.args.known.now (term_of c.args.value.now) (term_of c.deref.result.now) (ap term_of c.in-Not.is ∙ term_of-Not c.in-Not.inner ∙ ap (λ (f : Expr). not (term_of f)) (sym c.deref.ensures)) k.kind k.ensures.tests k.ensures.ok (sym c.same_kind.ensures ∙ c.if-not-same_kind.false)

pub returns-in_err-first-in-Two-clause-tests : goal.returns-in_err-first-in-Two-clause-tests
returns-in_err-first-in-Two-clause-tests t c =
    let p = err_from_is_err_and c.from_residual-in_err-first-in-Two.result c.from_residual-in_err-first-in-Two.ensures.1 in rw (p.1, p.2) (terms.two-left c.args.line c.args.known.now (term_of c.args.value.now) c.in-Two.op (term_of c.deref-in-Two.result.now) (term_of c.in-Two.right.value) (ap term_of c.in-Two.is ∙ term_of-Two c.in-Two.op c.in-Two.left c.in-Two.right ∙ ap (λ (f : Expr). two c.in-Two.op (term_of f) (term_of c.in-Two.right.value)) (sym c.deref-in-Two.ensures)) _ c.in_err-first-in-Two.ensures.tests)

pub returns-in_err-second-in-Two-clause-tests : goal.returns-in_err-second-in-Two-clause-tests
returns-in_err-second-in-Two-clause-tests t c =
    let p = err_from_is_err_and c.from_residual-in_err-second-in-Two.result c.from_residual-in_err-second-in-Two.ensures.1 in rw (p.1, p.2) (terms.two-right c.args.line c.args.known.now (term_of c.args.value.now) c.in-Two.op (term_of c.deref-in-Two.result.now) (term_of c.deref-in-Two-2.result.now) (ap term_of c.in-Two.is ∙ term_of-Two c.in-Two.op c.in-Two.left c.in-Two.right ∙ ap (λ (f : Expr). two c.in-Two.op (term_of f) (term_of c.in-Two.right.value)) (sym c.deref-in-Two.ensures)
    ∙ ap (λ (f : Expr). two c.in-Two.op (term_of c.deref-in-Two.result.now) (term_of f)) (sym c.deref-in-Two-2.ensures)) _ c.in_ok-first-in-Two.ensures.tests c.in_err-second-in-Two.ensures.tests)

pub returns-then-not-takes-clause-tests : goal.returns-then-not-takes-clause-tests
returns-then-not-takes-clause-tests t c =
    let j = c.in_ok-first-in-Two in let k = c.in_ok-second-in-Two in
    rw c.broken-then-not-takes.ensures (terms.two-fails c.args.line c.args.known.now (term_of c.args.value.now) c.in-Two.op (term_of c.deref-in-Two.result.now) (term_of c.deref-in-Two-2.result.now) (ap term_of c.in-Two.is ∙ term_of-Two c.in-Two.op c.in-Two.left c.in-Two.right ∙ ap (λ (f : Expr). two c.in-Two.op (term_of f) (term_of c.in-Two.right.value)) (sym c.deref-in-Two.ensures)
    ∙ ap (λ (f : Expr). two c.in-Two.op (term_of c.deref-in-Two.result.now) (term_of f)) (sym c.deref-in-Two-2.ensures)) j.first k.second j.ensures.tests k.ensures.tests j.ensures.ok k.ensures.ok (sym c.takes.ensures ∙ c.if-not-takes.true))

pub returns-else-not-takes-clause-tests : goal.returns-else-not-takes-clause-tests
returns-else-not-takes-clause-tests t c =
    let j = c.in_ok-first-in-Two in let k = c.in_ok-second-in-Two in
    terms.two-passes c.args.line c.args.known.now (term_of c.args.value.now) c.in-Two.op (term_of c.deref-in-Two.result.now) (term_of c.deref-in-Two-2.result.now) (ap term_of c.in-Two.is ∙ term_of-Two c.in-Two.op c.in-Two.left c.in-Two.right ∙ ap (λ (f : Expr). two c.in-Two.op (term_of f) (term_of c.in-Two.right.value)) (sym c.deref-in-Two.ensures)
    ∙ ap (λ (f : Expr). two c.in-Two.op (term_of c.deref-in-Two.result.now) (term_of f)) (sym c.deref-in-Two-2.ensures)) j.first k.second j.ensures.tests k.ensures.tests j.ensures.ok k.ensures.ok (sym c.takes.ensures ∙ c.if-not-takes.false)
