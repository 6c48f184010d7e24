use Rattle.std.proofs.Common.{◌≡◌, ◌∙◌, ◌∷◌, true, false, ℕ, List, Option, sym, subst}
use Rattle.memchr.specs.Find.{FindsNeedle, OccursAt}
use Rattle.sj_log.proofs.PartLemmas.{marked_behind, marked_first, marked_never}
use Rattle.sj_log.proofs.parts.find_line.Goals as goal

pub returns-then-is_prefix : goal.returns-then-is_prefix
returns-then-is_prefix c = marked_first c.args.mark.now c.args.source.now (c.is_prefix.ensures.0 c.if-is_prefix.true)

pub returns-in-Some : goal.returns-in-Some
returns-in-Some c =
    let source = c.args.source.now in let mark = c.args.mark.now in let at = c.in-Some.at in
    let found = subst (λ (xs : List ℕ). FindsNeedle source xs 0 c.find.result) c.requires c.find.ensures in
    let (first, here) = subst (λ (r : Option ℕ). FindsNeedle source (10 ∷ mark) 0 r) c.in-Some.is found in
    let away : ¬ OccursAt source mark 0 = λ occurs. let clash : false ≡ true = sym c.if-is_prefix.false ∙ c.is_prefix.ensures.1 occurs in cc in
    marked_behind mark source away at here first.before

pub returns-in-None : goal.returns-in-None
returns-in-None c =
    let source = c.args.source.now in let mark = c.args.mark.now in
    let found = subst (λ (xs : List ℕ). FindsNeedle source xs 0 c.find.result) c.requires c.find.ensures in
    let nowhere = subst (λ (r : Option ℕ). FindsNeedle source (10 ∷ mark) 0 r) c.in-None.is found in
    let away : ¬ OccursAt source mark 0 = λ occurs. let clash : false ≡ true = sym c.if-is_prefix.false ∙ c.is_prefix.ensures.1 occurs in cc in
    marked_never mark source away nowhere
