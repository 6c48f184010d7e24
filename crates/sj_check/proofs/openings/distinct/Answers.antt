use Rattle.std.proofs.Common.{List, ◌&&◌, get_or, drop, ◌+◌, refl, ap, sym, ◌∙◌}
use Rattle.sj_acceptance.specs.FileTests.{meets_each}
use Rattle.sj_check.specs.declared.openings.Opening.{Opening}
use Rattle.sj_check.specs.Openings.{openings_of, is_asked}
use Rattle.sj_check.proofs.OpeningLemmas.{left_out, kept}
use Rattle.sj_check.proofs.openings.distinct.Goals.{then-not-is_asked+in_ok-push, else-not-is_asked}
use Rattle.sj_check.proofs.openings.distinct.Goals as goal

pub loop-opening-preserved : goal.loop-opening-preserved
loop-opening-preserved c = λ ps b a.
    let all = c.args.all.now in
    let i = c.loop-opening.opening-index in
    let none : Opening = record { line = 0; protocol = 0; party = 0 } in
    let o : Opening = get_or all i none in
    let old = c.loop-opening.some.items in
    elim c.if-not-is_asked.branch [
      | then-not-is_asked+in_ok-push w ↦ kept ps b a all i o none c.loop-opening-test.true refl old (c.loop-opening.invariant ps b a) c.if-not-is_asked.some.items (ap (λ v. v.items) w.some-is ∙ w.in_ok-push.ensures.items)
      | else-not-is_asked w ↦
          ap (λ v. meets_each ps b a (openings_of v.items) && meets_each ps b a (openings_of (drop (i + 1) all))) w.some-is
          ∙ left_out ps b a all i o none c.loop-opening-test.true refl old (c.loop-opening.invariant ps b a)
          (ap (λ (os : List Opening). is_asked o.protocol o.party (openings_of os)) (sym c.deref.ensures.value) ∙ sym c.is_asked.ensures ∙ w.if-not-is_asked.false)
    ]
