use Rattle.std.proofs.Common.{ap, Some, arith}
use Rattle.sj_lang.specs.Place.{Place}
use Rattle.sj_table.proofs.ArmLemmas.{entered_at}
use Rattle.sj_table.proofs.leads.arm_entered.Goals as goal

pub returns-then-arm-inside-clause-place : goal.returns-then-arm-inside-clause-place
returns-then-arm-inside-clause-place c = λ places rest h.
    let e = entered_at places c.args.choice.now rest c.args.inside.now c.in-Some.arm 0 h c.in-Some.ensures.within in
    rw (c.in-Label.is, c.in-Some.ensures.found) (ap (λ (p : Place). Some p) e.2)

pub returns-then-arm-inside-clause-there : goal.returns-then-arm-inside-clause-there
returns-then-arm-inside-clause-there c = λ places rest h.
    (entered_at places c.args.choice.now rest c.args.inside.now c.in-Some.arm 0 h c.in-Some.ensures.within).1

pub returns-else-arm-inside-clause-place : goal.returns-else-arm-inside-clause-place
returns-else-arm-inside-clause-place c = λ places rest h.
    let e = entered_at places c.args.choice.now rest c.args.inside.now c.in-Some.arm 0 h c.in-Some.ensures.within in
    absurd (omega (arith, e.0))
