use Rattle.std.proofs.Common.{◌∙◌, [], ◌∷◌, ◌++◌, map, ap, sym}
use Rattle.std.specs.Prelude.{is_some}
use Rattle.sj_seat_run.proofs.ListLemmas.{all_taken, mapped_more}
use Rattle.sj_seat_run.proofs.remains.seats_of.Goals as goal

pub loop-code-preserved : goal.loop-code-preserved
loop-code-preserved g c =
    c.in_ok-push.ensures.items ∙ (λ i. c.loop-code.invariant i ++ c.is_some.ensures i ∷ [])
    ∙ sym (mapped_more is_some c.args.codes.now c.loop-code.code-index c.code-item.result c.loop-code-test.true c.code-item.is)

pub returns : goal.returns
returns g c = c.loop-code.invariant ∙ ap (map is_some) (all_taken c.args.codes.now c.loop-code.code-index c.loop-code-test.false)
