use Rattle.std.proofs.Common.{◌∙◌, ap, arith}
use Rattle.std.specs.Global.{Vec}
use Rattle.std.proofs.lemmas.List.{take_all}
use Rattle.sj_end.specs.declared.note.Entry.{Entry}
use Rattle.sj_core.specs.Tails.{last_clocks}
use Rattle.sj_core.proofs.LastLemmas.{clocks_more}
use Rattle.sj_core.proofs.tails.clocks_of.Goals as goal

pub loop-log-preserved : goal.loop-log-preserved
loop-log-preserved c =
    clocks_more c.args.logs.now c.loop-log.log-index c.log-item.result c.deref.result.now c.loop-log.clocks.items _ c.last_clock.result c.loop-log-test.true
    (c.deref.ensures.value ∙ ap (λ (v : Vec Entry). v.items) c.log-item.is) c.loop-log.invariant c.last_clock.ensures c.in_ok-push.ensures.items

pub returns : goal.returns
returns c = c.loop-log.invariant ∙ ap last_clocks (take_all c.loop-log.log-index c.args.logs.now (omega (arith, c.loop-log-test.false)))
