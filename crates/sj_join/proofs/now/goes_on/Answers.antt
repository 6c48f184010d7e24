use Rattle.std.proofs.Common.{◌<◌, ◌+◌, ◌∙◌, arith, drop, length, sym}
use Rattle.std.specs.List.{list_any}
use Rattle.sj_plain.specs.Plain.{world_at}
use Rattle.sj_semantics.specs.State.{states_from}
use Rattle.sj_join.specs.Now.{is_ready}
use Rattle.sj_join.proofs.NowLemmas.{any_first, any_later, none_ready, ready_step}
use Rattle.sj_join.proofs.now.goes_on.Goals as goal

pub returns-then-is_ready : goal.returns-then-is_ready
returns-then-is_ready c =
    let w = world_at c.args.plain.now in
    let i = c.loop-i.i in
    let within : i < length w.parties = omega (arith, c.loop-i-test.true, c.parties-i-end.ensures.count) in
    sym (c.loop-i.invariant ∙ ready_step w w.parties i c.state.result within c.state.ensures
    ∙ any_first (is_ready c.state.result) (list_any is_ready (states_from w (i + 1) (drop (i + 1) w.parties))) (sym c.is_ready.ensures ∙ c.if-is_ready.true))

pub loop-i-preserved : goal.loop-i-preserved
loop-i-preserved c =
    let w = world_at c.args.plain.now in
    let i = c.loop-i.i in
    let within : i < length w.parties = omega (arith, c.loop-i-test.true, c.parties-i-end.ensures.count) in
    c.loop-i.invariant ∙ ready_step w w.parties i c.state.result within c.state.ensures
    ∙ any_later (is_ready c.state.result) (list_any is_ready (states_from w (i + 1) (drop (i + 1) w.parties))) (sym c.is_ready.ensures ∙ c.if-is_ready.false)

pub returns : goal.returns
returns c =
    let w = world_at c.args.plain.now in
    sym (c.loop-i.invariant ∙ none_ready w w.parties c.loop-i.i (omega (arith, c.loop-i-test.false, c.parties-i-end.ensures.count)))
