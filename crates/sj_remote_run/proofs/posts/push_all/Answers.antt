use Rattle.std.proofs.Common.{◌≡◌, ◌+◌, ◌<◌, ◌∙◌, ℕ, arith, get_or, length, rules, subst, sym}
use Rattle.std.proofs.Math.ListN.{set}
use Rattle.sj_engine.specs.Home.{CarriesHome}
use Rattle.sj_node.specs.Reading.{parties_of}
use Rattle.sj_work.proofs.RestLemmas.{takes_later}
use Rattle.sj_remote_run.proofs.PostLemmas.{Pushing, goes_home, pushing_more, pushing_none}
use Rattle.sj_remote_run.proofs.posts.push_all.Goals as goal

pub loop-to-init : goal.loop-to-init
loop-to-init c = pushing_none c.args.lanes.now.outs.items c.args.node.now

pub loop-to-preserved : goal.loop-to-preserved
loop-to-preserved c =
    let outs = c.args.lanes.now.outs.items in
    let n = c.args.node.now in
    let later = c.loop-to.lanes.outs.items in
    let lane = c.index_mut.result.now in
    let e : c.from-in-loop-to.result ≡ c.loop-to.to = search rules in
    let less : c.loop-to.to < length later = search rules in
    let is : lane ≡ get_or later c.loop-to.to lane = subst (λ (k : ℕ). lane ≡ get_or later k lane) e c.index_mut.ensures.value in
    subst (λ (k : ℕ). Pushing outs n (set later k c.push_out.new.lane) c.push_out.new.node (c.loop-to.to + 1)) (sym e)
    (pushing_more outs n later c.loop-to.node c.loop-to.to c.loop-to.invariant lane c.push_out.new.lane c.push_out.new.node less is c.in_ok-push_out.ensures.goes c.in_ok-push_out.ensures.none)

pub returns-in_err-push_out-clause-node : goal.returns-in_err-push_out-clause-node
returns-in_err-push_out-clause-node c = takes_later c.args.node.now c.loop-to.node c.push_out.new.node c.loop-to.invariant.node c.push_out.ensures.node

pub returns-in-Ok-clause-out : goal.returns-in-Ok-clause-out
returns-in-Ok-clause-out c =
    let n = c.args.node.now in
    let long : length c.args.lanes.now.outs.items ≡ parties_of n = search rules in
    goes_home c.args.lanes.now.outs.items n c.loop-to.node c.loop-to.to c.loop-to.lanes c.carry_home.new.lanes c.loop-to.invariant
    (subst (λ (p : ℕ). CarriesHome p c.loop-to.lanes c.carry_home.new.lanes) (c.party.ensures ∙ c.loop-to.invariant.node.party) c.carry_home.ensures.carried)
    (λ q le less. c.targets-to-end.ensures.none q (omega (arith, c.loop-to-test.false, le)) less) long
