use Rattle.std.proofs.Common.{◌≡◌, ◌+◌, ◌++◌, get_or, rules, sym, ap, ◌∙◌, append_assoc, drop, map}
use Rattle.sj_engine.specs.Lanes.{pushed_on}
use Rattle.sj_streams.specs.Words.{words_at}
use Rattle.sj_remote_run.specs.Entries.{frames_from, lane_words}
use Rattle.sj_remote_run.proofs.WordLemmas.{frames_end, frames_step}
use Rattle.sj_remote_run.proofs.entries.batch_words.Goals as goal

pub loop-to-preserved : goal.loop-to-preserved
loop-to-preserved c =
    let party = c.args.party in
    let to = c.loop-to.to in
    let outs = c.args.outs.now in
    let lane = c.index-outs-from.result in
    let at : c.from.result ≡ to = search rules in
    let before = words_at c.loop-to.words.items in
    let others = frames_from party (to + 1) (map pushed_on (drop (to + 1) outs)) in
    c.loop-to.invariant ∙ ap (λ ws. before ++ ws) (frames_step party outs to lane c.loop-to-test.true (c.index-outs-from.is ∙ ap (λ i. get_or outs i lane) at))
    ∙ sym (append_assoc before (lane_words party to (pushed_on lane)) others) ∙ ap (λ ws. ws ++ others) (sym c.in_ok-add_lane.ensures.frames)

pub returns-clause-words : goal.returns-clause-words
returns-clause-words c = sym (c.loop-to.invariant ∙ frames_end c.args.party c.args.outs.now c.loop-to.to _ c.loop-to-test.false)
