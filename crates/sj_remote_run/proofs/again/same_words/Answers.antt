use Rattle.std.proofs.Common.{◌≡◌, length, rules}
use Rattle.sj_remote_run.proofs.WordLemmas.{same_more}
use Rattle.sj_remote_run.proofs.again.same_words.Goals as goal

pub loop-i-preserved : goal.loop-i-preserved
loop-i-preserved c =
    let long : length c.args.these.now ≡ length c.args.those.now = search rules in
    let same : c.index-these-i.result.items ≡ c.index-those-i.result.items = search rules in
    same_more c.args.these.now c.args.those.now c.loop-i.i c.index-these-i.result c.index-those-i.result c.loop-i-test.true long c.index-these-i.is c.index-those-i.is same c.loop-i.invariant
