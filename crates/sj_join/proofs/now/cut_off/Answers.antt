use Rattle.std.proofs.Common.{◌≡◌, ◌∙◌, ◌-◌, ap, length, rules, take}
use Rattle.sj_join.proofs.NowLemmas.{cut_is}
use Rattle.sj_join.proofs.now.cut_off.Goals as goal

pub returns : goal.returns
returns c front is =
    let n : c.saturating_sub.result ≡ length c.args.text.now.items - length c.args.last.now = search rules in
    c.truncate.ensures.items ∙ ap (λ k. take k c.args.text.now.items) n ∙ cut_is c.args.text.now.items front c.args.last.now is
