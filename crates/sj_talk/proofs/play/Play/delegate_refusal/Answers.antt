use Rattle.std.proofs.Common.{rules, ap, ◌∙◌}
use Rattle.sj_lang.specs.View.{place_of}
use Rattle.sj_talk.specs.Play.{talk_at}
use Rattle.sj_talk.specs.Rules.{front_of, place_under}
use Rattle.sj_talk.proofs.FrontLemmas.{carried_next_by, sends_end_by}
use Rattle.sj_talk.proofs.play.Play.delegate_refusal.Goals as goal

pub returns : goal.returns
returns c =
    let p = place_of c.items-items.result.now in
    let q = place_under (talk_at c.args.self.now) c.args.end.now in
    let e = ap front_of c.items-items.ensures ∙ c.in_ok-front.ensures in
    let sends = sends_end_by p q e in
    let carries = carried_next_by p q e in
    search (rules, sends, carries)
