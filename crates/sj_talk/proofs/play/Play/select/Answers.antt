use Rattle.std.proofs.Common.{◌∙◌, ap, unwrap_or}
use Rattle.std.proofs.lemmas.Result.{on_ok_weaker}
use Rattle.sj_talk.specs.Play.{talk_at}
use Rattle.sj_talk.proofs.ActLemmas.{label_used}
use Rattle.sj_talk.proofs.play.Play.select.Goals as goal

pub returns-clause-ok : goal.returns-clause-ok
returns-clause-ok c =
    on_ok_weaker c.send.result
    (λ used. label_used (talk_at c.args.self.now) (talk_at c.send.new.self) c.args.end.now c.args.label.now c.unwrap_or-number.result (c.unwrap_or-number.ensures ∙ ap (λ o. unwrap_or o 0) c.label.ensures) used)
    c.send.ensures.ok
