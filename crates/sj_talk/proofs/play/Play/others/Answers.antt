use Rattle.std.proofs.Common.{ap, arith, refl}
use Rattle.std.proofs.lemmas.Result.{on_ok_weaker}
use Rattle.sj_plain.specs.Course.{world_in}
use Rattle.sj_semantics.specs.World.{World}
use Rattle.sj_text.proofs.CutLemmas.{on_err}
use Rattle.sj_talk.specs.Play.{talk_at}
use Rattle.sj_talk.proofs.SettledLemmas.{settled_is}
use Rattle.sj_talk.proofs.play.Play.others.Goals as goal

pub returns-clause-ok : goal.returns-clause-ok
returns-clause-ok c =
    let t = talk_at c.args.self.now in
    on_ok_weaker c.finish.result
    (λ r. ap (λ (w : World). record { file = t.file; party = t.party; world = w; ends = t.ends; lines = t.lines }) (settled_is (world_in c.args.self.now.course) (world_in c.finish.new.self) r.acts r.by))
    c.finish.ensures.ok

pub returns-clause-err : goal.returns-clause-err
returns-clause-err c =
    let on = c.finish.ensures.on in
    on_err c.finish.result _ (record { acts = on.acts; leads = on.leads; rest = refl })

pub returns-clause-played : goal.returns-clause-played
returns-clause-played c = record {
  few = omega (arith, c.finish.ensures.count, c.requires.played.few);
  ordered = c.finish.ensures.ordered;
  lines = c.requires.played.lines;
}
