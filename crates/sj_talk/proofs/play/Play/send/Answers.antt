use Rattle.std.proofs.Common.{◌∷◌, [], ap, arith, refl}
use Rattle.sj_semantics.specs.Uses.{sends}
use Rattle.sj_text.proofs.CutLemmas.{on_err}
use Rattle.sj_talk.specs.Play.{talk_at}
use Rattle.sj_talk.proofs.ActLemmas.{stepped_is, still}
use Rattle.sj_talk.proofs.play.Play.send.Goals as goal

pub returns-clause-ok : goal.returns-clause-ok
returns-clause-ok c = let t = talk_at c.args.self.now in stepped_is t _ _ _ t.ends t.ends (ap (λ e. (e, sends c.args.msg) ∷ []) c.end-end.ensures) c.in_ok-send_on.ensures.ok refl

pub returns-clause-played : goal.returns-clause-played
returns-clause-played c = record { few = c.requires.played.few; ordered = c.requires.played.ordered; lines = omega (arith, c.requires.room) }

pub returns-in_err-send_on-clause-err : goal.returns-in_err-send_on-clause-err
returns-in_err-send_on-clause-err c = on_err c.from_residual.result _ (still (talk_at c.args.self.now) _ _ c.in_err-send_on.ensures.err refl)

pub returns-in_err-send_on-clause-played : goal.returns-in_err-send_on-clause-played
returns-in_err-send_on-clause-played c = record { few = c.requires.played.few; ordered = c.requires.played.ordered; lines = c.requires.played.lines }
