use Rattle.std.proofs.Common.{◌∷◌, ◌<◌, [], arith, refl, subst, sym}
use Rattle.std.proofs.lemmas.Bool.{leb-false}
use Rattle.sj_base.specs.declared.EndId.{EndId}
use Rattle.sj_semantics.specs.Ends.{end_at}
use Rattle.sj_semantics.specs.Uses.{delegates, sends}
use Rattle.sj_semantics.specs.World.{session_message}
use Rattle.sj_text.proofs.CutLemmas.{on_err}
use Rattle.sj_talk.specs.Names.{ends_without}
use Rattle.sj_talk.specs.Play.{talk_at}
use Rattle.sj_talk.proofs.ActLemmas.{stepped_is, still}
use Rattle.sj_talk.proofs.play.Play.delegate.Goals as goal

pub delegate_on-requires : goal.delegate_on-requires
delegate_on-requires c = let t = talk_at c.args.self.now in subst (λ (e : EndId). (end_at t.world.sessions e).hops < 100) (sym c.end-end.ensures) (leb-false 100 _ c.requires.hops)

pub returns-clause-ok : goal.returns-clause-ok
returns-clause-ok c =
    let t = talk_at c.args.self.now in
    stepped_is t _ _ _ _ (ends_without t.ends c.args.sent.now)
    (λ i. (c.end-end.ensures i, delegates) ∷ (c.end-carrier.ensures i, sends (session_message (c.end-end.ensures i) t.party)) ∷ []) c.in_ok-delegate_on.ensures.ok c.unbind.ensures

pub returns-clause-played : goal.returns-clause-played
returns-clause-played c = record { few = c.requires.played.few; ordered = c.requires.played.ordered; lines = omega (arith, c.requires.room) }

pub returns-in_err-delegate_on-clause-err : goal.returns-in_err-delegate_on-clause-err
returns-in_err-delegate_on-clause-err c = on_err c.from_residual.result _ (still (talk_at c.args.self.now) _ _ c.in_err-delegate_on.ensures.err refl)

pub returns-in_err-delegate_on-clause-played : goal.returns-in_err-delegate_on-clause-played
returns-in_err-delegate_on-clause-played c = record { few = c.requires.played.few; ordered = c.requires.played.ordered; lines = c.requires.played.lines }
