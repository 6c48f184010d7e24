use Rattle.std.proofs.Common.{◌∷◌, ◌++◌, [], ap, arith}
use Rattle.sj_semantics.specs.Uses.{begins, takes}
use Rattle.sj_text.proofs.CutLemmas.{on_err}
use Rattle.sj_talk.specs.Play.{ends_at, talk_at}
use Rattle.sj_talk.proofs.ActLemmas.{ends_more, stepped_is, still}
use Rattle.sj_talk.proofs.play.Play.bind.Goals as goal

pub returns-clause-ok : goal.returns-clause-ok
returns-clause-ok c =
    let t = talk_at c.args.self.now in
    stepped_is t _ _ _ _ (t.ends ++ (c.args.name.now, c.args.taken) ∷ [])
    (λ i. (c.end-end.ensures i, takes c.args.msg.now) ∷ (c.args.taken, begins (c.in_ok-place.ensures i)) ∷ [])
    c.in_ok-take_end_on.ensures.ok
    (ends_more _ _ _ _ _ c.push_reserved.ensures.items c.reserve.ensures.items c.in_ok-name.ensures.items)

pub returns-clause-played : goal.returns-clause-played
returns-clause-played c = record { few = c.requires.played.few; ordered = c.requires.played.ordered; lines = omega (arith, c.requires.room) }

pub returns-in_err-take_end_on-clause-err : goal.returns-in_err-take_end_on-clause-err
returns-in_err-take_end_on-clause-err c = on_err c.from_residual-in_err-take_end_on.result _ (still (talk_at c.args.self.now) _ _ c.in_err-take_end_on.ensures.err (ap ends_at c.reserve.ensures.items))

pub returns-in_err-take_end_on-clause-played : goal.returns-in_err-take_end_on-clause-played
returns-in_err-take_end_on-clause-played c = record { few = c.requires.played.few; ordered = c.requires.played.ordered; lines = c.requires.played.lines }
