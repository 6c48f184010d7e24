use Rattle.std.proofs.Common.{sym}
use Rattle.sj_talk.proofs.NameLemmas.{once_all, once_next}
use Rattle.sj_talk.proofs.names.once.Goals as goal

pub returns-in_default : goal.returns-in_default
returns-in_default c = once_all c.args.words.now c.loop-n.out c.loop-n.n (sym c.in_default.ensures) c.loop-n.invariant

pub loop-n-preserved : goal.loop-n-preserved
loop-n-preserved c =
    once_next c.args.words.now c.loop-n.out c.added.new.words c.loop-n.n c.in-Some.word.now (sym c.in-Some.ensures) c.in_ok-added.ensures.ok c.loop-n.invariant
