use Rattle.std.proofs.Common.{arith}
use Rattle.sj_lang.specs.FileView.{file_of}
use Rattle.sj_join.proofs.JoinLemmas.{next_log}
use Rattle.sj_join.proofs.joins.logs_of.Goals as goal

pub loop-party-preserved : goal.loop-party-preserved
loop-party-preserved c =
    next_log (file_of c.args.file.now) c.loop-party.party _ c.args.texts.now c.index-texts-party.result c.deref.result.now c.loop-party.logs.items c.push.new.self.items c.in_ok-log_of.field-0
    c.loop-party.invariant c.loop-party-test.true c.index-texts-party.is c.deref.ensures.value (omega (arith, c.requires.few, c.loop-party-test.true)) c.in_ok-log_of.ensures.log c.in_ok-push.ensures.items
