use Rattle.std.proofs.Common.{◌∙◌, sym}
use Rattle.sj_check.specs.Held.{file_in as held}
use Rattle.sj_lang.specs.FileView.{file_of}
use Rattle.sj_forward.proofs.WorldLemmas.{drained_of}
use Rattle.sj_forward.proofs.forward.ForwardWorld.drained.Goals as goal

pub returns-clause-drained : goal.returns-clause-drained
returns-clause-drained c =
    drained_of (file_of (held c.args.accepted.now)) c.in_ok-world.world c.drain.new.self c.in_ok-world.ensures.kept c.in_ok-world.ensures.parties c.in_ok-world.ensures.world c.in_ok-world.ensures.passed
    c.in_ok-drain.ensures.drained c.in_ok-drain.ensures.end c.drain.ensures.kept
