use Rattle.std.proofs.Common.{rules, option_and_then, ap, arith}
use Rattle.std.proofs.lemmas.Grind.{common_steps}
use Rattle.sj_rules.specs.History.{line_after}
use Rattle.sj_rules.specs.Party.{play_of}
use Rattle.sj_core.specs.NodeWorld.{file_in, world_in}
use Rattle.sj_core.specs.Views.{event_at}
use Rattle.sj_core.proofs.DueLemmas.{abroad_due}
use Rattle.sj_core.proofs.node_world.NodeWorld.made_line.Goals as goal

pub returns-then-not-is_there-clause-found : goal.returns-then-not-is_there-clause-found
returns-then-not-is_there-clause-found c = abroad_due c.args.self.now c.requires.led c.args.party c.args.event (c.is_there.ensures.absent (grind (arith, common_steps)))

pub returns-in-Err-NoStep-clause-found : goal.returns-in-Err-NoStep-clause-found
returns-in-Err-NoStep-clause-found c =
    ap (option_and_then (line_after (play_of (file_in c.args.self.now)) (world_in c.args.self.now) c.args.party (event_at c.args.event))) (c.happen.ensures.none.0 (search rules))
