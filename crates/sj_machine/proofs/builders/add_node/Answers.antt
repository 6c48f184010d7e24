use Rattle.std.proofs.Common.{◌∙◌, arith}
use Rattle.std.proofs.lemmas.Grind.{common_steps}
use Rattle.sj_machine.proofs.BuildLemmas.{grown_push, pushed_code}
use Rattle.sj_machine.proofs.builders.add_node.Goals as goal

pub returns-clause-code : goal.returns-clause-code
returns-clause-code c = pushed_code c.args.nodes.now.items c.push.new.self.items (record { line = c.args.line; op = c.args.op; next = c.args.next }) c.len-here.result c.in_ok-push.ensures.items (c.len-here.ensures ∙ grind (arith, common_steps))

pub returns-clause-grown : goal.returns-clause-grown
returns-clause-grown c = grown_push c.args.nodes.now.items c.push.new.self.items (record { line = c.args.line; op = c.args.op; next = c.args.next }) c.in_ok-push.ensures.items c.requires.back c.requires.next c.requires.op
