use Rattle.std.proofs.Common.{rules, ◌==◌, not}
use Rattle.std.proofs.lemmas.Fn.{filter_same}
use Rattle.sj_machine.proofs.ends.unbind.Goals as goal

pub returns-clause-items : goal.returns-clause-items
returns-clause-items c = filter_same _ (λ b. not (b.0 == c.args.name)) _ (λ x r f' k. search rules) c.args.ends.now.items c.retain.new.self.items c.retain.ensures.filtered
