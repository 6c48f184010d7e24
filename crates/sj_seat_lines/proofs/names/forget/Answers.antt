use Rattle.std.proofs.Common.{rules, not, ◌∙◌, ap}
use Rattle.std.proofs.lemmas.Fn.{filter_same}
use Rattle.sj_rules.specs.Record.{is_same_end}
use Rattle.sj_seat_lines.specs.Names.{named}
use Rattle.sj_seat_lines.proofs.NameLemmas.{freed}
use Rattle.sj_seat_lines.proofs.names.forget.Goals as goal

pub returns : goal.returns
returns c =
    ap named (filter_same _ (λ b. not (is_same_end b.end c.args.end)) _ (λ x r f' k. search rules) c.args.names.now.items c.retain.new.self.items c.retain.ensures.filtered)
    ∙ freed c.args.names.now.items c.args.end
