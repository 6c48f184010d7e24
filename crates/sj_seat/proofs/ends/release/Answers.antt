use Rattle.std.proofs.Common.{rules, not, ◌∙◌, ap}
use Rattle.std.proofs.lemmas.Fn.{filter_same}
use Rattle.sj_rules.specs.Record.{is_same_end}
use Rattle.sj_seat.specs.Holding.{ends_at}
use Rattle.sj_seat.proofs.HoldingLemmas.{released}
use Rattle.sj_seat.proofs.ends.release.Goals as goal

pub returns : goal.returns
returns c =
    ap (ends_at c.args.table.now) (filter_same _ (λ b. not (is_same_end b.end c.args.end)) _ (λ x r f' k. search rules) c.args.ends.now.items c.retain.new.self.items c.retain.ensures.filtered)
    ∙ released c.args.table.now c.args.ends.now.items c.args.end
