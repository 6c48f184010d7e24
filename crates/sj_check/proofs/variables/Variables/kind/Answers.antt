use Rattle.std.proofs.Common.{slice_index, ap, sym, ◌∙◌}
use Rattle.std.specs.FinMap as map
use Rattle.sj_check.specs.Table.{kind_of_byte}
use Rattle.sj_check.proofs.TableLemmas.{get-kinds_in}
use Rattle.sj_check.proofs.variables.Variables.kind.Goals as goal

pub returns : goal.returns
returns c =
    c.kind_of.ensures ∙ ap kind_of_byte (c.at_or.ensures ∙ ap (λ bs. slice_index bs c.args.name) c.deref.ensures.value)
    ∙ sym (get-kinds_in c.self.inside.table.items c.args.name) ∙ ap (λ m. map.get m c.args.name) c.self.view_is
