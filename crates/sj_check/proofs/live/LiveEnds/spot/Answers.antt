use Rattle.std.proofs.Common.{None, slice_index_or, ap, sym, ◌∙◌}
use Rattle.std.specs.FinMap as map
use Rattle.sj_check.proofs.TableLemmas.{get-spots_in}
use Rattle.sj_check.proofs.live.LiveEnds.spot.Goals as goal

pub returns : goal.returns
returns c =
    c.at_or.ensures ∙ ap (λ os. slice_index_or os c.args.end None) c.deref.ensures.value ∙ sym (get-spots_in c.self.inside.table.items c.args.end)
    ∙ ap (λ m. map.get m c.args.end) c.self.view_is
