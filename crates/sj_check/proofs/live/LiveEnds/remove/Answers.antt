use Rattle.std.proofs.Common.{ap, ◌∙◌}
use Rattle.std.specs.FinMap as map
use Rattle.sj_check.proofs.TableLemmas.{spots_in-cleared}
use Rattle.sj_check.proofs.live.LiveEnds.remove.Goals as goal

pub returns : goal.returns
returns c =
    spots_in-cleared c.self.inside.table.items c.clear.new.table.items c.args.end c.clear.ensures.there c.clear.ensures.kept
    ∙ ap (λ m. map.remove m c.args.end) c.self.view_is
