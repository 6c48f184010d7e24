use Rattle.std.proofs.Common.{ap, List, is_none, rules, tests}
use Rattle.std.proofs.lemmas.List.Elements.{filter_from_retain}
use Rattle.sj_draw.specs.declared.chart.Arrow.{Arrow}
use Rattle.sj_draw.specs.Chart.{ArrowAt}
use Rattle.sj_draw.specs.Views.{chart_at}
use Rattle.sj_draw.proofs.ChartLemmas.{untaken_stay}
use Rattle.sj_draw.proofs.chart.Chart.begin_log.Goals as goal

pub returns : goal.returns
returns c =
    let f = chart_at c.args.self.now in let old = c.args.self.now.arrows.items in let new = c.retain.new.self.items in
    ap (λ (xs : List ArrowAt). record f { arrows = xs }) (untaken_stay old new (filter_from_retain _ (λ (a : Arrow). is_none a.to) (λ p x b q h. search (rules, tests)) _ old new c.retain.ensures.filtered))
