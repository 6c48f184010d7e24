use Rattle.std.proofs.Common.{◌≡◌, ◌++◌, OnOk, subst}
use Rattle.sj_draw.specs.declared.layout.Layout.{Layout}
use Rattle.sj_draw.specs.Drawn.{picture_at}
use Rattle.sj_draw.specs.Views.{chart_at}
use Rattle.sj_draw.proofs.picture.put_picture.Goals as goal

pub returns : goal.returns
returns c =
    let P : Layout → Type 0 = λ l. OnOk c.put_picture_at.result (c.put_picture_at.new.text.items ≡ c.args.text.now.items ++ picture_at l (chart_at c.args.chart.now)) in
    subst P c.layout_of.ensures.layout c.put_picture_at.ensures
