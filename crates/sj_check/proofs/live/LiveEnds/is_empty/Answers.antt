use Rattle.std.proofs.Common.{ap, sym, ◌∙◌}
use Rattle.sj_check.specs.Table.{is_blank}
use Rattle.sj_check.proofs.TableLemmas.{blank-empty}
use Rattle.sj_check.proofs.live.LiveEnds.is_empty.Goals as goal

pub returns : goal.returns
returns c =
    let is = c.is_blank.ensures ∙ ap is_blank c.deref.ensures.value in
    let both = blank-empty c.self.inside.table.items in
    (λ h. sym c.self.view_is ∙ both.0 (sym is ∙ h), λ e. is ∙ both.1 (c.self.view_is ∙ e))
