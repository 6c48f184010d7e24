use Rattle.std.proofs.Common.{ap, subst}
use Rattle.sj_lang.specs.FileAt.{FileAt}
use Rattle.sj_lang.specs.FileView.{file_of}
use Rattle.sj_tool.specs.ForestTexts.{IsForestText}
use Rattle.sj_tool.specs.Outcomes.{IsJudged}
use Rattle.sj_tool.proofs.files.shape.Goals as goal

pub returns-in_ok-forest_text-in-Accepted : goal.returns-in_ok-forest_text-in-Accepted
returns-in_ok-forest_text-in-Accepted c links log =
    let judged = subst (λ j. IsJudged c.args.file j) c.in-Accepted.is c.in_ok-accepted.ensures in
    (judged.1, subst (λ (f : FileAt). IsForestText f c.in_ok-forest_text-in-Accepted.field-0.items) (ap file_of judged.0) c.in_ok-forest_text-in-Accepted.ensures)
