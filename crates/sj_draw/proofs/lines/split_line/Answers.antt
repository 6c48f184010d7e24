use Rattle.std.proofs.Common.{ap, ◌∙◌}
use Rattle.sj_draw.specs.Lines.{split_line, worded_line}
use Rattle.sj_draw.specs.Words.{word}
use Rattle.sj_draw.proofs.lines.split_line.Goals as goal

pub returns : goal.returns
unfolding split_line
returns c =
    c.worded_line.ensures ∙ ap (λ w. worded_line w c.cut.result.1.now) c.cut.ensures.before
    ∙ ap (λ r. worded_line (word c.args.line.now) r) c.cut.ensures.behind
