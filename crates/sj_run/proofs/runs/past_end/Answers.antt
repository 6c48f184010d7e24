use Rattle.std.proofs.Common.{◌+◌, ◌∙◌, length, ap, refl, sym}
use Rattle.std.proofs.lemmas.List.{length-map}
use Rattle.sj_end.specs.Lines.{line_at}
use Rattle.sj_run.proofs.runs.past_end.Goals as goal

pub returns : goal.returns
returns c = (
  refl,
  record {
    count = ap (λ n. n + 1) (sym (length-map c.history.result.now line_at) ∙ ap length c.history.ensures);
    found = c.due-due.ensures;
    differs = λ is. c.requires (c.due-due.ensures ∙ is);
  },
)
