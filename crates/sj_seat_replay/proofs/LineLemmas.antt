-- The lines of a log, put one after another.
use Rattle.std.proofs.Common.{◌≡◌, ◌∙◌, ◌<◌, ◌≤◌, ◌+◌, ℕ, List, [], ◌++◌, ap, append-nil, drop, get_or, length, map, sym}
use Rattle.std.proofs.Math.ListN.{drop_of_length-le}
use Rattle.std.proofs.lemmas.List.{drop_more}
use Rattle.sj_end.specs.Lines.{line_at}
use Rattle.sj_end.specs.declared.note.Line.{Line}
use Rattle.sj_lang.specs.FileAt.{FileAt}
use Rattle.sj_print.specs.LogLine.{log_line, log_text}
use Rattle.sj_text.proofs.CutLemmas.{StillTo, ahead_is, cut_within, one_more}
use Rattle.sj_text.specs.Cut.{IsCutShort}

module _ (file : FileAt) (lines : List Line) (i : ℕ) (old now new : List ℕ) where
  module _ (l : Line) (less : i < length lines) (still : StillTo old (log_text file (map line_at lines)) (log_text file (map line_at (drop i lines))) now) where
    here : StillTo old (log_text file (map line_at lines)) (log_line file (line_at (get_or lines i l)) ++ log_text file (map line_at (drop (i + 1) lines))) now
    here =
        ahead_is old (log_text file (map line_at lines)) _ _ now (ap (λ (ls : List Line). log_text file (map line_at ls)) (drop_more lines i l less)) still

    -- the next line is put
    pub put_next : new ≡ now ++ log_line file (line_at (get_or lines i l)) → StillTo old (log_text file (map line_at lines)) (log_text file (map line_at (drop (i + 1) lines))) new
    put_next put = one_more old _ _ _ now new here put

    -- or a part of it
    pub cut_next : IsCutShort now (log_line file (line_at (get_or lines i l))) new → IsCutShort old (log_text file (map line_at lines)) new
    cut_next cut = cut_within old _ _ _ now new here cut

  -- all are put
  pub all_lines : length lines ≤ i → StillTo old (log_text file (map line_at lines)) (log_text file (map line_at (drop i lines))) now → now ≡ old ++ log_text file (map line_at lines)
  all_lines over still =
      let none : still.some ++ log_text file (map line_at (drop i lines)) ≡ still.some =
      ap (λ (ls : List Line). still.some ++ log_text file (map line_at ls)) (drop_of_length-le lines over) ∙ append-nil still.some in
      still.appended ∙ ap (λ (t : List ℕ). old ++ t) (sym (still.begins ∙ none))
