-- A text with a newline after it stands for the same file.
use Rattle.std.proofs.Common.{◌≡◌, ℕ, ◌-◌, List, [], ◌∷◌, ◌++◌, length, take, Option, Some, None, IfSome, ap, sym, ◌∙◌, append_assoc, arith}
use Rattle.std.proofs.lemmas.List.{length-append}
use Rattle.sj_lang.specs.FileAt.{FileAt}
use Rattle.sj_grammar.specs.Reading.{Reading, passed, line_number}
use Rattle.sj_grammar.specs.Positions.{At, past, Takes, Piece, BeginsOnLines, start}
use Rattle.sj_grammar.specs.Files.{IsFile}
use Rattle.sj_legible_laws.proofs.NewlineLemmas.{ended, ended_ahead, same_front, same_next}

-- where a reader stands, with a newline after the text
abbrev ended_reading : Reading → Reading
ended_reading r = record { before = r.before; ahead = ended r.ahead }

abbrev ended_at : At → At
ended_at a = record { text = ended_reading a.text; words = a.words; texts = a.texts }

same_passed : (r : Reading) (rest : List ℕ) → passed (ended_reading r) (ended rest) ≡ passed r rest
same_passed r rest =
    let n : ℕ = length r.ahead - length rest in
    let same : length (ended r.ahead) - length (ended rest) ≡ n = omega (arith, length-append r.ahead (10 ∷ []), length-append rest (10 ∷ [])) in
    ap (λ (t : List ℕ). r.before ++ t) (ap (λ k. take k (ended r.ahead)) same ∙ same_front n r.ahead (omega arith))

takes_ended : (a m : At) (s : List ℕ) → Takes a s m → Takes (ended_at a) s (ended_at m)
takes_ended a m s t = record {
  what = t.what;
  rest = ended t.rest;
  token = same_next a.text.ahead ∙ ap ended_ahead t.token;
  there = ap ended_at t.there ∙ (λ i. record { text = record { before = sym (same_passed a.text t.rest) i; ahead = ended t.rest }; words = (past a s t.rest).words; texts = (past a s t.rest).texts });
}

line_ended : (o : Option ℕ) (x y : ℕ) → x ≡ y → IfSome o (λ l. l ≡ x) → IfSome o (λ l. l ≡ y)
line_ended None x y e h = tt
line_ended (Some l) x y e h = h ∙ e

begins_ended : (ps : List Piece) (a b : At) → BeginsOnLines a ps b → BeginsOnLines (ended_at a) ps (ended_at b)
unfolding takes_ended
begins_ended [] a b h = ap ended_at h
begins_ended (p ∷ ps) a b h =
    let t = h.1.taken in
    let same : line_number (passed a.text (p.spelled ++ t.rest)) ≡ line_number (passed (ended_reading a.text) (p.spelled ++ ended t.rest)) =
    ap line_number (sym (same_passed a.text (p.spelled ++ t.rest)) ∙ ap (passed (ended_reading a.text)) (append_assoc p.spelled t.rest (10 ∷ []))) in
    (ended_at h.0, record { taken = takes_ended a h.0 p.spelled t; line = line_ended p.line _ _ same h.1.line }, begins_ended ps h.0 b h.2)

pub file_ended : (text : List ℕ) (file : FileAt) → IsFile text file → IsFile (ended text) file
file_ended text file is = record {
  pieces = is.pieces;
  spelled = is.spelled;
  end = ended_at is.end;
  begins = begins_ended is.pieces (start text [] []) is.end is.begins;
  whole = same_next is.end.text.ahead ∙ ap ended_ahead is.whole;
  words = is.words;
  texts = is.texts;
}
