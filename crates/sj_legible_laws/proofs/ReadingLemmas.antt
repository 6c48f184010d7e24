-- What was read of a text stands in its tables, and these have no more entries than the text has bytes.
use Rattle.std.proofs.Common.{◌≡◌, ℕ, ◌+◌, ◌≤◌, Bool, true, false, cond, List, [], ◌∷◌, ◌++◌, length, ap, sym, ◌∙◌, subst, arith}
use Rattle.std.specs.List.{AllByRecursion, list_all}
use Rattle.std.proofs.lemmas.List.{length-append}
use Rattle.sj_grammar.specs.Bytes.{is_printable}
use Rattle.sj_grammar.specs.Literals.{inner, quoted, is_text}
use Rattle.sj_grammar.specs.Names.{is_name}
use Rattle.sj_grammar.specs.Positions.{At, Takes, Piece, BeginsOnLines}
use Rattle.sj_grammar.specs.Tables.{with_entry}
use Rattle.sj_grammar.proofs.SplitLemmas.{next_split}
use Rattle.sj_legible_laws.proofs.TableLemmas.{Stands, entry_stands, others_stand, one_longer, inner_is, quotes_text}

-- a token that is a text in quotes stands among the texts
abbrev pub IsKept : List (List ℕ) → Piece → Type 0
IsKept texts p = (t : List ℕ) → list_all is_printable t ≡ true → p.spelled ≡ quoted t → Stands texts t

-- the table with the entry, or as it is
abbrev grown : Bool → List (List ℕ) → List ℕ → List (List ℕ)
grown b table s = cond b (with_entry table s) table

grown_stands : (b : Bool) (table : List (List ℕ)) (s t : List ℕ) → Stands table t → Stands (grown b table s) t
grown_stands true table s t h = others_stand table s t h
grown_stands false table s t h = h

grown_longer : (b : Bool) (table : List (List ℕ)) (s : List ℕ) → length (grown b table s) ≤ length table + 1
grown_longer true table s = one_longer table s
grown_longer false table s = omega arith

texts_after : (a m : At) (s : List ℕ) → Takes a s m → m.texts ≡ grown (is_text s) a.texts (inner s)
texts_after a m s t = ap (λ (x : At). x.texts) t.there

words_after : (a m : At) (s : List ℕ) → Takes a s m → m.words ≡ grown (is_name s) a.words s
words_after a m s t = ap (λ (x : At). x.words) t.there

-- a token has a byte at least
token_shorter : (a m : At) (s : List ℕ) → Takes a s m → length m.text.ahead + 1 ≤ length a.text.ahead
token_shorter a m s t =
    let split = next_split a.text.ahead t.what s t.rest t.token in
    let rest : length m.text.ahead ≡ length t.rest = ap (λ (x : At). length x.text.ahead) t.there in
    let long : length a.text.ahead ≡ length split.skipped + (length s + length t.rest) =
    ap length split.whole ∙ length-append split.skipped (s ++ t.rest) ∙ ap (λ n. length split.skipped + n) (length-append s t.rest) in
    omega (arith, rest, long, split.some)

pub texts_stay : (ps : List Piece) (a b : At) (t : List ℕ) → BeginsOnLines a ps b → Stands a.texts t → Stands b.texts t
texts_stay [] a b t h there = subst (λ (x : At). Stands x.texts t) h there
texts_stay (p ∷ ps) a b t h there =
    texts_stay ps h.0 b t h.2 (subst (λ (x : List (List ℕ)). Stands x t) (sym (texts_after a h.0 p.spelled h.1.taken)) (grown_stands (is_text p.spelled) a.texts (inner p.spelled) t there))

-- each text that was read
pub texts_kept : (ps : List Piece) (a b : At) → BeginsOnLines a ps b → AllByRecursion (IsKept b.texts) ps
texts_kept [] a b h = tt
texts_kept (p ∷ ps) a b h = (
  λ t printable e.
      let is : is_text p.spelled ≡ true = ap is_text e ∙ quotes_text t printable in
      let own : inner p.spelled ≡ t = ap inner e ∙ inner_is t in
      let now : Stands h.0.texts t =
      subst (λ (x : List (List ℕ)). Stands x t)
      (sym (texts_after a h.0 p.spelled h.1.taken ∙ ap (λ (c : Bool). grown c a.texts (inner p.spelled)) is ∙ ap (with_entry a.texts) own)) (entry_stands a.texts t) in
      texts_stay ps h.0 b t h.2 now,
  texts_kept ps h.0 b h.2,
)

-- no more entries than bytes
pub few_entries : (ps : List Piece) (a b : At) → BeginsOnLines a ps b
    → (length b.words + length b.text.ahead ≤ length a.words + length a.text.ahead) × (length b.texts + length b.text.ahead ≤ length a.texts + length a.text.ahead)
few_entries [] a b h = subst
    (λ (x : At). (length x.words + length x.text.ahead ≤ length a.words + length a.text.ahead) × (length x.texts + length x.text.ahead ≤ length a.texts + length a.text.ahead)) h (omega arith, omega arith)
few_entries (p ∷ ps) a b h =
    let m = h.0 in
    let later = few_entries ps m b h.2 in
    let shorter = token_shorter a m p.spelled h.1.taken in
    let words : length m.words ≤ length a.words + 1 = subst (λ (x : List (List ℕ)). length x ≤ length a.words + 1) (sym (words_after a m p.spelled h.1.taken)) (grown_longer (is_name p.spelled) a.words p.spelled) in
    let texts : length m.texts ≤ length a.texts + 1 = subst (λ (x : List (List ℕ)). length x ≤ length a.texts + 1) (sym (texts_after a m p.spelled h.1.taken)) (grown_longer (is_text p.spelled) a.texts (inner p.spelled)) in
    (omega (arith, later.0, shorter, words), omega (arith, later.1, shorter, texts))
