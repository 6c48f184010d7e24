-- A file with a log after it is split there.
use Rattle.std.proofs.Common.{◌≡◌, ℕ, ◌≤◌, Bool, true, false, List, [], ◌∷◌, ◌++◌, length, inl, inr, refl, ap, ◌∙◌, subst, arith}
use Rattle.std.specs.Prelude.{◌==◌, codes}
use Rattle.sj_lang.specs.FileAt.{FileAt}
use Rattle.sj_grammar.specs.Lexis.{next_of, at_end, token}
use Rattle.sj_grammar.specs.Positions.{At, Piece, BeginsOnLines, start}
use Rattle.sj_grammar.specs.Files.{IsFile}
use Rattle.sj_log.specs.Parts.{AreLines, IsParted, IsVersion, mark_of}
use Rattle.sj_legible_laws.proofs.TokenLemmas.{IsFree}
use Rattle.sj_legible_laws.proofs.FreeLemmas.{next_free}

read_free : (ps : List Piece) (a b : At) (at : Bool) → BeginsOnLines a ps b → next_of b.text.ahead ≡ at_end → IsFree at a.text.ahead
read_free [] a b at h whole = next_free at a.text.ahead at_end tt (ap (λ (x : At). next_of x.text.ahead) h ∙ whole)
read_free (p ∷ ps) a b at h whole =
    let taken = h.1.taken in
    let later : IsFree false h.0.text.ahead = read_free ps h.0 b false h.2 whole in
    let rest : IsFree false taken.rest = subst (λ (x : At). IsFree false x.text.ahead) taken.there later in
    next_free at a.text.ahead (token taken.what p.spelled taken.rest) rest taken.token

pub file_free : (text : List ℕ) (file : FileAt) → IsFile text file → IsFree true text
file_free text file is = read_free is.pieces (start text [] []) is.end true is.begins is.whole

-- whether a line begins after these bytes
abbrev begins_line : Bool → List ℕ → Bool
begins_line at [] = at
begins_line at (b ∷ bs) = begins_line (b == 10) bs

behind_newline : (at : Bool) (front : List ℕ) → begins_line at (front ++ 10 ∷ []) ≡ true
behind_newline at [] = refl
behind_newline at (b ∷ bs) = behind_newline (b == 10) bs

lines_begin : (text : List ℕ) → AreLines text → begins_line true text ≡ true
lines_begin text (inl e) = ap (begins_line true) e
lines_begin text (inr (front, e)) = ap (begins_line true) e ∙ behind_newline true front

-- a line that begins with a percent sign stands after all of a file
no_earlier : (at : Bool) (text other tail rest : List ℕ) → IsFree at text → begins_line at other ≡ true → text ++ rest ≡ other ++ 37 ∷ tail → length text ≤ length other
no_earlier at [] other tail rest free line e = omega arith
no_earlier at (b ∷ bs) [] tail rest free line e = let same : b ≡ 37 = cc in absurd (free.0 line same)
no_earlier at (b ∷ bs) (c ∷ cs) tail rest free line e =
    let same : b ≡ c = cc in
    let more : bs ++ rest ≡ cs ++ 37 ∷ tail = cc in
    let far = no_earlier (b == 10) bs cs tail rest free.1 (ap (λ (x : ℕ). begins_line (x == 10) cs) same ∙ line) more in
    omega (arith, far)

mark_begins : (version : ℕ) → IsVersion version → (tail : List ℕ) × (mark_of version ≡ 37 ∷ tail)
mark_begins version (inl e) = (codes "%log\n", ap mark_of e)
mark_begins version (inr e) = (codes "%log2\n", ap mark_of e)

pub parted_there : (text log : List ℕ) (file : FileAt) (version : ℕ) → IsFile text file → AreLines text → IsVersion version → IsParted (text ++ (mark_of version ++ log)) text version log
parted_there text log file version is lines known = record {
  here = record { known = known; marked = record { lines = lines; whole = refl } };
  first = λ other v rest part.
      let mark = mark_begins v part.known in
      no_earlier true text other (mark.0 ++ rest) (mark_of version ++ log) (file_free text file is) (lines_begin other part.marked.lines)
      (part.marked.whole ∙ ap (λ (m : List ℕ). other ++ (m ++ rest)) mark.1);
}
