-- What tokens do to the tables, apart from where they stand in a text.
use Rattle.std.proofs.Common.{◌≡◌, ℕ, false, List, [], ◌∷◌, ◌++◌, refl, ap, subst, ◌∙◌}
use Rattle.std.specs.Prelude.{if◌then◌else◌}
use Rattle.sj_grammar.specs.Reading.{Reading}
use Rattle.sj_grammar.specs.Names.{is_name}
use Rattle.sj_grammar.specs.Literals.{is_text, inner}
use Rattle.sj_grammar.specs.Tables.{with_entry}
use Rattle.sj_grammar.specs.Positions.{Pieces, At, at, Begins}
use Rattle.sj_grammar.proofs.LexingLemmas.{Lexes}

-- the tables after tokens
abbrev pub words_behind : List (List ℕ) → Pieces → List (List ℕ)
words_behind ws [] = ws
words_behind ws (s ∷ ps) = words_behind (if is_name s then with_entry ws s else ws) ps

abbrev pub texts_behind : List (List ℕ) → Pieces → List (List ℕ)
texts_behind ts [] = ts
texts_behind ts (s ∷ ps) = texts_behind (if is_text s then with_entry ts (inner s) else ts) ps

pub lexes_begins : (ps : Pieces) (r q : Reading) (ws ts : List (List ℕ)) → Lexes r ps q → Begins (at r ws ts) ps (at q (words_behind ws ps) (texts_behind ts ps))
lexes_begins [] r q ws ts h = λ i. at (h i) ws ts
lexes_begins (s ∷ ps) r q ws ts h =
    let vs = if is_name s then with_entry ws s else ws in
    let us = if is_text s then with_entry ts (inner s) else ts in (
      at h.0 vs us,
      record { what = h.1.what; rest = h.1.rest; token = h.1.token; there = λ i. at (h.1.there i) vs us },
      lexes_begins ps h.0 q vs us h.2,
    )

-- each of the pieces is such a one
abbrev pub AllPieces : (List ℕ → Type 0) → Pieces → Type 0
AllPieces P [] = Unit {0}
AllPieces P (s ∷ ps) = P s × AllPieces P ps

pub AllPieces-append : (P : List ℕ → Type 0) (a b : Pieces) → AllPieces P a → AllPieces P b → AllPieces P (a ++ b)
AllPieces-append P [] b h k = k
AllPieces-append P (s ∷ a) b h k = (h.0, AllPieces-append P a b h.1 k)

-- the token leaves the tables as they are
pub record IsOld (ws : List (List ℕ)) (s : List ℕ) : Type 0 where
  pub words : (if is_name s then with_entry ws s else ws) ≡ ws
  pub text : is_text s ≡ false

pub old_begins : (ps : Pieces) (r q : Reading) (ws ts : List (List ℕ)) → AllPieces (IsOld ws) ps → Lexes r ps q → Begins (at r ws ts) ps (at q ws ts)
old_begins ps r q ws ts old h =
    subst (λ (x : At). Begins (at r ws ts) ps x) (λ i. at q (old_words ps old i) (old_texts ps old i)) (lexes_begins ps r q ws ts h)
  where
    old_words : (ps : Pieces) → AllPieces (IsOld ws) ps → words_behind ws ps ≡ ws
    old_words [] all = refl
    old_words (s ∷ ps) all = ap (λ vs. words_behind vs ps) all.0.words ∙ old_words ps all.1

    old_texts : (ps : Pieces) → AllPieces (IsOld ws) ps → texts_behind ts ps ≡ ts
    old_texts [] all = refl
    old_texts (s ∷ ps) all = rw all.0.text (old_texts ps all.1)
