-- Texts as tokens with the blanks before each, and the lines on which they stand.
use Rattle.std.proofs.Common.{◌≡◌, ℕ, ◌+◌, Bool, true, false, List, [], ◌∷◌, ◌++◌, refl, ap, sym, subst, ◌∙◌, append_assoc, append-nil}
use Rattle.std.specs.Prelude.{if◌then◌else◌, ◌==◌}
use Rattle.std.proofs.lemmas.List.Sums.{fold-append}
use Rattle.sj_grammar.specs.declared.tokens.What.{What}
use Rattle.sj_grammar.specs.Lexis.{token, next_of}
use Rattle.sj_grammar.specs.Literals.{is_text, inner}
use Rattle.sj_grammar.specs.Names.{is_name}
use Rattle.sj_grammar.specs.Positions.{Piece, At, at, plain, first_on, spellings, TakesPiece, BeginsOnLines}
use Rattle.sj_grammar.specs.Reading.{passed, line_number}
use Rattle.sj_grammar.specs.Tables.{with_entry}
use Rattle.sj_grammar.proofs.LexingLemmas.{read, passed_is}
use Rattle.sj_grammar.proofs.LexedTableLemmas.{words_behind, texts_behind}
use Rattle.sj_grammar.proofs.PositionLemmas.{lines_from as line_behind}

-- a token with the blanks before it; a party, a connection, a protocol or a
-- statement may begin with it
pub record Tok : Type 0 where
  pub gap : List ℕ
  pub spelled : List ℕ
  pub what : What
  pub opens : Bool

abbrev pub text_of : List Tok → List ℕ
text_of [] = []
text_of (k ∷ ks) = k.gap ++ (k.spelled ++ text_of ks)

abbrev pub piece_on : Bool → ℕ → List ℕ → Piece
piece_on true l s = first_on l s
piece_on false l s = plain s

-- the pieces of tokens, the first of them after blanks that begin on that line
abbrev pub pieces_of : ℕ → List Tok → List Piece
pieces_of l [] = []
pieces_of l (k ∷ ks) = piece_on k.opens (line_behind l k.gap) k.spelled ∷ pieces_of (line_behind l k.gap) ks

-- the next token is the first, and so on to the rest; none has a newline in it
abbrev pub AreTaken : List Tok → List ℕ → Type 0
AreTaken [] rest = Unit {0}
AreTaken (k ∷ ks) rest =
    (next_of (k.gap ++ (k.spelled ++ (text_of ks ++ rest))) ≡ token k.what k.spelled (text_of ks ++ rest)) × ((l : ℕ) → line_behind l k.spelled ≡ l) × AreTaken ks rest

line_append : (before xs : List ℕ) → line_number (before ++ xs) ≡ line_behind (line_number before) xs
line_append before xs = fold-append (λ n b. if b == 10 then n + 1 else n) 1 before xs

abbrev words_past : List (List ℕ) → List ℕ → List (List ℕ)
words_past ws s = if is_name s then with_entry ws s else ws

abbrev texts_past : List (List ℕ) → List ℕ → List (List ℕ)
texts_past ts s = if is_text s then with_entry ts (inner s) else ts

-- one token
taken_on : (b : Bool) (before gap s x : List ℕ) (what : What) (ws ts : List (List ℕ)) → next_of (gap ++ (s ++ x)) ≡ token what s x
    → TakesPiece (at (read before (gap ++ (s ++ x))) ws ts) (piece_on b (line_behind (line_number before) gap) s) (at (read (before ++ (gap ++ s)) x) (words_past ws s) (texts_past ts s))
taken_on b before gap s x what ws ts next =
    let after : passed (read before (gap ++ (s ++ x))) x ≡ before ++ (gap ++ s) = ap (λ t. passed (read before t) x) (sym (append_assoc gap s x)) ∙ passed_is before (gap ++ s) x in
    let line : line_behind (line_number before) gap ≡ line_number (passed (read before (gap ++ (s ++ x))) (s ++ x)) = sym (ap line_number (passed_is before gap (s ++ x)) ∙ line_append before gap) in
    by_kind b (λ i. at (read (sym after i) x) (words_past ws s) (texts_past ts s)) line
  where
    by_kind : (c : Bool) → at (read (before ++ (gap ++ s)) x) (words_past ws s) (texts_past ts s) ≡ at (read (passed (read before (gap ++ (s ++ x))) x) x) (words_past ws s) (texts_past ts s)
        → line_behind (line_number before) gap ≡ line_number (passed (read before (gap ++ (s ++ x))) (s ++ x))
        → TakesPiece (at (read before (gap ++ (s ++ x))) ws ts) (piece_on c (line_behind (line_number before) gap) s) (at (read (before ++ (gap ++ s)) x) (words_past ws s) (texts_past ts s))
    by_kind true there line = record { taken = record { what = what; rest = x; token = next; there = there }; line = line }
    by_kind false there line = record { taken = record { what = what; rest = x; token = next; there = there }; line = tt }

spelled_is : (b : Bool) (l : ℕ) (s : List ℕ) → (piece_on b l s).spelled ≡ s
spelled_is true l s = refl
spelled_is false l s = refl

-- all tokens
pub begins : (ks : List Tok) (before rest : List ℕ) (l : ℕ) (ws ts : List (List ℕ)) → line_number before ≡ l → AreTaken ks rest
    → BeginsOnLines (at (read before (text_of ks ++ rest)) ws ts) (pieces_of l ks) (at (read (before ++ text_of ks) rest) (words_behind ws (spellings (pieces_of l ks))) (texts_behind ts (spellings (pieces_of l ks))))
begins [] before rest l ws ts on all = λ i. at (read (sym (append-nil before) i) rest) ws ts
begins (k ∷ ks) before rest l ws ts on all =
    let s = k.spelled in
    let t = text_of ks in
    let x = t ++ rest in
    let on_it = line_behind l k.gap in
    let pieces = pieces_of l (k ∷ ks) in
    let others = spellings (pieces_of on_it ks) in
    let front = before ++ (k.gap ++ s) in
    let line : line_number front ≡ on_it = line_append before (k.gap ++ s) ∙ fold-append (λ n b. if b == 10 then n + 1 else n) (line_number before) k.gap s ∙ all.1 (line_behind (line_number before) k.gap) ∙ ap (λ m. line_behind m k.gap) on in
    let ahead = k.gap ++ (s ++ x) in
    let mid = at (read front x) (words_past ws s) (texts_past ts s) in
    let first : TakesPiece (at (read before ahead) ws ts) (piece_on k.opens on_it s) mid =
    subst (λ (m : ℕ). TakesPiece (at (read before ahead) ws ts) (piece_on k.opens (line_behind m k.gap) s) mid) on (taken_on k.opens before k.gap s x k.what ws ts all.0) in
    let whole : BeginsOnLines (at (read before ahead) ws ts) pieces (at (read (front ++ t) rest) (words_behind (words_past ws s) others) (texts_behind (texts_past ts s) others)) =
    (mid, first, begins ks front rest on_it (words_past ws s) (texts_past ts s) line all.2) in
    let same = spelled_is k.opens on_it s in
    let read_too : front ++ t ≡ before ++ text_of (k ∷ ks) = append_assoc before (k.gap ++ s) t ∙ ap (λ xs. before ++ xs) (append_assoc k.gap s t) in
    let regrouped : text_of (k ∷ ks) ++ rest ≡ ahead = append_assoc k.gap (s ++ t) rest ∙ ap (λ xs. k.gap ++ xs) (append_assoc s t rest) in
    subst (λ (xs : List ℕ). BeginsOnLines (at (read before xs) ws ts) pieces (at (read (before ++ text_of (k ∷ ks)) rest) (words_behind ws (spellings pieces)) (texts_behind ts (spellings pieces)))) (sym regrouped)
    (subst (λ (e : At). BeginsOnLines (at (read before ahead) ws ts) pieces e)
    (λ i. at (read (read_too i) rest) (words_behind (words_past ws (sym same i)) others) (texts_behind (texts_past ts (sym same i)) others)) whole)

-- ---- tokens after tokens

pub text_append : (a b : List Tok) → text_of (a ++ b) ≡ text_of a ++ text_of b
text_append [] b = refl
text_append (k ∷ a) b =
    ap (λ t. k.gap ++ (k.spelled ++ t)) (text_append a b) ∙ ap (λ t. k.gap ++ t) (sym (append_assoc k.spelled (text_of a) (text_of b))) ∙ sym (append_assoc k.gap (k.spelled ++ text_of a) (text_of b))

pub taken_append : (a b : List Tok) (rest : List ℕ) → AreTaken a (text_of b ++ rest) → AreTaken b rest → AreTaken (a ++ b) rest
taken_append [] b rest h k = k
taken_append (t ∷ a) b rest h k =
    let same : text_of a ++ (text_of b ++ rest) ≡ text_of (a ++ b) ++ rest = sym (append_assoc (text_of a) (text_of b) rest) ∙ ap (λ x. x ++ rest) (sym (text_append a b)) in
    (subst (λ (x : List ℕ). next_of (t.gap ++ (t.spelled ++ x)) ≡ token t.what t.spelled x) same h.0, h.1, taken_append a b rest h.2 k)
