-- Texts that are read as pieces, each on its line, whatever blanks stand before.
use Rattle.std.proofs.Common.{◌≡◌, ℕ, Bool, true, false, List, [], ◌∷◌, ◌++◌, IfSome, refl, ap, sym, subst, ◌∙◌, append_assoc}
use Rattle.std.specs.Prelude.{if◌then◌else◌, ◌&&◌}
use Rattle.std.specs.List.{list_all}
use Rattle.sj_grammar.specs.declared.tokens.What.{What}
use Rattle.sj_grammar.specs.Bytes.{is_blank}
use Rattle.sj_grammar.specs.Lexis.{token, next_of}
use Rattle.sj_grammar.specs.Reading.{Reading, passed, line_number}
use Rattle.sj_grammar.specs.Positions.{Piece, At, at, BeginsOnLines, plain, first_on, spellings}
use Rattle.sj_grammar.specs.Names.{is_name}
use Rattle.sj_grammar.specs.Literals.{is_text, inner}
use Rattle.sj_grammar.specs.Tables.{with_entry}
use Rattle.sj_grammar.specs.Asked.{TakesText}
use Rattle.sj_grammar.proofs.LexingLemmas.{read}
use Rattle.sj_grammar.proofs.LexedTableLemmas.{words_behind, texts_behind}

abbrev pub AreBlank : List ℕ → Type 0
AreBlank g = list_all is_blank g ≡ true

-- the next token is that piece, on its line
pub record TakesOnLine (r : Reading) (p : Piece) (m : Reading) : Type 0 where
  pub taken : TakesText r p.spelled m
  pub line : IfSome p.line (λ l. l ≡ line_number (passed r (p.spelled ++ taken.rest)))

-- the tokens ahead are these pieces
abbrev pub LexesOnLines : Reading → List Piece → Reading → Type 0
LexesOnLines r [] q = r ≡ q
LexesOnLines r (p ∷ ps) q = (m : Reading) × TakesOnLine r p m × LexesOnLines m ps q

lexes_append : (a b : List Piece) (r m q : Reading) → LexesOnLines r a m → LexesOnLines m b q → LexesOnLines r (a ++ b) q
lexes_append [] b r m q h k = subst (λ (x : Reading). LexesOnLines x b q) (sym h) k
lexes_append (p ∷ a) b r m q h k = (h.0, h.1, lexes_append a b h.0 m q h.2 k)

-- up to blanks before the rest
pub record Reaches (r : Reading) (ps : List Piece) (rest : List ℕ) : Type 0 where
  pub before : List ℕ
  pub blanks : List ℕ
  pub are : AreBlank blanks
  pub lexes : LexesOnLines r ps (read before (blanks ++ rest))

-- the text is these pieces, where such a text follows it
abbrev pub HasLines : (List ℕ → Type 0) → List ℕ → List Piece → Type 0
HasLines Behind t ps = (before g rest : List ℕ) → AreBlank g → Behind rest → Reaches (read before (g ++ (t ++ rest))) ps rest

pub blank_next : (g x : List ℕ) → AreBlank g → next_of (g ++ x) ≡ next_of x
blank_next [] x h = refl
blank_next (b ∷ g) x h = by_test (is_blank b) refl h (λ t. blank_next g x t)
  where
    by_test : (y : Bool) → is_blank b ≡ y → (y && list_all is_blank g) ≡ true → (AreBlank g → next_of (g ++ x) ≡ next_of x) → next_of (b ∷ (g ++ x)) ≡ next_of x
    by_test true e t more = rw e (more t)
    by_test false e t more = cc

pub blanks_append : (g h : List ℕ) → AreBlank g → AreBlank h → AreBlank (g ++ h)
blanks_append [] h a b = b
blanks_append (x ∷ g) h a b = by_test (is_blank x) refl a (λ t. blanks_append g h t b)
  where
    by_test : (y : Bool) → is_blank x ≡ y → (y && list_all is_blank g) ≡ true → (AreBlank g → AreBlank (g ++ h)) → (is_blank x && list_all is_blank (g ++ h)) ≡ true
    by_test true e t more = rw e (more t)
    by_test false e t more = cc

-- one text and the next
pub joins : (r : Reading) (ps qs : List Piece) (u rest : List ℕ) (h : Reaches r ps (u ++ rest)) → Reaches (read h.before (h.blanks ++ (u ++ rest))) qs rest → Reaches r (ps ++ qs) rest
joins r ps qs u rest h k = record {
  before = k.before;
  blanks = k.blanks;
  are = k.are;
  lexes = lexes_append ps qs r (read h.before (h.blanks ++ (u ++ rest))) (read k.before (k.blanks ++ rest)) h.lexes k.lexes;
}

pub lines_append : (Behind Then : List ℕ → Type 0) (t u : List ℕ) (ps qs : List Piece) → HasLines Behind t ps → HasLines Then u qs → ((rest : List ℕ) → Then rest → Behind (u ++ rest)) → HasLines Then (t ++ u) (ps ++ qs)
lines_append Behind Then t u ps qs h k free = λ before g rest blank end.
    let first : Reaches (read before (g ++ (t ++ (u ++ rest)))) ps (u ++ rest) = h before g (u ++ rest) blank (free rest end) in
    subst (λ (x : List ℕ). Reaches (read before (g ++ x)) (ps ++ qs) rest) (sym (append_assoc t u rest))
    (joins (read before (g ++ (t ++ (u ++ rest)))) ps qs u rest first (k first.before first.blanks rest first.are end))

pub lines_less : (Behind Then : List ℕ → Type 0) (t : List ℕ) (ps : List Piece) → ((rest : List ℕ) → Then rest → Behind rest) → HasLines Behind t ps → HasLines Then t ps
lines_less Behind Then t ps less h = λ before g rest blank end. h before g rest blank (less rest end)

-- blanks alone
pub blank_lines : (Behind : List ℕ → Type 0) (u : List ℕ) → AreBlank u → HasLines Behind u []
blank_lines Behind u all = λ before g rest blank free. record { before = before; blanks = g ++ u; are = blanks_append g u blank all; lexes = λ i. read before (sym (append_assoc g u rest) i) }

-- one token on no line, and one that begins something on its line
pub one_line : (Behind : List ℕ → Type 0) (t s : List ℕ) (what : What) → ((rest : List ℕ) → Behind rest → next_of (t ++ rest) ≡ token what s rest) → HasLines Behind t (plain s ∷ [])
one_line Behind t s what next = λ before g rest blank free. record {
  before = passed (read before (g ++ (t ++ rest))) rest;
  blanks = [];
  are = refl;
  lexes = (
    read (passed (read before (g ++ (t ++ rest))) rest) rest,
    record { taken = record { what = what; rest = rest; token = blank_next g (t ++ rest) blank ∙ next rest free; there = refl }; line = tt },
    refl,
  );
}

-- the line on which a token begins
abbrev pub line_here : List ℕ → List ℕ → List ℕ → List ℕ → ℕ
line_here before g s rest = line_number (passed (read before (g ++ (s ++ rest))) (s ++ rest))

pub first_line : (s : List ℕ) (what : What) (before g rest : List ℕ) → AreBlank g → next_of (s ++ rest) ≡ token what s rest → Reaches (read before (g ++ (s ++ rest))) (first_on (line_here before g s rest) s ∷ []) rest
first_line s what before g rest blank next = record {
  before = passed (read before (g ++ (s ++ rest))) rest;
  blanks = [];
  are = refl;
  lexes = (
    read (passed (read before (g ++ (s ++ rest))) rest) rest,
    record { taken = record { what = what; rest = rest; token = blank_next g (s ++ rest) blank ∙ next; there = refl }; line = refl },
    refl,
  );
}

-- with the tables that the pieces make
pub lines_begin : (ps : List Piece) (r q : Reading) (ws ts : List (List ℕ)) → LexesOnLines r ps q → BeginsOnLines (at r ws ts) ps (at q (words_behind ws (spellings ps)) (texts_behind ts (spellings ps)))
lines_begin [] r q ws ts h = λ i. at (h i) ws ts
lines_begin (p ∷ ps) r q ws ts h =
    let vs = if is_name p.spelled then with_entry ws p.spelled else ws in
    let us = if is_text p.spelled then with_entry ts (inner p.spelled) else ts in (
      at h.0 vs us,
      record { taken = record { what = h.1.taken.what; rest = h.1.taken.rest; token = h.1.taken.token; there = λ i. at (h.1.taken.there i) vs us }; line = h.1.line },
      lines_begin ps h.0 q vs us h.2,
    )

-- and those are the tables that a reader has
pub tables_made : (ps : List Piece) (a b : At) → BeginsOnLines a ps b → (b.words ≡ words_behind a.words (spellings ps)) × (b.texts ≡ texts_behind a.texts (spellings ps))
tables_made [] a b h = (ap (λ (x : At). x.words) (sym h), ap (λ (x : At). x.texts) (sym h))
tables_made (p ∷ ps) a b h =
    let rest = tables_made ps h.0 b h.2 in
    let there = h.1.taken.there in
    (rest.0 ∙ ap (λ (x : At). words_behind x.words (spellings ps)) there, rest.1 ∙ ap (λ (x : At). texts_behind x.texts (spellings ps)) there)
