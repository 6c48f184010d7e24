-- Texts that have given tokens, whatever stands before and after them.
use Rattle.std.proofs.Common.{◌≡◌, ℕ, ◌-◌, Bool, true, false, IsTrue, List, [], ◌∷◌, ◌++◌, length, take, refl, ap, sym, subst, ◌∙◌, arith, append_assoc, append-nil, length-append}
use Rattle.std.specs.Prelude.{◌&&◌, nat_eq, not}
use Rattle.std.specs.List.{prefix_len, list_all}
use Rattle.std.proofs.Math.Seq.{take-append_seam, drop-append_seam}
use Rattle.std.proofs.lemmas.Bool.{ne_eqb}
use Rattle.sj_grammar.specs.declared.tokens.What.{What}
use Rattle.sj_grammar.specs.declared.tokens.What.TheVariants.{Word}
use Rattle.sj_grammar.specs.Bytes.{is_blank, is_letter, is_word_byte, begins_with}
use Rattle.sj_grammar.specs.Lexis.{token, cut, next_of}
use Rattle.sj_grammar.specs.Names.{is_word, is_name, is_reserved}
use Rattle.sj_grammar.specs.Reading.{Reading, passed}
use Rattle.sj_grammar.specs.Positions.{Pieces}
use Rattle.sj_grammar.specs.Asked.{TakesText}

-- the tokens ahead are spelled so, and the text is then read up to there
abbrev pub Lexes : Reading → Pieces → Reading → Type 0
Lexes r [] q = r ≡ q
Lexes r (s ∷ ps) q = (m : Reading) × TakesText r s m × Lexes m ps q

Lexes-append : (a b : Pieces) (r m q : Reading) → Lexes r a m → Lexes m b q → Lexes r (a ++ b) q
Lexes-append [] b r m q h k = subst (λ (x : Reading). Lexes x b q) (sym h) k
Lexes-append (s ∷ a) b r m q h k = (h.0, h.1, Lexes-append a b h.0 m q h.2 k)

abbrev pub read : List ℕ → List ℕ → Reading
read before ahead = record { before = before; ahead = ahead }

-- the text has these tokens, where such a text follows it
abbrev pub HasPieces : (List ℕ → Type 0) → List ℕ → Pieces → Type 0
HasPieces Behind t ps = (before rest : List ℕ) → Behind rest → Lexes (read before (t ++ rest)) ps (read (before ++ t) rest)

-- what may follow: anything; no more of a word; no `=`
abbrev pub Any : List ℕ → Type 0
Any rest = Unit {0}

abbrev pub NoWordByte : List ℕ → Type 0
NoWordByte [] = Unit {0}
NoWordByte (b ∷ bs) = is_word_byte b ≡ false

abbrev pub NoEqual : List ℕ → Type 0
NoEqual rest = begins_with 61 rest ≡ false

pub passed_is : (before t rest : List ℕ) → passed (read before (t ++ rest)) rest ≡ before ++ t
passed_is before t rest =
    let long : length (t ++ rest) - length rest ≡ length t = omega (arith, length-append t rest) in
    ap (λ xs. before ++ xs) (ap (λ n. take n (t ++ rest)) long ∙ take-append_seam t rest)

-- one token, maybe after blanks
pub one_piece : (Behind : List ℕ → Type 0) (t s : List ℕ) (what : What) → ((rest : List ℕ) → Behind rest → next_of (t ++ rest) ≡ token what s rest) → HasPieces Behind t (s ∷ [])
one_piece Behind t s what next = λ before rest free. (
  read (before ++ t) rest,
  record { what = what; rest = rest; token = next rest free; there = λ i. record { before = sym (passed_is before t rest) i; ahead = rest } },
  refl,
)

pub no_piece : (Behind : List ℕ → Type 0) → HasPieces Behind [] []
no_piece Behind = λ before rest free. λ i. record { before = sym (append-nil before) i; ahead = rest }

pub pieces_append : (Behind Then : List ℕ → Type 0) (t u : List ℕ) (ps qs : Pieces) → HasPieces Behind t ps → HasPieces Then u qs → ((rest : List ℕ) → Then rest → Behind (u ++ rest)) → HasPieces Then (t ++ u) (ps ++ qs)
pieces_append Behind Then t u ps qs h k free = λ before rest end.
    let whole : Lexes (read before (t ++ (u ++ rest))) (ps ++ qs) (read ((before ++ t) ++ u) rest) =
    Lexes-append ps qs (read before (t ++ (u ++ rest))) (read (before ++ t) (u ++ rest)) (read ((before ++ t) ++ u) rest) (h before (u ++ rest) (free rest end)) (k (before ++ t) rest end) in
    subst (λ (x : Reading). Lexes (read before ((t ++ u) ++ rest)) (ps ++ qs) x) (λ i. read (append_assoc before t u i) rest)
    (subst (λ (xs : List ℕ). Lexes (read before xs) (ps ++ qs) (read ((before ++ t) ++ u) rest)) (sym (append_assoc t u rest)) whole)

pub pieces_less : (Behind Then : List ℕ → Type 0) (t : List ℕ) (ps : Pieces) → ((rest : List ℕ) → Then rest → Behind rest) → HasPieces Behind t ps → HasPieces Then t ps
pieces_less Behind Then t ps less h = λ before rest end. h before rest (less rest end)

-- a byte of a kind is none that isn't
pub apart : (p : ℕ → Bool) (b c : ℕ) → p b ≡ true → p c ≡ false → nat_eq b c ≡ false
apart p b c t f = ne_eqb b c (λ e. let same : p b ≡ p c = ap p e in cc)

run_of : (w rest : List ℕ) → list_all is_word_byte w ≡ true → NoWordByte rest → prefix_len is_word_byte (w ++ rest) ≡ length w
run_of [] [] h free = refl
run_of [] (b ∷ rest) h free = rw free refl
run_of (b ∷ w) rest h free = by_test (is_word_byte b) refl h (λ t. run_of w rest t free)
  where
    by_test : (x : Bool) → is_word_byte b ≡ x → (x && list_all is_word_byte w) ≡ true → (list_all is_word_byte w ≡ true → prefix_len is_word_byte (w ++ rest) ≡ length w)
        → prefix_len is_word_byte (b ∷ (w ++ rest)) ≡ length (b ∷ w)
    by_test true e t more = let long = more t in rw e (omega arith)
    by_test false e t more = cc

pub word_next : (w rest : List ℕ) → IsTrue (is_word w) → NoWordByte rest → next_of (w ++ rest) ≡ token Word w rest
word_next [] rest h free = let none : ⊥ = cc in absurd none
word_next (b ∷ w) rest h free = by_test (is_letter b) refl h
  where
    by_test : (x : Bool) → is_letter b ≡ x → (x && list_all is_word_byte w) ≡ true → next_of (b ∷ (w ++ rest)) ≡ token Word (b ∷ w) rest
    by_test false e t = cc
    by_test true e t =
        let blank : is_blank b ≡ false = rw (apart is_letter b 32 e refl, apart is_letter b 9 e refl, apart is_letter b 10 e refl, apart is_letter b 13 e refl) refl in
        let slash : nat_eq b 47 ≡ false = apart is_letter b 47 e refl in
        let all : list_all is_word_byte (b ∷ w) ≡ true = rw e t in
        let step : next_of (b ∷ (w ++ rest)) ≡ cut Word (prefix_len is_word_byte (b ∷ (w ++ rest))) (b ∷ (w ++ rest)) = rw (blank, slash, e) refl in
        step ∙ ap (λ n. cut Word n (b ∷ (w ++ rest))) (run_of (b ∷ w) rest all free) ∙ (λ i. token Word (take-append_seam (b ∷ w) rest i) (drop-append_seam (b ∷ w) rest i))

-- a name, maybe after a blank
pub name_is_word : (w : List ℕ) → IsTrue (is_name w) → IsTrue (is_word w)
name_is_word w h = by_test (is_word w) (not (is_reserved w)) h
  where
    by_test : (x y : Bool) → IsTrue (x && y) → IsTrue x
    by_test true y t = refl
    by_test false y t = t

pub word_piece : (w : List ℕ) → IsTrue (is_word w) → HasPieces NoWordByte w (w ∷ [])
word_piece w h = one_piece NoWordByte w w Word (λ rest free. word_next w rest h free)

pub word_behind : (w : List ℕ) → IsTrue (is_word w) → HasPieces NoWordByte (32 ∷ w) (w ∷ [])
word_behind w h = one_piece NoWordByte (32 ∷ w) w Word (λ rest free. word_next w rest h free)
