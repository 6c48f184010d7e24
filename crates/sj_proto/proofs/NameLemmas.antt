-- A name is no other piece of a protocol.
use Rattle.std.proofs.Common.{◌≡◌, ℕ, Bool, true, false, IsTrue, not, List, [], ◌∷◌, refl, ap}
use Rattle.std.specs.Prelude.{◌&&◌, nat_eq}
use Rattle.std.specs.List.{list_all}
use Rattle.std.specs.Str.{bytes_eq}
use Rattle.std.proofs.lemmas.Bool.{ne_eqb}
use Rattle.std.proofs.lemmas.Slice.Eq.{bytes_eq-Decides}
use Rattle.sj_grammar.specs.Bytes.{is_letter, is_word_byte}
use Rattle.sj_grammar.specs.Names.{is_word, is_name, is_reserved}
use Rattle.sj_grammar.specs.Literals.{is_text, is_largest}
use Rattle.sj_grammar.specs.ProtocolDues.{is_way}

pub test_is : (s t : List ℕ) → bytes_eq s t ≡ true → s ≡ t
test_is s t e = (bytes_eq-Decides s t).0 e

pub first_holds : (x y : Bool) → IsTrue (x && y) → IsTrue x
first_holds true y t = refl
first_holds false y t = t

-- a letter is no other byte
pub letter_other : (b c : ℕ) → IsTrue (is_letter b) → is_letter c ≡ false → nat_eq b c ≡ false
letter_other b c t f = ne_eqb b c (λ e. let was : is_letter b ≡ is_letter c = ap is_letter e in cc)

pub first_letter : (b : ℕ) (bs : List ℕ) → IsTrue (is_name (b ∷ bs)) → IsTrue (is_letter b)
first_letter b bs t = first_holds (is_letter b) (list_all is_word_byte bs) (first_holds (is_word (b ∷ bs)) (not (is_reserved (b ∷ bs))) t)

-- a name is no `!` or `?`
pub name_no_way : (s : List ℕ) → IsTrue (is_name s) → is_way s ≡ false
name_no_way [] t = let no : ⊥ = cc in absurd no
name_no_way (b ∷ bs) t =
    let l = first_letter b bs t in
    rw (letter_other b 33 l refl, letter_other b 63 l refl) refl

-- and no text
pub name_no_text : (s : List ℕ) → IsTrue (is_name s) → is_text s ≡ false
name_no_text [] t = let no : ⊥ = cc in absurd no
name_no_text (b ∷ bs) t =
    let l = first_letter b bs t in
    rw (letter_other b 34 l refl) refl

-- and no number
pub name_not_largest : (s : List ℕ) → IsTrue (is_name s) → is_largest s ≡ false
name_not_largest [] t = let no : ⊥ = cc in absurd no
name_not_largest (b ∷ bs) t =
    let l = first_letter b bs t in
    rw (letter_other b 57 l refl) refl
