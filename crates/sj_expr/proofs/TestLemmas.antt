-- Tests of bytes, and of both of two tests.
use Rattle.std.proofs.Common.{◌≡◌, ℕ, Bool, true, false, List, refl}
use Rattle.std.specs.Prelude.{◌&&◌}
use Rattle.std.specs.Str.{bytes_eq}
use Rattle.std.proofs.lemmas.Slice.Eq.{bytes_eq-Decides}
pub use Rattle.sj_proto.proofs.NameLemmas.{test_is as bytes_same, first_holds as and_first}

pub and_second : (x y : Bool) → (x && y) ≡ true → y ≡ true
and_second true y t = t
and_second false y t = let no : ⊥ = cc in absurd no

pub and_both : (x y : Bool) → x ≡ true → y ≡ true → (x && y) ≡ true
and_both true y t u = u
and_both false y t u = t

pub and_none : (x : Bool) → (x && false) ≡ false
and_none true = refl
and_none false = refl

pub bytes_are : (a b : List ℕ) → a ≡ b → bytes_eq a b ≡ true
bytes_are a b e = (bytes_eq-Decides a b).1 e
