-- Which ends the played party holds.
use Rattle.std.proofs.Common.{◌≡◌, ℕ, ◌+◌, ◌≤◌, Bool, true, false, not, cond, List, [], ◌∷◌, ◌++◌, map, Some, refl, ap, sym, ◌∙◌, arith, inl, inr}
use Rattle.std.specs.Str.{bytes_eq}
use Rattle.std.proofs.lemmas.Bool.{cases_Bool}
use Rattle.std.proofs.lemmas.List.Sums.{sum_by-cons, sum_by_push}
use Rattle.sj_base.specs.declared.EndId.{EndId}
use Rattle.sj_semantics.specs.Ends.{is_end}
use Rattle.sj_semantics_laws.specs.Unshared.{bindings_of}
use Rattle.sj_semantics_laws.proofs.BoundLemmas.{bindings_of-le, is_end-self}
use Rattle.sj_semantics_laws.proofs.ClaimLemmas.{one_if}
use Rattle.sj_talk.specs.Names.{Ends, end_named, ends_without}

-- ends under a number in place of their names
abbrev pub numbered : Ends → List (ℕ × EndId)
numbered bs = map (λ b. (0, b.1)) bs

-- how many names the end has
abbrev pub holds : EndId → Ends → ℕ
holds e bs = bindings_of e (numbered bs)

holds-cons : (e : EndId) (b : List ℕ × EndId) (bs : Ends) → holds e (b ∷ bs) ≡ one_if (is_end e b.1) + holds e bs
holds-cons e b bs = sum_by-cons (λ (c : ℕ × EndId). cond (is_end e c.1) 1 0) (0, b.1) (numbered bs)

numbered_push : (bs : Ends) (b : List ℕ × EndId) → numbered (bs ++ b ∷ []) ≡ numbered bs ++ (0, b.1) ∷ []
numbered_push [] b = refl
numbered_push (c ∷ bs) b = ap (λ t. (0, c.1) ∷ t) (numbered_push bs b)

pub holds-push : (e : EndId) (bs : Ends) (b : List ℕ × EndId) → holds e (bs ++ b ∷ []) ≡ holds e bs + one_if (is_end e b.1)
holds-push e bs b = ap (bindings_of e) (numbered_push bs b) ∙ sum_by_push (λ (c : ℕ × EndId). cond (is_end e c.1) 1 0) (numbered bs) (0, b.1)

-- ---- a name that is freed

keeps_name : (n : List ℕ) (b : List ℕ × EndId) (bs : Ends) → bytes_eq b.0 n ≡ false → ends_without (b ∷ bs) n ≡ b ∷ ends_without bs n
keeps_name n b bs h = ap (λ (t : Bool). cond (not t) (b ∷ ends_without bs n) (ends_without bs n)) h

drops_name : (n : List ℕ) (b : List ℕ × EndId) (bs : Ends) → bytes_eq b.0 n ≡ true → ends_without (b ∷ bs) n ≡ ends_without bs n
drops_name n b bs h = ap (λ (t : Bool). cond (not t) (b ∷ ends_without bs n) (ends_without bs n)) h

pub holds-without_le : (e : EndId) (bs : Ends) (n : List ℕ) → holds e (ends_without bs n) ≤ holds e bs
holds-without_le e [] n = omega arith
holds-without_le e (b ∷ bs) n =
    elim (cases_Bool (bytes_eq b.0 n)) [
      | inl hit ↦ omega (arith, ap (holds e) (drops_name n b bs hit), holds-cons e b bs, holds-without_le e bs n)
      | inr miss ↦ omega (arith, ap (holds e) (keeps_name n b bs miss), holds-cons e b bs, holds-cons e b (ends_without bs n), holds-without_le e bs n)
    ]

found_here : (n : List ℕ) (b : List ℕ × EndId) (bs : Ends) → bytes_eq b.0 n ≡ true → end_named (b ∷ bs) n ≡ Some b.1
found_here n b bs h = ap (λ (t : Bool). cond t (Some b.1) (end_named bs n)) h

found_later : (n : List ℕ) (b : List ℕ × EndId) (bs : Ends) → bytes_eq b.0 n ≡ false → end_named (b ∷ bs) n ≡ end_named bs n
found_later n b bs h = ap (λ (t : Bool). cond t (Some b.1) (end_named bs n)) h

-- a name that is gone frees its end
pub holds-without : (e : EndId) (bs : Ends) (n : List ℕ) (y : EndId) → end_named bs n ≡ Some y → holds e (ends_without bs n) + one_if (is_end e y) ≤ holds e bs
holds-without e [] n y h = cc
holds-without e (b ∷ bs) n y h =
    elim (cases_Bool (bytes_eq b.0 n)) [
      | inl hit ↦
          let found : Some b.1 ≡ Some y = sym (found_here n b bs hit) ∙ h in
          let it : b.1 ≡ y = cc in
          omega (arith, ap (holds e) (drops_name n b bs hit), holds-cons e b bs, holds-without_le e bs n, ap (λ t. one_if (is_end e t)) it)
      | inr miss ↦
          omega (arith, ap (holds e) (keeps_name n b bs miss), holds-cons e b bs, holds-cons e b (ends_without bs n), holds-without e bs n y (sym (found_later n b bs miss) ∙ h))
    ]

-- an end that has a name is held
pub held_by_name : (bs : Ends) (n : List ℕ) (e : EndId) → end_named bs n ≡ Some e → 1 ≤ holds e bs
held_by_name bs n e h = omega (arith, holds-without e bs n e h, ap {B = ℕ} one_if (is_end-self e))

-- an end that is the same is held as often
pub holds-same : (e f : EndId) (bs : Ends) → is_end e f ≡ true → holds f bs ≤ holds e bs
holds-same e f bs h = bindings_of-le e f (numbered bs) h

-- another name stays
pub named-without_other : (bs : Ends) (x y : List ℕ) → ((b : List ℕ × EndId) → bytes_eq b.0 y ≡ true → bytes_eq b.0 x ≡ false) → end_named (ends_without bs y) x ≡ end_named bs x
named-without_other [] x y apart = refl
named-without_other (b ∷ bs) x y apart =
    elim (cases_Bool (bytes_eq b.0 y)) [
      | inl hit ↦ ap (λ t. end_named t x) (drops_name y b bs hit) ∙ named-without_other bs x y apart ∙ sym (found_later x b bs (apart b hit))
      | inr miss ↦ ap (λ t. end_named t x) (keeps_name y b bs miss) ∙ ap (cond (bytes_eq b.0 x) (Some b.1)) (named-without_other bs x y apart)
    ]
