-- Codes that are taken one after the other, and the parties that have one.
use Rattle.std.proofs.Common.{◌≡◌, ◌∙◌, ℕ, zero, suc, ◌+◌, ◌<◌, true, false, List, [], ◌∷◌, ◌++◌, drop, length, Option, Some, None, is_some, IsSome, option_to_list, refl, sym, ap, arith}
use Rattle.sj_seat_run.specs.Seats.{seats_by}

module _ {C : Type 0} where
  abbrev first_of : List (Option C) → Option C
  first_of [] = None
  first_of (c ∷ cs) = c

  abbrev rest_of : List (Option C) → List (Option C)
  rest_of [] = []
  rest_of (c ∷ cs) = cs

  seat_at : (codes : List (Option C)) (n : ℕ) → seats_by codes n ≡ is_some (first_of (drop n codes))
  seat_at [] zero = refl
  seat_at [] (suc n) = refl
  seat_at (c ∷ cs) zero = refl
  seat_at (c ∷ cs) (suc n) = seat_at cs n

  drop_next : (codes : List (Option C)) (n : ℕ) → drop (suc n) codes ≡ rest_of (drop n codes)
  drop_next [] zero = refl
  drop_next [] (suc n) = refl
  drop_next (c ∷ cs) zero = refl
  drop_next (c ∷ cs) (suc n) = drop_next cs n

  -- what is left after the next one
  pub one_taken : (codes left next : List (Option C)) (n m : ℕ) (o : Option (Option C)) → left ≡ drop n codes → left ≡ option_to_list o ++ next → (o ≡ None → length left ≡ 0) → m ≡ n + 1 → next ≡ drop m codes
  one_taken codes left next n m o is parts none more =
      let e : m ≡ suc n = omega (arith, more) in
      by o parts none ∙ ap rest_of is ∙ sym (drop_next codes n) ∙ sym (ap (λ k. drop k codes) e)
    where
      nothing : (ls : List (Option C)) → length ls ≡ 0 → ls ≡ []
      nothing [] less = refl
      nothing (l ∷ ls) less = absurd (omega (arith, less))

      by : (p : Option (Option C)) → left ≡ option_to_list p ++ next → (p ≡ None → length left ≡ 0) → next ≡ rest_of left
      by None parts none = sym parts ∙ nothing left (none refl) ∙ ap rest_of (sym (nothing left (none refl)))
      by (Some c) parts none = ap rest_of (sym parts)

  -- the next code is that of the next party
  pub some_next : (codes left next : List (Option C)) (n : ℕ) (o : Option (Option C)) (c : Option C) → left ≡ drop n codes → left ≡ option_to_list o ++ next → o ≡ Some c → is_some c ≡ seats_by codes n
  some_next codes left next n o c is parts some =
      ap (λ (p : Option (Option C)). is_some (first_of (option_to_list p ++ next))) (sym some) ∙ ap (λ l. is_some (first_of l)) (sym parts ∙ is) ∙ sym (seat_at codes n)

  pub none_next : (codes left : List (Option C)) (n : ℕ) → left ≡ drop n codes → length left ≡ 0 → false ≡ seats_by codes n
  none_next codes left n is none = by left none ∙ ap (λ l. is_some (first_of l)) is ∙ sym (seat_at codes n)
    where
      by : (ls : List (Option C)) → length ls ≡ 0 → false ≡ is_some (first_of ls)
      by [] less = refl
      by (l ∷ ls) less = absurd (omega (arith, less))

-- where none came, none was left
pub none_left : {X : Type 0} (o : Option X) (n : ℕ) → o ≡ None → (0 < n → IsSome o) → n ≡ 0
none_left None zero is some = refl
none_left None (suc n) is some = absurd (let x : false ≡ true = some (omega arith) in cc x)
none_left (Some x) n is some = absurd (cc is)
