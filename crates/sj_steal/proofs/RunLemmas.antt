-- More jobs that were run, each once.
use Rattle.std.proofs.Common.{◌≡◌, ℕ, suc, ◌<◌, List, [], ◌∷◌, ◌++◌, length, get_or, set, sym, refl, ap, subst, append_assoc, append-nil, flat_map}
use Rattle.std.specs.List.Sorted.{IsPermutation}
use Rattle.std.proofs.lemmas.List.Sorted.{IsPermutation-refl, IsPermutation-sym, IsPermutation-trans, IsPermutation-append, IsPermutation-append_left}
use Rattle.sj_steal.specs.Runs.{Each2, RanMore}
use Rattle.sj_steal.proofs.PieceLemmas.{swaps_last, exchanges}

pub each2_append : {X Y : Type 0} (R : X → Y → Type 0) (xs : List X) (ys : List Y) (us : List X) (vs : List Y) → Each2 R xs ys → Each2 R us vs →
    Each2 R (xs ++ us) (ys ++ vs)
each2_append R [] [] us vs a b = b
each2_append R [] (y ∷ ys) us vs a b = absurd a
each2_append R (x ∷ xs) [] us vs a b = absurd a
each2_append R (x ∷ xs) (y ∷ ys) us vs a b = (a.0, each2_append R xs ys us vs a.1 b)

pub each2_length : {X Y : Type 0} (R : X → Y → Type 0) (xs : List X) (ys : List Y) → Each2 R xs ys → length ys ≡ length xs
each2_length R [] [] a = refl
each2_length R [] (y ∷ ys) a = absurd a
each2_length R (x ∷ xs) [] a = absurd a
each2_length R (x ∷ xs) (y ∷ ys) a = ap suc (each2_length R xs ys a.1)

-- the middle two of four pieces, changed about
swaps_middle : {X : Type 0} (a b c d : List X) → IsPermutation ((a ++ b) ++ (c ++ d)) ((a ++ c) ++ (b ++ d))
swaps_middle a b c d =
    subst (λ l. IsPermutation l ((a ++ c) ++ (b ++ d))) (append_assoc (a ++ b) c d)
    (subst (IsPermutation (((a ++ b) ++ c) ++ d)) (append_assoc (a ++ c) b d) (IsPermutation-append_left d _ _ (swaps_last a b c)))

module _ {J : Type 0} (R : J → J → Type 0) where
  pub ran_none : (taken done : List J) → RanMore R taken done taken done
  ran_none taken done = record {
    took = [];
    ran = [];
    each = tt;
    takes = subst (λ l. IsPermutation l taken) (sym (append-nil taken)) (IsPermutation-refl taken);
    adds = subst (λ l. IsPermutation l done) (sym (append-nil done)) (IsPermutation-refl done);
  }

  pub ran_one : (taken done taken' done' : List J) (x y : J) → R x y → IsPermutation (taken ++ x ∷ []) taken' → done' ≡ done ++ y ∷ [] →
      RanMore R taken done taken' done'
  ran_one taken done taken' done' x y run t d = record {
    took = x ∷ [];
    ran = y ∷ [];
    each = (run, tt);
    takes = t;
    adds = subst (IsPermutation (done ++ y ∷ [])) (sym d) (IsPermutation-refl (done ++ y ∷ []));
  }

  pub ran_later : (a b c d e f : List J) → RanMore R a b c d → RanMore R c d e f → RanMore R a b e f
  ran_later a b c d e f one two = record {
    took = one.took ++ two.took;
    ran = one.ran ++ two.ran;
    each = each2_append R one.took one.ran two.took two.ran one.each two.each;
    takes = subst (λ l. IsPermutation l e) (append_assoc a one.took two.took)
        (IsPermutation-trans _ _ _ (IsPermutation-append_left two.took _ _ one.takes) two.takes);
    adds = subst (λ l. IsPermutation l f) (append_assoc b one.ran two.ran)
        (IsPermutation-trans _ _ _ (IsPermutation-append_left two.ran _ _ one.adds) two.adds);
  }

  -- beside others
  pub ran_both : (a b c d a' b' c' d' : List J) → RanMore R a b c d → RanMore R a' b' c' d' → RanMore R (a ++ a') (b ++ b') (c ++ c') (d ++ d')
  ran_both a b c d a' b' c' d' one two = record {
    took = one.took ++ two.took;
    ran = one.ran ++ two.ran;
    each = each2_append R one.took one.ran two.took two.ran one.each two.each;
    takes = IsPermutation-trans _ _ _ (swaps_middle a a' one.took two.took) (IsPermutation-append _ _ _ _ one.takes two.takes);
    adds = IsPermutation-trans _ _ _ (swaps_middle b b' one.ran two.ran) (IsPermutation-append _ _ _ _ one.adds two.adds);
  }

  -- one of many
  pub ran_at : {M : Type 0} (f g : M → List J) (ms : List M) (i : ℕ) (m n : M) → i < length ms → m ≡ get_or ms i m → RanMore R (f m) (g m) (f n)
      (g n) → RanMore R (flat_map f ms) (flat_map g ms) (flat_map f (set ms i n)) (flat_map g (set ms i n))
  ran_at {M = M} f g ms i m n in' is h = record {
    took = h.took;
    ran = h.ran;
    each = h.each;
    takes = piece f h.took h.takes;
    adds = piece g h.ran h.adds;
  }
    where
      piece : (k : M → List J) (more : List J) → IsPermutation (k m ++ more) (k n) → IsPermutation (flat_map k ms ++ more) (flat_map k (set ms i n))
      piece k more p =
          let q : IsPermutation (k n ++ []) (k m ++ more) = subst (λ l. IsPermutation l (k m ++ more)) (sym (append-nil (k n)))
          (IsPermutation-sym _ _ p) in
          IsPermutation-sym _ _ (subst (λ l. IsPermutation l (flat_map k ms ++ more)) (append-nil (flat_map k (set ms i n)))
          (exchanges k ms i m n [] more in' is q))

  -- each of many
  pub ran_each : {M : Type 0} (f g : M → List J) (ms ns : List M) → Each2 (λ m n. RanMore R (f m) (g m) (f n) (g n)) ms ns →
      RanMore R (flat_map f ms) (flat_map g ms) (flat_map f ns) (flat_map g ns)
  ran_each f g [] [] h = ran_none [] []
  ran_each f g [] (n ∷ ns) h = absurd h
  ran_each f g (m ∷ ms) [] h = absurd h
  ran_each f g (m ∷ ms) (n ∷ ns) h = ran_both _ _ _ _ _ _ _ _ h.0 (ran_each f g ms ns h.1)

  -- where what was taken is read in another order
  pub ran_read : (a b c d e : List J) → RanMore R a b c d → IsPermutation c e → RanMore R a b e d
  ran_read a b c d e h p = record { took = h.took; ran = h.ran; each = h.each; takes = IsPermutation-trans _ _ _ h.takes p; adds = h.adds }

  -- where nothing changed
  pub ran_same : (taken done taken' done' : List J) → taken' ≡ taken → done' ≡ done → RanMore R taken done taken' done'
  ran_same taken done taken' done' e f = subst (λ l. RanMore R taken done l done') (sym e)
      (subst (λ l. RanMore R taken done taken l) (sym f) (ran_none taken done))
