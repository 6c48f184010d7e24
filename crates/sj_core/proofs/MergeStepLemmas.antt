-- The steps of a merge, as they push lines.
use Rattle.std.proofs.Common.{◌≡◌, ◌+◌, ◌<◌, ℕ, List, [], ◌∷◌, ◌++◌, length, get_or, drop, refl, sym, ap, subst, ◌∙◌, inl, inr, map, add-one, drop-cons}
use Rattle.std.specs.Prelude.{◌⊎◌}
use Rattle.std.proofs.lemmas.List.{map-append}
use Rattle.sj_rules.specs.Log.{LineAt, IsBefore, part_of}
use Rattle.sj_joined_lemmas.proofs.MergeLemmas.{apart_parties}
use Rattle.sj_joined_lemmas.proofs.OrderLemmas.{part_here}
use Rattle.sj_end.specs.declared.note.Line.{Line}
use Rattle.sj_core.specs.Views.{line_at}
use Rattle.sj_core.specs.Merged.{AreMerged}
use Rattle.sj_core.proofs.MergeLemmas.{Merging, back_comes, front_comes, merging_ends}

-- what is left of a list from a line on
left_from : (xs : List Line) (i : ℕ) (d : Line) → i < length xs → map line_at (drop i xs) ≡ line_at (get_or xs i d) ∷ map line_at (drop (i + 1) xs)
left_from xs i d h = ap (map line_at) (drop-cons xs i d h ∙ ap (λ n. get_or xs i d ∷ drop n xs) (sym (add-one i)))

module _ (front back : List LineAt) (items xs ys : List Line) (i j : ℕ) (d : Line) (hi : i < length xs) (hj : j < length ys)
    (m : Merging front back (map line_at items) (map line_at (drop i xs)) (map line_at (drop j ys))) where
  -- what is left of both begins with these
  abbrev x : LineAt
  x = line_at (get_or xs i d)

  abbrev y : LineAt
  y = line_at (get_or ys j d)

  here : Merging front back (map line_at items) (x ∷ map line_at (drop (i + 1) xs)) (y ∷ map line_at (drop (j + 1) ys))
  here = subst (λ (ks : List LineAt). Merging front back (map line_at items) ks (y ∷ map line_at (drop (j + 1) ys))) (left_from xs i d hi)
      (subst (λ (ks : List LineAt). Merging front back (map line_at items) (map line_at (drop i xs)) ks) (left_from ys j d hj) m)

  -- the line of the front list is pushed
  pub front_pushed : IsBefore (line_at (get_or xs i d)) (line_at (get_or ys j d)) →
      Merging front back (map line_at (items ++ get_or xs i d ∷ [])) (map line_at (drop (i + 1) xs)) (map line_at (drop j ys))
  front_pushed first = rw (map-append line_at items (get_or xs i d ∷ []), left_from ys j d hj)
      (front_comes front back (map line_at items) (map line_at (drop (i + 1) xs)) (map line_at (drop (j + 1) ys)) x y here first)

  -- where the one is not before the other, the other is before the one
  other_way : (IsBefore x y → ⊥) → IsBefore y x
  other_way later = by (apart_parties x y (λ same. apart same (here.apart x.party)))
    where
      by : IsBefore x y ⊎ IsBefore y x → IsBefore y x
      by (inl a) = absurd (later a)
      by (inr a) = a

      apart : x.party ≡ y.party → (part_of x.party (x ∷ map line_at (drop (i + 1) xs)) ≡ []) ⊎ (part_of x.party (y ∷ map line_at (drop (j + 1) ys)) ≡ []) → ⊥
      apart same (inl none) = cc (sym (part_here x.party x (map line_at (drop (i + 1) xs)) refl) ∙ none)
      apart same (inr none) = cc (sym (part_here x.party y (map line_at (drop (j + 1) ys)) same) ∙ none)

  -- that of the back list is pushed
  pub back_pushed : (IsBefore (line_at (get_or xs i d)) (line_at (get_or ys j d)) → ⊥) →
      Merging front back (map line_at (items ++ get_or ys j d ∷ [])) (map line_at (drop i xs)) (map line_at (drop (j + 1) ys))
  back_pushed later = rw (map-append line_at items (get_or ys j d ∷ []), left_from xs i d hi)
      (back_comes front back (map line_at items) (map line_at (drop (i + 1) xs)) (map line_at (drop (j + 1) ys)) x y here (other_way later))

-- at the end the rest of both is pushed
pub all_pushed : (front back : List LineAt) (items left right : List Line) → Merging front back (map line_at items) (map line_at left) (map line_at right) → (left ≡ []) ⊎ (right ≡ []) →
    AreMerged front back (map line_at (items ++ left ++ right))
all_pushed front back items left right m end =
    rw (map-append line_at (items ++ left) right, map-append line_at items left) (merging_ends front back (map line_at items) (map line_at left) (map line_at right) m (by end))
  where
    by : (left ≡ []) ⊎ (right ≡ []) → (map line_at left ≡ []) ⊎ (map line_at right ≡ [])
    by (inl e) = inl (ap (map line_at) e)
    by (inr e) = inr (ap (map line_at) e)
