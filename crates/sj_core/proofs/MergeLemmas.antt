-- A merge of two lists of lines from the front: what is merged so far, and what is left of both.
use Rattle.std.proofs.Common.{◌≡◌, ℕ, List, [], ◌∷◌, ◌++◌, refl, sym, ap, ◌∙◌, inl, inr, append-nil, append_assoc}
use Rattle.std.specs.Prelude.{◌⊎◌}
use Rattle.std.specs.List.{AllByRecursion}
use Rattle.sj_rules.specs.Log.{LineAt, IsBefore, IsInOrder, part_of}
use Rattle.sj_joined_lemmas.proofs.MergeLemmas.{all_later}
use Rattle.sj_core.specs.Merged.{AreApart, AreMerged}
use Rattle.sj_joined_lemmas.proofs.MergingLemmas.{part_more}

-- so far these lines came out; what is left of both lists is in order after them
pub record Merging (front back out left right : List LineAt) : Type 0 where
  pub in_front : IsInOrder (out ++ left)
  pub in_back : IsInOrder (out ++ right)
  pub apart : AreApart left right
  pub parts : (p : ℕ) → part_of p out ++ (part_of p left ++ part_of p right) ≡ part_of p front ++ part_of p back

-- at the start nothing is merged
pub merging_begins : (front back : List LineAt) → IsInOrder front → IsInOrder back → AreApart front back → Merging front back [] front back
merging_begins front back a b apart = record { in_front = a; in_back = b; apart = apart; parts = λ p. refl }

-- what holds of both holds with a line of the one before the other
all_between : (T : LineAt → Type 0) (out left right : List LineAt) (l : LineAt) → AllByRecursion T (out ++ l ∷ left) → AllByRecursion T (out ++ right) →
    AllByRecursion T (out ++ l ∷ right)
all_between T [] left right l a b = (a.0, b)
all_between T (k ∷ out) left right l a b = (a.0, all_between T out left right l a.1 b.1)

-- the first line of the one, where it is before that of the other
pub in_between : (out left right : List LineAt) (l r : LineAt) → IsInOrder (out ++ l ∷ left) → IsInOrder (out ++ r ∷ right) → IsBefore l r →
    IsInOrder (out ++ l ∷ r ∷ right)
in_between [] left right l r a b first = ((first, all_later l r right first b.0), b)
in_between (k ∷ out) left right l r a b first = (all_between (IsBefore k) out left (r ∷ right) l a.0 b.0, in_between out left right l r a.1 b.1 first)

-- nothing in both means nothing in each
both_none : {X : Type 0} → (xs ys : List X) → xs ++ ys ≡ [] → (xs ≡ []) × (ys ≡ [])
both_none [] ys e = (refl, e)
both_none (x ∷ xs) ys e = absurd (cc e)

-- a part of the one list goes before a part of the other, where one of them is none
passes : {X : Type 0} → (os ls rs ms : List X) → (ls ≡ []) ⊎ (rs ≡ []) → (os ++ rs) ++ (ls ++ ms) ≡ os ++ (ls ++ (rs ++ ms))
passes os ls rs ms (inl e) = rw (e, append_assoc)
passes os ls rs ms (inr e) = rw (e, append-nil)

-- where no party has lines in both, it is so without the first line of the one
apart_less : (l : LineAt) (left right : List LineAt) → AreApart (l ∷ left) right → AreApart left right
apart_less l left right apart p = by (apart p)
  where
    by : (part_of p (l ∷ left) ≡ []) ⊎ (part_of p right ≡ []) → (part_of p left ≡ []) ⊎ (part_of p right ≡ [])
    by (inl none) = inl ((both_none (part_of p (l ∷ [])) (part_of p left) (sym (part_more p (l ∷ []) left) ∙ none)).1)
    by (inr none) = inr none

-- nor the other way round
apart_turned : (left right : List LineAt) → AreApart left right → AreApart right left
apart_turned left right apart p = by (apart p)
  where
    by : (part_of p left ≡ []) ⊎ (part_of p right ≡ []) → (part_of p right ≡ []) ⊎ (part_of p left ≡ [])
    by (inl none) = inr none
    by (inr none) = inl none

module _ (front back out left right : List LineAt) (l r : LineAt) (m : Merging front back out (l ∷ left) (r ∷ right)) where
  -- the first line of the front list comes next
  pub front_comes : IsBefore l r → Merging front back (out ++ l ∷ []) left (r ∷ right)
  front_comes first = record {
    in_front = rw append_assoc m.in_front;
    in_back = rw append_assoc (in_between out left right l r m.in_front m.in_back first);
    apart = apart_less l left (r ∷ right) m.apart;
    parts = λ p. ap (λ es. es ++ (part_of p left ++ part_of p (r ∷ right))) (part_more p out (l ∷ []))
        ∙ append_assoc (part_of p out) (part_of p (l ∷ [])) (part_of p left ++ part_of p (r ∷ right))
        ∙ ap (λ es. part_of p out ++ es) (sym (append_assoc (part_of p (l ∷ [])) (part_of p left) (part_of p (r ∷ right)))
        ∙ ap (λ es. es ++ part_of p (r ∷ right)) (sym (part_more p (l ∷ []) left)))
        ∙ m.parts p;
  }

  -- that of the back list comes next
  pub back_comes : IsBefore r l → Merging front back (out ++ r ∷ []) (l ∷ left) right
  back_comes first = record {
    in_front = rw append_assoc (in_between out right left r l m.in_back m.in_front first);
    in_back = rw append_assoc m.in_back;
    apart = apart_turned right (l ∷ left) (apart_less r right (l ∷ left) (apart_turned (l ∷ left) (r ∷ right) m.apart));
    parts = λ p. ap (λ es. es ++ (part_of p (l ∷ left) ++ part_of p right)) (part_more p out (r ∷ []))
        ∙ passes (part_of p out) (part_of p (l ∷ left)) (part_of p (r ∷ [])) (part_of p right) (one p (m.apart p))
        ∙ ap (λ es. part_of p out ++ (part_of p (l ∷ left) ++ es)) (sym (part_more p (r ∷ []) right))
        ∙ m.parts p;
  }
    where
      one : (p : ℕ) → (part_of p (l ∷ left) ≡ []) ⊎ (part_of p (r ∷ right) ≡ []) → (part_of p (l ∷ left) ≡ []) ⊎ (part_of p (r ∷ []) ≡ [])
      one p (inl none) = inl none
      one p (inr none) = inr ((both_none (part_of p (r ∷ [])) (part_of p right) (sym (part_more p (r ∷ []) right) ∙ none)).0)

-- at the end of one list the rest of the other comes
pub merging_ends : (front back out left right : List LineAt) → Merging front back out left right → (left ≡ []) ⊎ (right ≡ []) →
    AreMerged front back (out ++ left ++ right)
merging_ends front back out left right m end = record {
  order = by end;
  parts = λ p. part_more p (out ++ left) right ∙ ap (λ es. es ++ part_of p right) (part_more p out left)
      ∙ append_assoc (part_of p out) (part_of p left) (part_of p right) ∙ m.parts p;
}
  where
    by : (left ≡ []) ⊎ (right ≡ []) → IsInOrder (out ++ left ++ right)
    by (inl e) = let h : IsInOrder (out ++ right) = m.in_back in rw (e, append-nil) h
    by (inr e) = let h : IsInOrder (out ++ left) = m.in_front in rw (e, append-nil) h
