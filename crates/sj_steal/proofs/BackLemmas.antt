-- Ways that are given back, and what is left.
use Rattle.std.proofs.Common.{◌≡◌, ℕ, ◌+◌, ◌<◌, ◌≤◌, List, [], ◌∷◌, ◌++◌, map, length, get_or}
use Rattle.std.proofs.Common.{set, take, sym, refl, ap, ◌∙◌, subst, flat_map, length-set, append_assoc, append-nil, arith}
use Rattle.std.specs.Prelude.{All}
use Rattle.std.specs.Global.{Vec}
use Rattle.std.specs.List.Sorted.{IsPermutation}
use Rattle.std.proofs.lemmas.List.{length-map, map-append, take_at, take-take, get_or-take, get_or_push}
use Rattle.std.proofs.lemmas.List.Concat.{flat_map-append}
use Rattle.std.proofs.lemmas.List.Elements.{All-set, All-get_or}
use Rattle.std.proofs.lemmas.List.Sorted.{IsPermutation-refl, IsPermutation-trans, IsPermutation-sym, IsPermutation-append_left}
use Rattle.sj_steal.specs.declared.member.Reach.{Reach}
use Rattle.sj_steal.specs.declared.member.Member.{Member}
use Rattle.sj_steal.specs.Runs.{Each2}
use Rattle.sj_steal.specs.Parts.{Parted}
use Rattle.sj_steal.specs.Members.{deque_of, done_by, own_put, own_taken, stolen_by, taken_by}
use Rattle.sj_steal.specs.Teams.{GotBack, HasWays, IsBack}
use Rattle.sj_steal.proofs.PieceLemmas.{swaps_last, exchanges, stays}
use Rattle.sj_steal.proofs.RunLemmas.{each2_length}
use Rattle.sj_steal.proofs.EachLemmas.{all_all, each2_map, each2_flat}
use Rattle.sj_steal.proofs.PartLemmas.{parted_each, parted_next}
use Rattle.sj_steal.proofs.MemberLemmas.{map_stays}

-- the last of a row is the last of as many
pub row_less : {A D : Type 0} (f : A → D) (row row' : List A) (r : A) (decks : List D) (k : ℕ) → map f row ≡ take (k + 1) decks →
    row ≡ row' ++ r ∷ [] → length row' ≡ k → (map f row' ≡ take k decks) × (f r ≡ get_or decks k (f r))
row_less f row row' r decks k h is long =
    let whole : map f row' ++ f r ∷ [] ≡ take (k + 1) decks = sym (map-append f row' (r ∷ [])) ∙ ap (map f) (sym is) ∙ h in
    let many : length (map f row') ≡ k = length-map row' f ∙ long in (
      sym (take_at (map f row') (f r ∷ []) k many) ∙ ap (take k) whole ∙ take-take k (k + 1) decks (omega arith),
      sym (get_or_push (map f row') (f r) (f r) k many) ∙ ap (λ l. get_or l k (f r)) whole ∙ get_or-take (k + 1) decks k (f r) (omega arith),
    )

-- a list that moves its last to the end of another
pub moves_last : {X : Type 0} (start into into' from from' : List X) (x : List X) → IsPermutation start (into ++ from) → from ≡ from' ++ x →
    IsPermutation (into ++ x) into' → IsPermutation start (into' ++ from')
moves_last start into into' from from' x h is more =
    let before : IsPermutation start (into ++ (from' ++ x)) = subst (λ l. IsPermutation start (into ++ l)) is h in
    let turned : IsPermutation (into ++ (from' ++ x)) ((into ++ x) ++ from') = subst (λ l. IsPermutation l ((into ++ x) ++ from'))
    (append_assoc into from' x) (swaps_last into from' x) in
    IsPermutation-trans _ _ _ before (IsPermutation-trans _ _ _ turned (IsPermutation-append_left from' _ _ more))

-- pieces without their last
pub flat_less : {Y X : Type 0} (f : Y → List X) (ys ys' : List Y) (y : Y) → ys ≡ ys' ++ y ∷ [] → flat_map f ys ≡ flat_map f ys' ++ f y
flat_less f ys ys' y is = ap (flat_map f) is ∙ flat_map-append f ys' (y ∷ []) ∙ ap (λ l. flat_map f ys' ++ l) (append-nil (f y))

module _ {J : Type 0} where
  -- one way that is given back
  pub back_more : (now : List (Member J)) (k : ℕ) (m m' : Member J) (r : Reach J) (start : List J) (row row' : List (Reach J)) → k < length now →
      m ≡ get_or now k m → m'.all ≡ m.all →
      own_taken m' ≡ own_taken m ++ stolen_by r → row ≡ row' ++ r ∷ [] → IsPermutation start (flat_map taken_by now ++ flat_map stolen_by row) →
      IsPermutation start (flat_map taken_by (set now k m') ++ flat_map stolen_by row')
  back_more now k m m' r start row row' in' is all taken last h =
      let rest = flat_map stolen_by m.all.items in
      let mine : taken_by m' ≡ (own_taken m ++ stolen_by r) ++ rest = ap (λ (a : Vec (Reach J)). own_taken m' ++ flat_map stolen_by a.items) all ∙
      ap (λ l. l ++ rest) taken in
      let piece : IsPermutation (taken_by m' ++ []) (taken_by m ++ stolen_by r) =
      subst (λ l. IsPermutation l (taken_by m ++ stolen_by r)) (sym (append-nil (taken_by m')))
      (subst (λ l. IsPermutation l (taken_by m ++ stolen_by r)) (sym mine) (swaps_last (own_taken m) (stolen_by r) rest)) in
      let more : IsPermutation (flat_map taken_by (set now k m')) (flat_map taken_by now ++ stolen_by r) =
      subst (λ l. IsPermutation l (flat_map taken_by now ++ stolen_by r)) (append-nil (flat_map taken_by (set now k m')))
      (exchanges taken_by now k m m' [] (stolen_by r) in' is piece) in
      moves_last start (flat_map taken_by now) (flat_map taken_by (set now k m')) (flat_map stolen_by row) (flat_map stolen_by row') (stolen_by r) h
      (flat_less stolen_by row row' r last) (IsPermutation-sym _ _ more)

  back_one : (count : ℕ) (x y : Member J) → GotBack x y → IsBack count x → IsBack (count + 1) y
  back_one count x y g h =
      let parts = g.parts in
      let before = h.parts in
      let put = h.put in
      let less : length (own_put y) ≡ length (own_put x) = ap length g.put in
      let most = g.most in
      let free = h.free in
      let taken = g.taken in
      record {
        flavor = g.flavor ∙ h.flavor;
        parts = omega arith;
        put = omega arith;
        free = subst (λ d. y.most + d.len ≤ d.cap + length (own_taken y)) (sym g.done) (omega arith);
      }

  back_with : (count : ℕ) (m : Member J) (all : Vec (Reach J)) → IsBack count m →
      IsBack count (record { own = m.own; all = all; done = m.done; most = m.most })
  back_with count m all h = record { flavor = h.flavor; parts = h.parts; put = h.put; free = h.free }

  -- after the ways of one member
  pub record AfterRow (count worker : ℕ) (now later : List (Member J)) : Type 0 where
    pub back : All (IsBack (count + 1)) later
    pub ways : Parted (λ m. m.all.items ≡ []) (HasWays (map deque_of later)) (worker + 1) later
    pub long : length later ≡ length now
    pub put : flat_map own_put later ≡ flat_map own_put now
    pub done : flat_map done_by later ≡ flat_map done_by now
    pub taken : IsPermutation (flat_map taken_by now) (flat_map taken_by later)

  alone_stays : (x y : Member J) → GotBack x y → x.all.items ≡ [] → y.all.items ≡ []
  alone_stays x y g h = ap (λ a. a.items) g.all ∙ h

  ways_stay : (decks : _) (x y : Member J) → GotBack x y → HasWays decks x → HasWays decks y
  ways_stay decks x y g h = subst (λ (a : Vec (Reach J)). HasWays decks (record { own = y.own; all = a; done = y.done; most = y.most })) (sym g.all)
      (record { ways = h.ways; reaches = h.reaches })

  pub row_back : (count worker : ℕ) (now back : List (Member J)) (m : Member J) (none : Vec (Reach J)) → worker < length now →
      m ≡ get_or now worker m →
      none.items ≡ [] → All (IsBack count) now → Parted (λ m. m.all.items ≡ []) (HasWays (map deque_of now)) worker now →
      Each2 GotBack (set now worker (record { own = m.own; all = none; done = m.done; most = m.most })) back →
      IsPermutation (flat_map taken_by (set now worker (record { own = m.own; all = none; done = m.done; most = m.most })) ++ flat_map stolen_by
      m.all.items) (flat_map taken_by back) → AfterRow count worker now back
  row_back count worker now back m none in' is empty counts ways each taken =
      let m1 : Member J = record { own = m.own; all = none; done = m.done; most = m.most } in
      let one = set now worker m1 in
      let P : Member J → Type 0 = λ x. x.all.items ≡ [] in
      let decks = map deque_of now in
      let mine : IsBack count m = subst (IsBack count) (sym is) (All-get_or (IsBack count) now worker m in' counts) in
      let counts1 : All (IsBack count) one = All-set (IsBack count) now worker m1 (back_with count m none mine) counts in
      let same1 : map deque_of one ≡ decks = map_stays deque_of now worker m m1 is refl in
      let same2 : map deque_of back ≡ map deque_of one = each2_map GotBack deque_of (λ x y g. g.deque) one back each in
      let next = parted_next P (HasWays decks) now worker m1 empty ways in
      let after = parted_each P (HasWays decks) GotBack alone_stays (ways_stay decks) one back (worker + 1) each next in
      let put = each2_flat GotBack own_put (λ x y g. g.put) one back each in
      let done = each2_flat GotBack done_by (λ x y g. ap (λ d. d.items) g.done) one back each in
      let row = flat_map stolen_by m.all.items in
      let nothing : flat_map stolen_by none.items ≡ [] = ap (flat_map stolen_by) empty in
      let bare : taken_by m1 ++ row ≡ taken_by m = ap (λ l. (own_taken m ++ l) ++ row) nothing ∙ ap (λ l. l ++ row) (append-nil (own_taken m)) in
      let piece : IsPermutation (taken_by m1 ++ row) (taken_by m ++ []) =
      subst (λ l. IsPermutation l (taken_by m ++ [])) (sym bare)
      (subst (IsPermutation (taken_by m)) (sym (append-nil (taken_by m))) (IsPermutation-refl (taken_by m))) in
      let apart : IsPermutation (flat_map taken_by one ++ row) (flat_map taken_by now) =
      subst (IsPermutation (flat_map taken_by one ++ row)) (append-nil (flat_map taken_by now))
      (exchanges taken_by now worker m m1 row [] in' is piece) in
      record {
        back = all_all GotBack (IsBack count) (IsBack (count + 1)) (back_one count) one back each counts1;
        ways = subst (λ d. Parted P (HasWays d) (worker + 1) back) (sym (same2 ∙ same1)) after;
        long = each2_length GotBack one back each ∙ length-set now worker m1;
        put = put ∙ stays own_put now worker m m1 is refl;
        done = done ∙ stays done_by now worker m m1 is refl;
        taken = IsPermutation-trans _ _ _ (IsPermutation-sym _ _ apart) taken;
      }
