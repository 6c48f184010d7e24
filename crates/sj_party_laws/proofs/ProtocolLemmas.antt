-- What is due in a protocol after a token, and the token,
-- are what was due before it, within limits.
use Rattle.std.proofs.Common.{◌≡◌, ℕ, suc, ◌<◌, ◌≤◌, Bool, true, false, List, [], ◌∷◌, ◌++◌, drop, length, Some, None, refl, ap, sym, subst, ◌∙◌, append-nil, inl, inr}
use Rattle.std.specs.Prelude.{codes, if◌then◌else◌, ◌||◌, ◌&&◌, IsTrue, nat_le, nat_lt}
use Rattle.std.specs.Str.{bytes_eq}
use Rattle.std.proofs.lemmas.Bool.{leb-false, ltb-false}
use Rattle.sj_lang.specs.declared.proto.Way.{Way}
use Rattle.sj_lang.specs.Place.{Carried, done, int, boolean, text, session, no_choice}
use Rattle.sj_lang.specs.ItemCount.{item_count, kind_items, arm_items}
use Rattle.sj_lang.specs.Limits.{Limits}
use Rattle.sj_grammar.specs.Names.{is_name}
use Rattle.sj_grammar.specs.Positions.{Pieces}
use Rattle.sj_grammar.specs.Protocols.{open_piece, close_piece, kind_pieces, listed, IsGivenKind}
use Rattle.sj_grammar.specs.ProtocolDues.{ProtocolDue, body, more, seq, maybe, behind, kind, label, arms, fixed, protocol_follow, protocol_counted, protocol_passes, protocol_may_be_none, item_follow, is_way}
use Rattle.sj_grammar.proofs.SpellingLemmas.{HasFirst}
use Rattle.sj_proto.proofs.NameLemmas.{test_is}
use Rattle.sj_proto.proofs.BodyLemmas.{dotted_some}
use Rattle.sj_party_laws.proofs.ChainLemmas.{nothing, first}
use Rattle.sj_party_laws.proofs.CountLemmas.{Counts, counts_none, counts_few}
use Rattle.sj_party_laws.proofs.ItemLemmas.{Spelled, AllSpelled, from_item, arm_from}

-- where neither of two tests is met
pub first_passes : (x y : Bool) → (x || y) ≡ false → x ≡ false
first_passes false y e = refl
first_passes true y e = e

pub second_passes : (x y : Bool) → (x || y) ≡ false → y ≡ false
second_passes false y e = e
second_passes true y e = let no : ⊥ = cc in absurd no

module _ (L : Limits) (word : ℕ → List ℕ) where
  -- what stands after a way, from what opens it
  from_open : (o n m : ℕ) (w : Way) (es : List ProtocolDue) (s : List ℕ) (ts : Pieces) → o < L.nesting → protocol_follow (behind o w) s ≡ Some es → AllSpelled L word n es ts m → Spelled L word n (behind o w) (s ∷ ts) m
  from_open o n m w es s ts deep e h = by_tests (bytes_eq s (open_piece w)) (bytes_eq s (codes "{")) (bytes_eq s (codes "[")) refl refl refl e
    where
      carried : s ≡ open_piece w → (xs : Pieces) → AllSpelled L word n (kind (suc o) ∷ fixed (close_piece w) ∷ []) xs m → Spelled L word n (behind o w) (s ∷ xs) m
      carried same _ (first {k} k' (first f nothing)) =
          (deep, inl (k'.0, k'.1, subst (λ (j : ℕ). Counts L.items n (kind_items k'.0) j) f.0 k'.2, λ i. same i ∷ (k'.3 i ++ (f.1 i ++ []))))

      arms_in : s ≡ codes "{" → (xs : Pieces) → AllSpelled L word n (label 0 ∷ fixed (codes ":") ∷ maybe (suc o) ∷ arms (suc o) 1 ∷ fixed (codes "}") ∷ []) xs m → Spelled L word n (behind o w) (s ∷ xs) m
      arms_in same xs g =
          let x = arm_from L word (suc o) 0 n m (fixed (codes "}") ∷ []) xs g in
          closed x.between x.rest x.behind (λ f all. (deep, inr (inl (x.choices, x.some, x.given, subst (λ (j : ℕ). Counts L.items n (arm_items x.choices) j) f x.count, λ i. same i ∷ (x.same ∙ ap (λ r. drop 1 (listed word x.choices) ++ r) all) i))))
        where
          closed : {X : Type 0} (k : ℕ) (r : Pieces) → AllSpelled L word k (fixed (codes "}") ∷ []) r m → (k ≡ m → r ≡ codes "}" ∷ [] → X) → X
          closed k _ (first f nothing) follows = follows f.0 (λ i. f.1 i ++ [])

      turns : s ≡ codes "[" → (xs : Pieces) → AllSpelled L word n (maybe (suc o) ∷ fixed (codes "]") ∷ fixed (codes "*") ∷ []) xs m → Spelled L word n (behind o w) (s ∷ xs) m
      turns same _ (first p (first f (first g nothing))) =
          (deep, inr (inr (p.0, p.1, subst (λ (j : ℕ). Counts L.items n (item_count p.0) j) (f.0 ∙ g.0) p.2, λ i. same i ∷ (p.3 i ++ (f.1 i ++ (g.1 i ++ []))))))

      by_tests : (x y z : Bool) → bytes_eq s (open_piece w) ≡ x → bytes_eq s (codes "{") ≡ y → bytes_eq s (codes "[") ≡ z
          → (if x then Some (kind (suc o) ∷ fixed (close_piece w) ∷ []) else (if y then Some (label 0 ∷ fixed (codes ":") ∷ maybe (suc o) ∷ arms (suc o) 1 ∷ fixed (codes "}") ∷ [])
          else (if z then Some (maybe (suc o) ∷ fixed (codes "]") ∷ fixed (codes "*") ∷ []) else None))) ≡ Some es
          → Spelled L word n (behind o w) (s ∷ ts) m
      by_tests true y z ex ey ez f = let due : es ≡ kind (suc o) ∷ fixed (close_piece w) ∷ [] = cc in carried (test_is s (open_piece w) ex) ts (subst (λ (gs : List ProtocolDue). AllSpelled L word n gs ts m) due h)
      by_tests false true z ex ey ez f = let due : es ≡ label 0 ∷ fixed (codes ":") ∷ maybe (suc o) ∷ arms (suc o) 1 ∷ fixed (codes "}") ∷ [] = cc in arms_in (test_is s (codes "{") ey) ts (subst (λ (gs : List ProtocolDue). AllSpelled L word n gs ts m) due h)
      by_tests false false true ex ey ez f = let due : es ≡ maybe (suc o) ∷ fixed (codes "]") ∷ fixed (codes "*") ∷ [] = cc in turns (test_is s (codes "[") ez) ts (subst (λ (gs : List ProtocolDue). AllSpelled L word n gs ts m) due h)
      by_tests false false false ex ey ez f = let none : ⊥ = cc in absurd none

  -- nothing follows
  pub last : (n m : ℕ) (ts : Pieces) → AllSpelled L word n [] ts m → (n ≡ m) × (ts ≡ [])
  last n m _ nothing = (refl, refl)

  -- what a message carries, from its first token
  from_kind : (o n m : ℕ) (es : List ProtocolDue) (s : List ℕ) (ts : Pieces) → (is_way s && nat_le L.items n) ≡ false → protocol_follow (kind o) s ≡ Some es → AllSpelled L word (if is_way s then suc n else n) es ts m → Spelled L word n (kind o) (s ∷ ts) m
  from_kind o n m es s ts room e h = by_tests (bytes_eq s (codes "int")) (bytes_eq s (codes "boolean")) (bytes_eq s (codes "String")) refl refl refl e
    where
      alone : (k : Carried) → IsGivenKind L word o k → kind_items k ≡ 0 → kind_pieces word k ≡ s ∷ [] → is_way s ≡ false → Some [] ≡ Some es → Spelled L word n (kind o) (s ∷ ts) m
      alone k can few same other f =
          let due : es ≡ [] = cc in
          let x = last (if is_way s then suc n else n) m ts (subst (λ (gs : List ProtocolDue). AllSpelled L word (if is_way s then suc n else n) gs ts m) due h) in
          let start : n ≡ m = (λ i. if sym other i then suc n else n) ∙ x.0 in
          (k, can, subst (λ (j : ℕ). Counts L.items n j m) (sym few) (subst (λ (j : ℕ). Counts L.items n 0 j) start (counts_none L.items n)), ap (λ r. s ∷ r) x.1 ∙ sym same)

      way : is_way s ≡ true → (n < L.items) × ((if is_way s then suc n else n) ≡ suc n)
      way t = (leb-false L.items n ((λ i. sym t i && nat_le L.items n) ∙ room), λ i. if t i then suc n else n)

      by_tests : (x y z : Bool) → bytes_eq s (codes "int") ≡ x → bytes_eq s (codes "boolean") ≡ y → bytes_eq s (codes "String") ≡ z
          → (if x then Some [] else (if y then Some [] else (if z then Some [] else item_follow o s))) ≡ Some es → Spelled L word n (kind o) (s ∷ ts) m
      by_tests true y z ex ey ez f = let same = test_is s (codes "int") ex in alone int tt refl (ap (λ t. t ∷ []) (sym same)) (ap is_way same) f
      by_tests false true z ex ey ez f = let same = test_is s (codes "boolean") ey in alone boolean tt refl (ap (λ t. t ∷ []) (sym same)) (ap is_way same) f
      by_tests false false true ex ey ez f = let same = test_is s (codes "String") ez in alone text tt refl (ap (λ t. t ∷ []) (sym same)) (ap is_way same) f
      by_tests false false false ex ey ez f = from_item L word o n (if is_way s then suc n else n) m (kind o) es s ts (λ a p g some c same. (session p, (some, g), c, same)) way f h

  -- where a test is met, these are the dues after the token
  from_test : {X : Type 0} (n m : ℕ) (es ds : List ProtocolDue) (ts : Pieces) (b : Bool) → (b ≡ true → AllSpelled L word n ds ts m → X) → (if b then Some ds else None) ≡ Some es → AllSpelled L word n es ts m → X
  from_test n m es ds ts true spelled e h = let due : es ≡ ds = cc in spelled refl (subst (λ (gs : List ProtocolDue). AllSpelled L word n gs ts m) due h)
  from_test n m es ds ts false spelled e h = let none : ⊥ = cc in absurd none

  -- one due alone
  alone : (n m : ℕ) (d : ProtocolDue) (ts : Pieces) → AllSpelled L word n (d ∷ []) ts m → Spelled L word n d ts m
  alone n m d _ (first {a} x nothing) = subst (λ (t : Pieces). Spelled L word n d t m) (sym (append-nil a)) x

  -- a name has its first number
  abbrev HasName : List ℕ → Type 0
  HasName s = is_name s ≡ true → HasFirst word s

  -- each due by its token
  pub spelled_back : (n m : ℕ) (d : ProtocolDue) (s : List ℕ) (es : List ProtocolDue) (ts : Pieces) → HasName s → protocol_follow d s ≡ Some es → protocol_passes L n d s ≡ false → AllSpelled L word (protocol_counted n d s) es ts m → Spelled L word n d (s ∷ ts) m
  spelled_back n m body s es ts held e room h = from_test 0 m es (more 0 ∷ []) ts (bytes_eq s (codes "begin")) (λ t g.
      let x = alone 0 m (more 0) ts g in (x.0, x.1, counts_few L.items (item_count x.0) m x.2, λ i. test_is s (codes "begin") t i ∷ x.3 i)) e h
  spelled_back n m (more o) s es ts held e room h = from_test n m es (seq o ∷ []) ts (bytes_eq s (codes ".")) (λ t g.
      let x = alone n m (seq o) ts g in (x.0, x.1, x.3, (λ i. test_is s (codes ".") t i ∷ x.4 i) ∙ dotted_some word x.0 x.2)) e h
  spelled_back n m (seq o) s es ts held e room h = from_item L word o n (suc n) m (seq o) es s ts (λ a p g some c same. (p, g, some, c, same)) (λ t. (leb-false L.items n room, refl)) e h
  spelled_back n m (maybe o) s es ts held e room h = from_item L word o n (suc n) m (maybe o) es s ts (λ a p g some c same. (p, g, c, same)) (λ t. (leb-false L.items n room, refl)) e h
  spelled_back n m (behind o w) s es ts held e room h = from_open o n m w es s ts (leb-false L.nesting o room) e h
  spelled_back n m (kind o) s es ts held e room h = from_kind o n m es s ts room e h
  spelled_back n m (label k) s es ts held e room h = from_test n m es [] ts (is_name s) (λ t g.
      let l = held t in
      let x = last n m ts g in
      let room_for = leb-false L.labels k (first_passes (nat_le L.labels k) (nat_lt L.name (length s)) room) in
      let short = ltb-false L.name (length s) (second_passes (nat_le L.labels k) (nat_lt L.name (length s)) room) in
      let named : IsTrue (is_name (word l.0)) = subst (λ (x : List ℕ). IsTrue (is_name x)) (sym l.1) t in
      (l.0, room_for, record { name = named; short = subst (λ (x : List ℕ). length x ≤ L.name) (sym l.1) short; first = l.2 }, x.0, λ i. sym l.1 i ∷ x.1 i)) e h
  spelled_back n m (arms o k) s es ts held e room h = from_test n m es (label k ∷ fixed (codes ":") ∷ maybe o ∷ arms o (suc k) ∷ []) ts (bytes_eq s (codes ",")) (λ t g.
      let x = arm_from L word o k n m [] ts g in
      let end = last x.between m x.rest x.behind in
      let all : ts ≡ drop 1 (listed word x.choices) = x.same ∙ ap (λ y. drop 1 (listed word x.choices) ++ y) end.1 ∙ append-nil (drop 1 (listed word x.choices)) in
      (x.choices, x.given, subst (λ (j : ℕ). Counts L.items n (arm_items x.choices) j) end.0 x.count, (λ i. test_is s (codes ",") t i ∷ all i) ∙ sym x.whole)) e h
  spelled_back n m (fixed p) s es ts held e room h = from_test n m es [] ts (bytes_eq s p) (λ t g. let x = last n m ts g in (x.0, λ i. test_is s p t i ∷ x.1 i)) e h

  -- nothing in the place of what need not be
  pub none_spelled : (n : ℕ) (d : ProtocolDue) → protocol_may_be_none d ≡ true → Spelled L word n d [] n
  none_spelled n body e = let none : ⊥ = cc in absurd none
  none_spelled n (more o) e = (done, tt, counts_none L.items n, refl)
  none_spelled n (seq o) e = let none : ⊥ = cc in absurd none
  none_spelled n (maybe o) e = (done, tt, counts_none L.items n, refl)
  none_spelled n (behind o w) e = let none : ⊥ = cc in absurd none
  none_spelled n (kind o) e = let none : ⊥ = cc in absurd none
  none_spelled n (label k) e = let none : ⊥ = cc in absurd none
  none_spelled n (arms o k) e = (no_choice, tt, counts_none L.items n, refl)
  none_spelled n (fixed p) e = let none : ⊥ = cc in absurd none
