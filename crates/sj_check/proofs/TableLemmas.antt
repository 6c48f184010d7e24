-- Tables by number as finite maps.
use Rattle.std.proofs.Common.{◌≡◌, ◌≢◌, ℕ, zero, suc, ◌+◌, ◌<◌, List, [], ◌∷◌, map, take, Option, Some, None, Bool, true, false, cond, if◌then◌else◌, length, get_or, ◌==◌, nat_lt, refl, ap, sym, subst, ◌∙◌, ◌↔◌, arith}
use Rattle.std.specs.Ordering.{nat_cmp, eq_by_cmp}
use Rattle.std.specs.Cmp.{nat_cmp_total, unsigned_tied}
use Rattle.std.specs.Map.{lookup}
use Rattle.std.specs.BTreeMap.{is_at}
use Rattle.std.specs.FinMap.{FinMap, get, insert, remove, empty, same_map, get-insert, get-remove, get-empty, nat_cmp-IsAntisymmetric}
use Rattle.std.proofs.Math.ListN.{set}
use Rattle.std.proofs.lemmas.List.{get_or-set_same, get_or-set_other}
use Rattle.std.proofs.lemmas.Bool.{lt-ltb, le-ltb}
use Rattle.std.proofs.lemmas.Bool.Decides.{Decides-eqb, Decides-ltb, same_from_decides}
use Rattle.std.proofs.Math.Numerals.{lt_of_le_of_ne}
use Rattle.sj_lang.specs.declared.party.Scalar.{Scalar}
use Rattle.sj_acceptance.specs.Arms.{agree, common}
use Rattle.sj_acceptance_laws.proofs.JoinLaws.{get-common}
use Rattle.sj_table.specs.declared.table.Spot.{Spot}
use Rattle.sj_check.specs.Maps.{map_at}
use Rattle.sj_check.specs.Table.{kind_of_byte, numbered, kinds_in, spots_in, is_blank}
use Rattle.sj_check.proofs.MapLemmas.{get-map_at}

-- the entry under a number
abbrev pub entry : {X : Type 0} → List (Option X) → ℕ → Option X
entry os q = get_or os q None

apart : (q n : ℕ) → q ≢ n → eq_by_cmp nat_cmp q n ≡ false
apart q n h = unsigned_tied q n ∙ differ (q == n) (λ t. h ((Decides-eqb q n).0 t))
  where
    differ : (b : Bool) → (b ≡ true → ⊥) → b ≡ false
    differ true f = absurd (f refl)
    differ false f = refl

not_one : (q n : ℕ) → (q == n) ≡ false → q ≢ n
not_one q n e f = let t : (q == n) ≡ true = (Decides-eqb q n).1 f in absurd (cc)

same : (n : ℕ) → eq_by_cmp nat_cmp n n ≡ true
same n = unsigned_tied n n ∙ (Decides-eqb n n).1 refl

-- no number below the first is there
below : {X : Type 0} (os : List (Option X)) (n q : ℕ) → q < n → lookup (is_at (nat_cmp q)) (numbered n os) ≡ None
below [] n q h = refl
below (None ∷ os) n q h = below os (suc n) q (omega arith)
below (Some k ∷ os) n q h =
    ap (λ b. cond b (Some k) (lookup (is_at (nat_cmp q)) (numbered (suc n) os))) (apart q n (λ e. absurd (omega arith))) ∙ below os (suc n) q (omega arith)

-- each number is where it stands
numbered-at : {X : Type 0} (os : List (Option X)) (n j q : ℕ) → q ≡ n + j → lookup (is_at (nat_cmp q)) (numbered n os) ≡ entry os j
numbered-at [] n j q e = refl
numbered-at (None ∷ os) n zero q e = below os (suc n) q (omega arith)
numbered-at (None ∷ os) n (suc j) q e = numbered-at os (suc n) j q (omega arith)
numbered-at (Some k ∷ os) n zero q e =
    let here : q ≡ n = omega arith in
    ap (λ b. cond b (Some k) (lookup (is_at (nat_cmp q)) (numbered (suc n) os))) (ap (λ m. eq_by_cmp nat_cmp m n) here ∙ same n)
numbered-at (Some k ∷ os) n (suc j) q e =
    ap (λ b. cond b (Some k) (lookup (is_at (nat_cmp q)) (numbered (suc n) os))) (apart q n (λ f. absurd (omega arith))) ∙ numbered-at os (suc n) j q (omega arith)

-- the kind under a number
abbrev pub at : List ℕ → ℕ → Option Scalar
at bs q = kind_of_byte (get_or bs q 0)

mapped : (bs : List ℕ) (q : ℕ) → entry (map kind_of_byte bs) q ≡ at bs q
mapped [] q = refl
mapped (b ∷ bs) zero = refl
mapped (b ∷ bs) (suc q) = mapped bs q

pub get-kinds_in : (bs : List ℕ) (q : ℕ) → get (kinds_in bs) q ≡ at bs q
get-kinds_in bs q = get-map_at (numbered 0 (map kind_of_byte bs)) q ∙ numbered-at (map kind_of_byte bs) 0 q q (omega arith) ∙ mapped bs q

-- two maps that answer alike but at one key
same_but : {X : Type 0} (m f : FinMap nat_cmp X) (k : ℕ) (v : X) → ((q : ℕ) → q ≢ k → get f q ≡ get m q) → get f k ≡ Some v → f ≡ insert m k v
same_but m f k v kept here = same_map nat_cmp_total nat_cmp-IsAntisymmetric _ _ (λ q. at_key q ∙ sym (get-insert nat_cmp_total m k v q))
  where
    at_key : (q : ℕ) → get f q ≡ cond (eq_by_cmp nat_cmp q k) (Some v) (get m q)
    at_key q = elim (q == k) as (λ t. (q == k) ≡ t → get f q ≡ cond (eq_by_cmp nat_cmp q k) (Some v) (get m q)) [
      | true ↦ λ e. ap (get f) ((Decides-eqb q k).0 e) ∙ here ∙ ap (λ t. cond t (Some v) (get m q)) (sym (unsigned_tied q k ∙ e))
      | false ↦ λ e. kept q (not_one q k e) ∙ ap (λ t. cond t (Some v) (get m q)) (sym (unsigned_tied q k ∙ e))
    ] refl

same_without : {X : Type 0} (m f : FinMap nat_cmp X) (k : ℕ) → ((q : ℕ) → q ≢ k → get f q ≡ get m q) → get f k ≡ None → f ≡ remove m k
same_without m f k kept here = same_map nat_cmp_total nat_cmp-IsAntisymmetric _ _ (λ q. at_key q ∙ sym (get-remove nat_cmp_total m k q))
  where
    at_key : (q : ℕ) → get f q ≡ cond (eq_by_cmp nat_cmp q k) None (get m q)
    at_key q = elim (q == k) as (λ t. (q == k) ≡ t → get f q ≡ cond (eq_by_cmp nat_cmp q k) None (get m q)) [
      | true ↦ λ e. ap (get f) ((Decides-eqb q k).0 e) ∙ here ∙ ap (λ t. cond t None (get m q)) (sym (unsigned_tied q k ∙ e))
      | false ↦ λ e. kept q (not_one q k e) ∙ ap (λ t. cond t None (get m q)) (sym (unsigned_tied q k ∙ e))
    ] refl

-- one kind is written, after what made room for it
pub kinds_in-set : (old grown : List ℕ) (n b : ℕ) (k : Scalar) → kind_of_byte b ≡ Some k → n < length grown → ((q : ℕ) → get_or grown q 0 ≡ get_or old q 0)
    → kinds_in (set grown n b) ≡ insert (kinds_in old) n k
kinds_in-set old grown n b k is room kept = same_but (kinds_in old) (kinds_in (set grown n b)) n k
    (λ q other. get-kinds_in (set grown n b) q ∙ ap kind_of_byte (get_or-set_other grown n q b 0 other ∙ kept q) ∙ sym (get-kinds_in old q))
    (get-kinds_in (set grown n b) n ∙ ap kind_of_byte (get_or-set_same grown n b 0 room) ∙ is)

pub get-spots_in : (os : List (Option Spot)) (q : ℕ) → get (spots_in os) q ≡ entry os q
get-spots_in os q = get-map_at (numbered 0 os) q ∙ numbered-at os 0 q q (omega arith)

-- one spot is written so
pub spots_in-set : (old grown : List (Option Spot)) (n : ℕ) (s : Spot) → n < length grown → ((q : ℕ) → entry grown q ≡ entry old q)
    → spots_in (set grown n (Some s)) ≡ insert (spots_in old) n s
spots_in-set old grown n s room kept = same_but (spots_in old) (spots_in (set grown n (Some s))) n s
    (λ q other. get-spots_in (set grown n (Some s)) q ∙ get_or-set_other grown n q (Some s) None other ∙ kept q ∙ sym (get-spots_in old q))
    (get-spots_in (set grown n (Some s)) n ∙ get_or-set_same grown n (Some s) None room)

-- or none is left
pub spots_in-cleared : (old new : List (Option Spot)) (n : ℕ) → entry new n ≡ None → ((q : ℕ) → q ≢ n → entry new q ≡ entry old q) → spots_in new ≡ remove (spots_in old) n
spots_in-cleared old new n there kept = same_without (spots_in old) (spots_in new) n
    (λ q other. get-spots_in new q ∙ kept q other ∙ sym (get-spots_in old q)) (get-spots_in new n ∙ there)

blank_is : (os : List (Option Spot)) (n : ℕ) → is_blank os ≡ true → numbered n os ≡ []
blank_is [] n h = refl
blank_is (None ∷ os) n h = blank_is os (suc n) h
blank_is (Some s ∷ os) n h = absurd (cc)

is_blank_of : (os : List (Option Spot)) → ((q : ℕ) → entry os q ≡ None) → is_blank os ≡ true
is_blank_of [] h = refl
is_blank_of (None ∷ os) h = is_blank_of os (λ q. h (suc q))
is_blank_of (Some s ∷ os) h = let none : Some s ≡ None = h 0 in absurd (cc)

-- no number has a spot just where the map is empty
pub blank-empty : (os : List (Option Spot)) → (is_blank os ≡ true) ↔ (spots_in os ≡ empty)
blank-empty os = (λ h. ap map_at (blank_is os 0 h), λ e. is_blank_of os (λ q. sym (get-spots_in os q) ∙ ap (λ m. get m q) e ∙ get-empty nat_cmp q))

-- what both have at one kind
abbrev pub one_kind : Option Scalar → Option Scalar → Option Scalar
one_kind o p = if agree o p then o else None

with_none : (o : Option Scalar) → one_kind o None ≡ None
with_none None = refl
with_none (Some k) = refl

one_further : (q n : ℕ) → q ≢ n → nat_lt q (n + 1) ≡ nat_lt q n
one_further q n other = same_from_decides (nat_lt q (n + 1)) (nat_lt q n)
    ((λ h. let l : q < n + 1 = (Decides-ltb q (n + 1)).0 h in lt_of_le_of_ne (omega (arith, l)) other), λ l. (Decides-ltb q (n + 1)).1 (omega (arith, l))) (Decides-ltb q n)

-- the entries below n + 1 are compared, and not those below n alone
pub compared : (old now other : List ℕ) (n b : ℕ) → n < length now → kind_of_byte b ≡ one_kind (at now n) (at other n)
    → ((q : ℕ) → at now q ≡ (if nat_lt q n then one_kind (at old q) (at other q) else at old q))
    → (q : ℕ) → at (set now n b) q ≡ (if nat_lt q (n + 1) then one_kind (at old q) (at other q) else at old q)
compared old now other n b inside is so_far q = elim (q == n) as (λ t. (q == n) ≡ t → at (set now n b) q ≡ (if nat_lt q (n + 1) then one_kind (at old q) (at other q) else at old q)) [
  | true ↦ λ e.
      let here : q ≡ n = (Decides-eqb q n).0 e in
      let was : at now n ≡ at old n = so_far n ∙ ap (λ t. if t then one_kind (at old n) (at other n) else at old n) (le-ltb n n (omega arith)) in
      subst (λ m. at (set now n b) m ≡ (if nat_lt m (n + 1) then one_kind (at old m) (at other m) else at old m)) (sym here)
      (ap kind_of_byte (get_or-set_same now n b 0 inside) ∙ is ∙ ap (λ o. one_kind o (at other n)) was
      ∙ sym (ap (λ t. if t then one_kind (at old n) (at other n) else at old n) (lt-ltb n (n + 1) (omega arith))))
  | false ↦ λ e.
      let other_one : q ≢ n = not_one q n e in
      ap kind_of_byte (get_or-set_other now n q b 0 other_one) ∙ so_far q
      ∙ sym (ap (λ t. if t then one_kind (at old q) (at other q) else at old q) (one_further q n other_one))
] refl

-- a table is first cut to the length of the other
cut : (a b : List ℕ) (q : ℕ) → one_kind (at (take (length b) a) q) (at b q) ≡ one_kind (at a q) (at b q)
cut a [] q = with_none (at (take 0 a) q) ∙ sym (with_none (at a q))
cut [] (y ∷ b) q = refl
cut (x ∷ a) (y ∷ b) zero = refl
cut (x ∷ a) (y ∷ b) (suc q) = cut a b q

pub kinds_in-common : (a b new : List ℕ) → ((q : ℕ) → at new q ≡ one_kind (at (take (length b) a) q) (at b q)) → kinds_in new ≡ common (kinds_in a) (kinds_in b)
kinds_in-common a b new h = same_map nat_cmp_total nat_cmp-IsAntisymmetric _ _ (λ q.
    get-kinds_in new q ∙ h q ∙ cut a b q ∙ (λ i. one_kind (sym (get-kinds_in a q) i) (sym (get-kinds_in b q) i))
    ∙ sym (get-common (kinds_in a) (kinds_in b) q))
