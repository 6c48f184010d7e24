-- Maps of std as finite maps.
use Rattle.std.proofs.Common.{◌≡◌, ◌≢◌, ℕ, List, [], ◌∷◌, Some, None, refl, ap, sym, ◌∙◌, ◌==◌, cond, Bool, true, false}
use Rattle.std.proofs.lemmas.Bool.Decides.{Decides-eqb}
use Rattle.std.specs.Ordering.{nat_cmp, eq_by_cmp}
use Rattle.std.specs.Cmp.{nat_cmp_total, unsigned_tied}
use Rattle.std.specs.Map.{lookup}
use Rattle.std.specs.BTreeMap.{is_at}
use Rattle.std.specs.FinMap.{FinMap, get, insert, remove, find, same_map, get-from_entries, get-insert, get-remove, nat_cmp-IsAntisymmetric}
use Rattle.sj_check.specs.Maps.{map_at}

find_lookup : {X : Type 0} (es : List (ℕ × X)) (q : ℕ) → find nat_cmp q es ≡ lookup (is_at (nat_cmp q)) es
find_lookup [] q = refl
find_lookup (e ∷ es) q = ap (cond (eq_by_cmp nat_cmp q e.0) (Some e.1)) (find_lookup es q)

-- what the finite map has at a key
pub get-map_at : {X : Type 0} (es : List (ℕ × X)) (q : ℕ) → get (map_at es) q ≡ lookup (is_at (nat_cmp q)) es
get-map_at es q = get-from_entries nat_cmp_total es q ∙ find_lookup es q

-- what was taken out and put back
pub insert-remove : {X : Type 0} (m : FinMap nat_cmp X) (k : ℕ) (v : X) → insert (remove m k) k v ≡ insert m k v
insert-remove m k v = same_map nat_cmp_total nat_cmp-IsAntisymmetric _ _ (λ q.
    get-insert nat_cmp_total (remove m k) k v q ∙ back q (eq_by_cmp nat_cmp q k) (get-remove nat_cmp_total m k q) ∙ sym (get-insert nat_cmp_total m k v q))
  where
    back : (q : ℕ) (b : Bool) → get (remove m k) q ≡ cond b None (get m q) → cond b (Some v) (get (remove m k) q) ≡ cond b (Some v) (get m q)
    back q true h = refl
    back q false h = h

-- a test of what isn't so fails
pub differ : {X : Type 0} (b : Bool) → (b ≡ true → X) → (X → ⊥) → b ≡ false
differ true f h = absurd (h (f refl))
differ false f h = refl

-- at another key
pub get-remove_other : {X : Type 0} (m : FinMap nat_cmp X) (k q : ℕ) → q ≢ k → get (remove m k) q ≡ get m q
get-remove_other m k q h = get-remove nat_cmp_total m k q ∙ ap (λ b. cond b None (get m q)) (unsigned_tied q k ∙ differ (q == k) (Decides-eqb q k).0 h)

pub get-insert_other : {X : Type 0} (m : FinMap nat_cmp X) (k q : ℕ) (v : X) → q ≢ k → get (insert m k v) q ≡ get m q
get-insert_other m k q v h = get-insert nat_cmp_total m k v q ∙ ap (λ b. cond b (Some v) (get m q)) (unsigned_tied q k ∙ differ (q == k) (Decides-eqb q k).0 h)

pub ruleset maps = (insert-remove, get-remove_other)
