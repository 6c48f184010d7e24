-- The places for which the spots of an environment stand.
use Rattle.std.proofs.Common.{◌≡◌, ℕ, List, [], ◌∷◌, Option, Some, None, Bool, true, false, option_map, map, ◌↔◌, cond, refl, ap, sym, ◌∙◌}
use Rattle.std.specs.Ordering.{nat_cmp, eq_by_cmp}
use Rattle.std.specs.Cmp.{nat_cmp_total}
use Rattle.std.specs.FinMap.{FinMap, get, insert, remove, empty, entries, find, same_map, get-entries, get-from_entries, get-insert, get-remove, get-empty, nat_cmp-IsAntisymmetric}
use Rattle.sj_table.specs.declared.table.Spot.{Spot}
use Rattle.sj_table.specs.declared.table.Table.{Table}
use Rattle.sj_table.specs.Spots.{place_in}
use Rattle.std.proofs.lemmas.Bool.Decides.{same_from_decides}
use Rattle.std.specs.Bool.{Decides, IsTrue}
use Rattle.sj_acceptance.specs.Sameness.{is_same_ends}
use Rattle.sj_acceptance_laws.proofs.SamenessLemmas.{is_same_ends-Decides}
use Rattle.sj_acceptance.specs.EnvAt.{empty_env}
use Rattle.sj_check.specs.declared.tables.Protocols.{Protocols}
use Rattle.sj_check.specs.SpotEnv.{places_at, no_spots}
use Rattle.sj_check.specs.Seen.{env_in}
use Rattle.sj_check.proofs.FaultLemmas.{first_fault-append}
use Rattle.std.proofs.lemmas.List.{append_assoc, append-nil}

find_mapped : {X Y : Type 0} (f : X → Y) (es : List (ℕ × X)) (q : ℕ) → find nat_cmp q (map (λ e. (e.0, f e.1)) es) ≡ option_map f (find nat_cmp q es)
find_mapped f [] q = refl
find_mapped f (e ∷ es) q =
    elim (eq_by_cmp nat_cmp q e.0) as (λ b. cond b (Some (f e.1)) (find nat_cmp q (map (λ d. (d.0, f d.1)) es)) ≡ option_map f (cond b (Some e.1) (find nat_cmp q es)))
    [ true ↦ refl | false ↦ find_mapped f es q ]

-- the place of an end is that of its spot
pub get-places_at : (t : Table) (m : FinMap nat_cmp Spot) (q : ℕ) → get (places_at t m) q ≡ option_map (place_in t) (get m q)
unfolding places_at
get-places_at t m q =
    get-from_entries nat_cmp_total (map (λ e. (e.0, place_in t e.1)) (entries m)) q ∙ find_mapped (place_in t) (entries m) q ∙ ap (option_map (place_in t)) (sym (get-entries m q))

chosen : {X Y : Type 0} (f : X → Y) (b : Bool) (v : X) (o : Option X) → cond b (Some (f v)) (option_map f o) ≡ option_map f (cond b (Some v) o)
chosen f true v o = refl
chosen f false v o = refl

pub places_at-insert : (t : Table) (m : FinMap nat_cmp Spot) (k : ℕ) (s : Spot) → places_at t (insert m k s) ≡ insert (places_at t m) k (place_in t s)
places_at-insert t m k s = same_map nat_cmp_total nat_cmp-IsAntisymmetric _ _ (λ q.
    get-places_at t (insert m k s) q ∙ ap (option_map (place_in t)) (get-insert nat_cmp_total m k s q)
    ∙ sym (get-insert nat_cmp_total (places_at t m) k (place_in t s) q ∙ ap (cond (eq_by_cmp nat_cmp q k) (Some (place_in t s))) (get-places_at t m q) ∙ chosen (place_in t) (eq_by_cmp nat_cmp q k) s (get m q)))

gone : {X Y : Type 0} (f : X → Y) (b : Bool) (o : Option X) → cond b None (option_map f o) ≡ option_map f (cond b None o)
gone f true o = refl
gone f false o = refl

pub places_at-remove : (t : Table) (m : FinMap nat_cmp Spot) (k : ℕ) → places_at t (remove m k) ≡ remove (places_at t m) k
places_at-remove t m k = same_map nat_cmp_total nat_cmp-IsAntisymmetric _ _ (λ q.
    get-places_at t (remove m k) q ∙ ap (option_map (place_in t)) (get-remove nat_cmp_total m k q)
    ∙ sym (get-remove nat_cmp_total (places_at t m) k q ∙ ap (cond (eq_by_cmp nat_cmp q k) None) (get-places_at t m q) ∙ gone (place_in t) (eq_by_cmp nat_cmp q k) (get m q)))

pub places_at-empty : (t : Table) → places_at t empty ≡ empty
places_at-empty t = same_map nat_cmp_total nat_cmp-IsAntisymmetric _ _ (λ q.
    get-places_at t empty q ∙ ap (option_map (place_in t)) (get-empty nat_cmp q) ∙ sym (get-empty nat_cmp q))

pub env_in-no_spots : (p : Protocols) → env_in p no_spots ≡ empty_env
env_in-no_spots p = ap (λ m. record { ends = m; variables = empty }) (places_at-empty p.table)

not_mapped : {X Y : Type 0} (f : X → Y) (o : Option X) → option_map f o ≡ None → o ≡ None
not_mapped f None h = refl
not_mapped f (Some x) h = let none : Some (f x) ≡ None = h in absurd (cc)

-- no end is live just where no end has a spot
none_live : (t : Table) (m : FinMap nat_cmp Spot) → Decides (is_same_ends (places_at t m) empty) (m ≡ empty)
none_live t m = (
  (λ h. let none = (is_same_ends-Decides (places_at t m) empty).0 h in
      same_map nat_cmp_total nat_cmp-IsAntisymmetric m empty (λ q.
      not_mapped (place_in t) (get m q) (sym (get-places_at t m q) ∙ ap (λ k. get k q) none ∙ get-empty nat_cmp q) ∙ sym (get-empty nat_cmp q))),
  λ e. (is_same_ends-Decides (places_at t m) empty).1 (ap (places_at t) e ∙ places_at-empty t),
)

pub has_none_live : (t : Table) (m : FinMap nat_cmp Spot) (r : Bool) → (IsTrue r ↔ (m ≡ empty)) → r ≡ is_same_ends (places_at t m) empty
has_none_live t m r h = same_from_decides r (is_same_ends (places_at t m) empty) h (none_live t m)

pub ruleset seen = (get-places_at, places_at-insert, places_at-remove, places_at-empty)

pub ruleset steps = (get-places_at, places_at-insert, places_at-remove, places_at-empty, first_fault-append)

pub ruleset named = (get-places_at, append_assoc, append-nil)
