-- A chain grows by one party: the roads and the lanes.
use Rattle.std.proofs.Common.{◌≡◌, ℕ, zero, suc, ◌<◌, ◌≤◌, List, [], ◌∷◌, refl, sym, subst, ap, ◌∙◌, arith}
use Rattle.std.specs.Prelude.{Bool, true, false, ◌&&◌, ◌==◌, if◌then◌else◌}
use Rattle.std.specs.List.{AllByRecursion}
use Rattle.std.proofs.lemmas.Bool.{eqb-false}
use Rattle.sj_base.specs.declared.EndId.{EndId}
use Rattle.sj_rules.specs.Record.{is_same_end, other_end}
use Rattle.sj_forward_rules.specs.Record.{FrameAt}
use Rattle.sj_forward_rules.specs.World.{Lanes}
use Rattle.sj_forward_laws.specs.Roads.{Chains, Road, inward, outward, claiming, road_of, behind_of, start_of, goal_of, IsThere, IsOnRoad, on_road}
use Rattle.sj_forward_laws.specs.Pipe.{traffic}
use Rattle.sj_forward_laws.proofs.EndLemmas.{same_end, same_is}
use Rattle.sj_forward_laws.proofs.RoadLemmas.{none_there, road_self}
use Rattle.sj_forward_laws.proofs.MovedLemmas.{other_hop, other_name}

pub all_map : {X : Type 0} (A B : X → Type 0) → ((x : X) → A x → B x) → (xs : List X) → AllByRecursion A xs → AllByRecursion B xs
all_map A B f [] all = tt
all_map A B f (x ∷ xs) all = (f x all.0, all_map A B f xs all.1)

module _ (c : Chains) (y : EndId) (p : ℕ) where
  -- the chain of the end with one party more
  abbrev pub longer : Chains
  longer = record {
    at = λ d k. if is_same_end d y && (k == suc (c.top y)) then p else c.at d k;
    top = λ d. if is_same_end d y then suc (c.top y) else c.top d;
  }

  pub not_new : (d : EndId) (k : ℕ) → k ≤ c.top d → (is_same_end d y && (k == suc (c.top y))) ≡ false
  not_new d k le = by (is_same_end d y) refl
    where
      by : (b : Bool) → is_same_end d y ≡ b → (is_same_end d y && (k == suc (c.top y))) ≡ false
      by true t =
          let same : c.top d ≡ c.top y = ap c.top (same_is d y t) in
          other_hop d y k (suc (c.top y)) (λ i. omega (arith, le, i, same))
      by false t = other_name d y k (suc (c.top y)) t

  pub at_old : (d : EndId) (k : ℕ) → k ≤ c.top d → longer.at d k ≡ c.at d k
  at_old d k le = ap (λ (b : Bool). if b then p else c.at d k) (not_new d k le)

  pub at_new : longer.at y (suc (c.top y)) ≡ p
  at_new = ap (λ (b : Bool). if b then p else c.at y (suc (c.top y))) (road_self (inward y (suc (c.top y))))

  pub top_old : (d : EndId) → is_same_end d y ≡ false → longer.top d ≡ c.top d
  top_old d t = ap (λ (b : Bool). if b then suc (c.top y) else c.top d) t

  pub top_new : longer.top y ≡ suc (c.top y)
  top_new = ap (λ (b : Bool). if b then suc (c.top y) else c.top y) (same_end y)

  pub top_more : (d : EndId) → c.top d ≤ longer.top d
  top_more d = by (is_same_end d y) refl
    where
      by : (b : Bool) → is_same_end d y ≡ b → c.top d ≤ (if b then suc (c.top y) else c.top d)
      by true t = let same : c.top d ≡ c.top y = ap c.top (same_is d y t) in omega (arith, same)
      by false t = omega arith

  pub behind_old : (d : EndId) (k : ℕ) → k ≤ c.top d → behind_of longer d k ≡ behind_of c d k
  behind_old d zero le = at_old (other_end d) 0 (omega arith)
  behind_old d (suc j) le = at_old d j (omega (arith, le))

  pub start_old : (r : Road) → IsThere c r → start_of longer r ≡ start_of c r
  start_old (inward d k) there = behind_old d k there.1
  start_old (outward d k) there = at_old d (suc k) there.1
  start_old (claiming d k) there = at_old d (suc k) there.1

  pub goal_old : (r : Road) → IsThere c r → goal_of longer r ≡ goal_of c r
  goal_old (inward d k) there = at_old d k there.1
  goal_old (outward d k) there = at_old d k (omega (arith, there.1))
  goal_old (claiming d k) there = at_old d k (omega (arith, there.1))

  pub there_old : (r : Road) → IsThere c r → IsThere longer r
  there_old (inward d k) there = let more = top_more d in (there.0, omega (arith, there.1, more))
  there_old (outward d k) there = let more = top_more d in (there.0, omega (arith, there.1, more))
  there_old (claiming d k) there = let more = top_more d in (there.0, omega (arith, there.1, more))

  on_old : (from to : ℕ) (f : FrameAt) → IsOnRoad c from to f → IsOnRoad longer from to f
  on_old from to f on = record {
    there = there_old (road_of f) on.there;
    start = start_old (road_of f) on.there ∙ on.start;
    goal = goal_old (road_of f) on.there ∙ on.goal;
  }

  pub lanes_old : (lanes : Lanes) → ((from to : ℕ) → AllByRecursion (IsOnRoad c from to) (lanes from to)) → (from to : ℕ)
      → AllByRecursion (IsOnRoad longer from to) (lanes from to)
  lanes_old lanes all from to = all_map (IsOnRoad c from to) (IsOnRoad longer from to) (on_old from to) (lanes from to) (all from to)

  pub traffic_old : (lanes : Lanes) (r : Road) → IsThere c r → traffic lanes longer r ≡ traffic lanes c r
  traffic_old lanes r there =
      ap (λ (s : ℕ). on_road r (lanes s (goal_of longer r))) (start_old r there)
      ∙ ap (λ (g : ℕ). on_road r (lanes (start_of c r) g)) (goal_old r there)

  pub traffic_none : (lanes : Lanes) → ((from to : ℕ) → AllByRecursion (IsOnRoad c from to) (lanes from to)) → (r : Road) → (IsThere c r → ⊥)
      → traffic lanes longer r ≡ []
  traffic_none lanes all r not =
      none_there c (start_of longer r) (goal_of longer r) (lanes (start_of longer r) (goal_of longer r)) r
      (all (start_of longer r) (goal_of longer r)) not

  -- a hop below the last one that isn't the one before it
  pub below_old : (d : EndId) (k : ℕ) → (is_same_end d y && (k == c.top y)) ≡ false → k < longer.top d → k < c.top d
  below_old d k apart lt = by (is_same_end d y) refl
    where
      by : (b : Bool) → is_same_end d y ≡ b → k < c.top d
      by true t =
          let hop : (k == c.top y) ≡ false = ap (λ (b : Bool). b && (k == c.top y)) (sym t) ∙ apart in
          let not : k ≡ c.top y → ⊥ = eqb-false k (c.top y) hop in
          let same : c.top d ≡ c.top y = ap c.top (same_is d y t) in
          let less : k < suc (c.top y) = subst (λ (b : Bool). k < (if b then suc (c.top y) else c.top d)) t lt in
          omega (arith, not, same, less)
      by false t = subst (λ (b : Bool). k < (if b then suc (c.top y) else c.top d)) t lt

  -- a hop up to the last one that isn't the new one
  pub within : (d : EndId) (k : ℕ) → (is_same_end d y && (k == suc (c.top y))) ≡ false → k ≤ longer.top d → k ≤ c.top d
  within d k apart le = by (is_same_end d y) refl
    where
      by : (b : Bool) → is_same_end d y ≡ b → k ≤ c.top d
      by true t =
          let hop : (k == suc (c.top y)) ≡ false = ap (λ (b : Bool). b && (k == suc (c.top y))) (sym t) ∙ apart in
          let not : k ≡ suc (c.top y) → ⊥ = eqb-false k (suc (c.top y)) hop in
          let same : c.top d ≡ c.top y = ap c.top (same_is d y t) in
          let less : k ≤ suc (c.top y) = subst (λ (b : Bool). k ≤ (if b then suc (c.top y) else c.top d)) t le in
          omega (arith, not, same, less)
      by false t = subst (λ (b : Bool). k ≤ (if b then suc (c.top y) else c.top d)) t le
