-- A session more: two chains of one party each, with the roads between them; all other chains and
-- roads are as before.
use Rattle.std.proofs.Common.{◌≡◌, ℕ, zero, suc, ◌-◌, ◌<◌, ◌≤◌, List, [], ◌∷◌, refl, sym, subst, ap, ◌∙◌, arith}
use Rattle.std.specs.Prelude.{Bool, true, false, ◌&&◌, ◌==◌, if◌then◌else◌}
use Rattle.std.specs.List.{AllByRecursion}
use Rattle.std.proofs.lemmas.Bool.{eqb-true, eq-eqb, ne_eqb}
use Rattle.sj_base.specs.declared.EndId.{EndId}
use Rattle.sj_rules.specs.Record.{is_same_end, other_end, requested_end, offered_end}
use Rattle.sj_forward_rules.specs.Record.{FrameAt}
use Rattle.sj_forward_rules.specs.World.{Lanes}
use Rattle.sj_forward_laws.specs.Pipe.{traffic}
use Rattle.sj_forward_laws.specs.Roads.{Chains, Road, inward, outward, claiming, road_of, is_road, behind_of, start_of, goal_of, on_road}
use Rattle.sj_forward_laws.specs.Roads.{IsThere, IsOnRoad}
use Rattle.sj_forward_laws.proofs.AbsentLemmas.{road_end}
use Rattle.sj_forward_laws.proofs.RoadLemmas.{road_self}

either_same : {X : Type 0} (x : X) (b : Bool) → (if b then x else x) ≡ x
either_same x true = refl
either_same x false = refl

module _ (sess : ℕ) where
  abbrev pub near : EndId
  near = requested_end sess

  abbrev pub far : EndId
  far = offered_end sess

  -- the first for the requester's end of the session, the second for the other one, else the third
  abbrev pub choose : {X : Type 0} → EndId → X → X → X → X
  choose d x y z = if d.sess == sess then (if d.side == 0 then x else y) else z

  pub choose_near : {X : Type 0} (x y z : X) → choose near x y z ≡ x
  choose_near x y z =
      ap (λ (b : Bool). if b then (if 0 == 0 then x else y) else z) (eq-eqb sess sess refl) ∙ ap (λ (b : Bool). if b then x else y) (eq-eqb 0 0 refl)

  pub choose_far : {X : Type 0} (x y z : X) → choose far x y z ≡ y
  choose_far x y z =
      ap (λ (b : Bool). if b then (if 1 == 0 then x else y) else z) (eq-eqb sess sess refl)
      ∙ ap (λ (b : Bool). if b then x else y) (ne_eqb 1 0 (λ i. omega (arith, i)))

  pub choose_else : {X : Type 0} (d : EndId) (x y z : X) → (d.sess == sess) ≡ false → choose d x y z ≡ z
  choose_else d x y z not = ap (λ (b : Bool). if b then (if d.side == 0 then x else y) else z) not

  -- both are so
  pub choose_both : {X : Type 0} (A : X → Type 0) (d : EndId) (x y z : X) → A x → A y → A z → A (choose d x y z)
  choose_both A d x y z a b k = by (d.sess == sess) (d.side == 0)
    where
      by : (s t : Bool) → A (if s then (if t then x else y) else z)
      by true true = a
      by true false = b
      by false t = k

  -- the ends of the session, and those of others
  pub by_ends : (F : EndId → Type 0) → F near → F far → ((d : EndId) → (d.sess == sess) ≡ false → F d) → (d : EndId) → d.side < 2 → F d
  by_ends F at_near at_far away d low = by (d.sess == sess) refl
    where
      named : (n : ℕ) → d.sess ≡ sess → d.side ≡ n → n < 2 → F d
      named zero s i lt = let it : near ≡ d = rw (s, i) refl in subst F it at_near
      named (suc zero) s i lt = let it : far ≡ d = rw (s, i) refl in subst F it at_far
      named (suc (suc n)) s i lt = absurd (omega (arith, lt))

      by : (b : Bool) → (d.sess == sess) ≡ b → F d
      by true t = named d.side (eqb-true d.sess sess t) refl low
      by false t = away d t

  -- the ends of another session are others
  pub else_apart : (d e : EndId) → e.sess ≡ sess → (d.sess == sess) ≡ false → is_same_end d e ≡ false
  else_apart d e is not = ap (λ (b : Bool). b && (d.side == e.side)) (ap (λ (n : ℕ). d.sess == n) is ∙ not)

  -- the two ends of the session too
  pub far_apart : (s : ℕ) → is_same_end (offered_end s) near ≡ false
  far_apart s = ap (λ (b : Bool). (s == sess) && b) (ne_eqb 1 0 (λ i. omega (arith, i))) ∙ last (s == sess)
    where
      last : (b : Bool) → (b && false) ≡ false
      last true = refl
      last false = refl

  pub other_near : other_end near ≡ far
  other_near = let k : 1 - 0 ≡ 1 = omega arith in ap (λ (n : ℕ). record { sess = sess; side = n }) k

  pub other_far : other_end far ≡ near
  other_far = let k : 1 - 1 ≡ 0 = omega arith in ap (λ (n : ℕ). record { sess = sess; side = n }) k

  module _ (c : Chains) (p to : ℕ) where
    -- the chains with those of the session
    abbrev pub opened : Chains
    opened = record { at = λ d k. choose d p to (c.at d k); top = λ d. choose d 0 0 (c.top d) }

    pub at_else : (d : EndId) (k : ℕ) → (d.sess == sess) ≡ false → opened.at d k ≡ c.at d k
    at_else d k not = choose_else d p to (c.at d k) not

    pub top_else : (d : EndId) → (d.sess == sess) ≡ false → opened.top d ≡ c.top d
    top_else d not = choose_else d 0 0 (c.top d) not

    pub top_new : (d : EndId) → (d.sess == sess) ≡ true → opened.top d ≡ 0
    top_new d is = ap (λ (b : Bool). if b then (if d.side == 0 then 0 else 0) else c.top d) is ∙ either_same 0 (d.side == 0)

    pub behind_else : (d : EndId) (k : ℕ) → (d.sess == sess) ≡ false → behind_of opened d k ≡ behind_of c d k
    behind_else d zero not = at_else (other_end d) 0 not
    behind_else d (suc k) not = at_else d k not

    pub behind_near : behind_of opened near 0 ≡ to
    behind_near = ap (λ d. opened.at d 0) other_near ∙ choose_far p to (c.at far 0)

    pub behind_far : behind_of opened far 0 ≡ p
    behind_far = ap (λ d. opened.at d 0) other_far ∙ choose_near p to (c.at near 0)

    start_else : (r : Road) → ((road_end r).sess == sess) ≡ false → start_of opened r ≡ start_of c r
    start_else (inward d k) not = behind_else d k not
    start_else (outward d k) not = at_else d (suc k) not
    start_else (claiming d k) not = at_else d (suc k) not

    goal_else : (r : Road) → ((road_end r).sess == sess) ≡ false → goal_of opened r ≡ goal_of c r
    goal_else (inward d k) not = at_else d k not
    goal_else (outward d k) not = at_else d k not
    goal_else (claiming d k) not = at_else d k not

    there_else : (r : Road) → ((road_end r).sess == sess) ≡ false → IsThere c r → IsThere opened r
    there_else (inward d k) not there = (there.0, subst (λ (n : ℕ). k ≤ n) (sym (top_else d not)) there.1)
    there_else (outward d k) not there = (there.0, subst (λ (n : ℕ). k < n) (sym (top_else d not)) there.1)
    there_else (claiming d k) not there = (there.0, subst (λ (n : ℕ). k < n) (sym (top_else d not)) there.1)

    pub traffic_else : (lanes : Lanes) (r : Road) → ((road_end r).sess == sess) ≡ false → traffic lanes opened r ≡ traffic lanes c r
    traffic_else lanes r not =
        ap (λ (s : ℕ). on_road r (lanes s (goal_of opened r))) (start_else r not)
        ∙ ap (λ (g : ℕ). on_road r (lanes (start_of c r) g)) (goal_else r not)

    road_low : (r : Road) → IsThere c r → (road_end r).side < 2
    road_low (inward d k) there = there.0
    road_low (outward d k) there = there.0
    road_low (claiming d k) there = there.0

    -- frames are on their roads where none is about the session
    pub lanes_else : (x y : ℕ) (fs : List FrameAt) → AllByRecursion (IsOnRoad c x y) fs
        → ((r : Road) → (road_end r).sess ≡ sess → (road_end r).side < 2 → on_road r fs ≡ [])
        → AllByRecursion (IsOnRoad opened x y) fs
    lanes_else x y [] all none = tt
    lanes_else x y (f ∷ fs) all none =
        (first ((road_end (road_of f)).sess == sess) refl, lanes_else x y fs all.1 (λ r is low. rest r (none r is low)))
      where
        first : (b : Bool) → ((road_end (road_of f)).sess == sess) ≡ b → IsOnRoad opened x y f
        first true t =
            let empty : on_road (road_of f) (f ∷ fs) ≡ [] =
            none (road_of f) (eqb-true (road_end (road_of f)).sess sess t) (road_low (road_of f) all.0.there) in
            let some : on_road (road_of f) (f ∷ fs) ≡ f ∷ on_road (road_of f) fs =
            ap (λ (b : Bool). if b then f ∷ on_road (road_of f) fs else on_road (road_of f) fs) (road_self (road_of f)) in
            absurd (cc (empty, some))
        first false t = record {
          there = there_else (road_of f) t all.0.there;
          start = start_else (road_of f) t ∙ all.0.start;
          goal = goal_else (road_of f) t ∙ all.0.goal;
        }

        rest : (r : Road) → on_road r (f ∷ fs) ≡ [] → on_road r fs ≡ []
        rest r = by (is_road r (road_of f))
          where
            by : (b : Bool) → (if b then f ∷ on_road r fs else on_road r fs) ≡ [] → on_road r fs ≡ []
            by true e = absurd (cc e)
            by false e = e

    -- roads of other sessions are others
    pub road_apart : (r : Road) → ((road_end r).sess == sess) ≡ false → is_road r (inward far 0) ≡ false
    road_apart (inward d k) not = ap (λ (b : Bool). b && (k == 0)) (else_apart d far refl not)
    road_apart (outward d k) not = refl
    road_apart (claiming d k) not = refl
