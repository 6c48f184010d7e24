-- Frames of a road, as a frame comes and as frames are sent.
use Rattle.std.proofs.Common.{◌≡◌, ℕ, List, [], ◌∷◌, ◌++◌, refl, sym, subst, ap, ◌∙◌, append-nil}
use Rattle.std.specs.Prelude.{Bool, true, false, ◌&&◌, ◌==◌, if◌then◌else◌, map}
use Rattle.std.specs.List.{AllByRecursion, filter}
use Rattle.std.proofs.lemmas.Bool.{eqb-true, eq-eqb}
use Rattle.std.proofs.lemmas.List.Elements.{filter-append}
use Rattle.sj_rules.specs.Record.{is_same_end}
use Rattle.sj_forward_rules.specs.Record.{FrameAt, Mail}
use Rattle.sj_forward_rules.specs.World.{Lanes, frames_for, lanes_with, with_lane}
use Rattle.sj_forward_laws.specs.Roads.{Chains, Road, inward, outward, claiming, road_of, is_road, start_of, goal_of, IsThere, IsOnRoad, on_road}
use Rattle.sj_forward_laws.specs.Pipe.{traffic}
use Rattle.sj_forward_laws.proofs.EndLemmas.{both_true, same_end, same_is}

-- a road is itself
pub road_self : (r : Road) → is_road r r ≡ true
road_self (inward e h) = ap (λ b. b && (h == h)) (same_end e) ∙ eq-eqb h h refl
road_self (outward e h) = ap (λ b. b && (h == h)) (same_end e) ∙ eq-eqb h h refl
road_self (claiming e h) = ap (λ b. b && (h == h)) (same_end e) ∙ eq-eqb h h refl

-- roads of which the test holds are one
pub road_is : (r s : Road) → is_road r s ≡ true → r ≡ s
road_is (inward e h) (inward d k) t =
    let b = both_true (is_same_end e d) (h == k) t in
    ap (λ x. inward x h) (same_is e d b.0) ∙ ap (λ (x : ℕ). inward d x) (eqb-true h k b.1)
road_is (outward e h) (outward d k) t =
    let b = both_true (is_same_end e d) (h == k) t in
    ap (λ x. outward x h) (same_is e d b.0) ∙ ap (λ (x : ℕ). outward d x) (eqb-true h k b.1)
road_is (claiming e h) (claiming d k) t =
    let b = both_true (is_same_end e d) (h == k) t in
    ap (λ x. claiming x h) (same_is e d b.0) ∙ ap (λ (x : ℕ). claiming d x) (eqb-true h k b.1)
road_is (inward e h) (outward d k) t = absurd (cc t)
road_is (inward e h) (claiming d k) t = absurd (cc t)
road_is (outward e h) (inward d k) t = absurd (cc t)
road_is (outward e h) (claiming d k) t = absurd (cc t)
road_is (claiming e h) (inward d k) t = absurd (cc t)
road_is (claiming e h) (outward d k) t = absurd (cc t)

-- a frame of the road, and one of another
pub on_seen : (r : Road) (f : FrameAt) (fs : List FrameAt) → road_of f ≡ r → on_road r (f ∷ fs) ≡ f ∷ on_road r fs
on_seen r f fs is =
    let t : is_road r (road_of f) ≡ true = ap (λ x. is_road r x) is ∙ road_self r in
    ap (λ (b : Bool). if b then f ∷ on_road r fs else on_road r fs) t

pub on_unseen : (r : Road) (f : FrameAt) (fs : List FrameAt) → is_road r (road_of f) ≡ false → on_road r (f ∷ fs) ≡ on_road r fs
on_unseen r f fs not = ap (λ (b : Bool). if b then f ∷ on_road r fs else on_road r fs) not

-- all of two lists
pub all_both : {X : Type 0} (A : X → Type 0) (xs ys : List X) → AllByRecursion A xs → AllByRecursion A ys → AllByRecursion A (xs ++ ys)
all_both A [] ys a b = b
all_both A (x ∷ xs) ys a b = (a.0, all_both A xs ys a.1 b)

-- ---- a frame comes

module _ (c : Chains) (lanes : Lanes) (q p : ℕ) (f : FrameAt) (rest : List FrameAt) (front : lanes q p ≡ f ∷ rest) where
  -- in the lane of the pop
  at_pop : (from to : ℕ) → ((from == q) && (to == p)) ≡ true → lanes from to ≡ f ∷ rest
  at_pop from to e =
      let b : ((from == q) ≡ true) × ((to == p) ≡ true) = both_true (from == q) (to == p) e in
      let i : from ≡ q = eqb-true from q b.0 in
      let j : to ≡ p = eqb-true to p b.1 in
      rw (i, j) front

  -- of another road
  pub pop_same : (r : Road) → is_road r (road_of f) ≡ false → traffic (with_lane q p rest lanes) c r ≡ traffic lanes c r
  pop_same r not = by ((start_of c r == q) && (goal_of c r == p)) refl
    where
      by : (b : Bool) → ((start_of c r == q) && (goal_of c r == p)) ≡ b
          → on_road r (if b then rest else lanes (start_of c r) (goal_of c r)) ≡ on_road r (lanes (start_of c r) (goal_of c r))
      by true e = sym (on_unseen r f rest not) ∙ ap (λ l. on_road r l) (sym (at_pop (start_of c r) (goal_of c r) e))
      by false e = refl

  -- of its road
  pub pop_here : IsOnRoad c q p f → traffic lanes c (road_of f) ≡ f ∷ traffic (with_lane q p rest lanes) c (road_of f)
  pop_here on =
      let b : ((start_of c (road_of f) == q) && (goal_of c (road_of f) == p)) ≡ true =
      ap (λ (x : Bool). x && (goal_of c (road_of f) == p)) (eq-eqb (start_of c (road_of f)) q on.start) ∙ eq-eqb (goal_of c (road_of f)) p on.goal in
      ap (λ l. on_road (road_of f) l) (at_pop (start_of c (road_of f)) (goal_of c (road_of f)) b)
      ∙ on_seen (road_of f) f rest refl
      ∙ ap (λ (x : Bool). f ∷ on_road (road_of f) (if x then rest else lanes (start_of c (road_of f)) (goal_of c (road_of f)))) (sym b)

  -- all other frames are on their roads
  pub pop_lanes : ((from to : ℕ) → AllByRecursion (IsOnRoad c from to) (lanes from to)) → (from to : ℕ)
      → AllByRecursion (IsOnRoad c from to) (with_lane q p rest lanes from to)
  pop_lanes all from to = by ((from == q) && (to == p)) refl
    where
      by : (b : Bool) → ((from == q) && (to == p)) ≡ b → AllByRecursion (IsOnRoad c from to) (if b then rest else lanes from to)
      by true e =
          let whole : AllByRecursion (IsOnRoad c from to) (f ∷ rest) =
          subst (λ l. AllByRecursion (IsOnRoad c from to) l) (at_pop from to e) (all from to) in
          whole.1
      by false e = all from to

-- ---- frames are sent

-- a frame of that road, to where it leads
pub record IsPost (c : Chains) (r : Road) (m : Mail) : Type 0 where
  pub road : road_of m.frame ≡ r
  pub party : m.party ≡ goal_of c r

module _ (c : Chains) (lanes : Lanes) (p : ℕ) (r : Road) (start : start_of c r ≡ p) where
  none_sent : (s : Road) → is_road s r ≡ false → (to : ℕ) (posts : List Mail) → AllByRecursion (IsPost c r) posts
      → on_road s (frames_for to posts) ≡ []
  none_sent s not to [] all = refl
  none_sent s not to (m ∷ ms) all = by (to == m.party) (none_sent s not to ms all.1)
    where
      by : (b : Bool) → on_road s (frames_for to ms) ≡ []
          → on_road s (map (λ m. m.frame) (if b then m ∷ filter (λ m. to == m.party) ms else filter (λ m. to == m.party) ms)) ≡ []
      by true none = on_unseen s m.frame (frames_for to ms) (ap (λ x. is_road s x) all.0.road ∙ not) ∙ none
      by false none = none

  all_sent : (posts : List Mail) → AllByRecursion (IsPost c r) posts → on_road r (frames_for (goal_of c r) posts) ≡ map (λ m. m.frame) posts
  all_sent [] all = refl
  all_sent (m ∷ ms) all =
      let b : (goal_of c r == m.party) ≡ true = eq-eqb (goal_of c r) m.party (sym all.0.party) in
      ap (λ (x : Bool). on_road r (map (λ m. m.frame)
      (if x then m ∷ filter (λ m. goal_of c r == m.party) ms else filter (λ m. goal_of c r == m.party) ms))) b
      ∙ on_seen r m.frame (frames_for (goal_of c r) ms) all.0.road
      ∙ ap (λ l. m.frame ∷ l) (all_sent ms all.1)

  -- of another road
  pub push_same : (posts : List Mail) → AllByRecursion (IsPost c r) posts → (s : Road) → is_road s r ≡ false
      → traffic (lanes_with p posts lanes) c s ≡ traffic lanes c s
  push_same posts all s not = by (start_of c s == p)
    where
      by : (b : Bool) → on_road s (if b then lanes (start_of c s) (goal_of c s) ++ frames_for (goal_of c s) posts else lanes (start_of c s)
          (goal_of c s))
          ≡ on_road s (lanes (start_of c s) (goal_of c s))
      by true =
          filter-append (λ f. is_road s (road_of f)) (lanes (start_of c s) (goal_of c s)) (frames_for (goal_of c s) posts)
          ∙ ap (λ l. on_road s (lanes (start_of c s) (goal_of c s)) ++ l) (none_sent s not (goal_of c s) posts all)
          ∙ append-nil (on_road s (lanes (start_of c s) (goal_of c s)))
      by false = refl

  -- of their road
  pub push_here : (posts : List Mail) → AllByRecursion (IsPost c r) posts
      → traffic (lanes_with p posts lanes) c r ≡ traffic lanes c r ++ map (λ m. m.frame) posts
  push_here posts all =
      ap (λ (b : Bool). on_road r (if b then lanes (start_of c r) (goal_of c r) ++ frames_for (goal_of c r) posts else lanes (start_of c r)
      (goal_of c r))) (eq-eqb (start_of c r) p start)
      ∙ filter-append (λ f. is_road r (road_of f)) (lanes (start_of c r) (goal_of c r)) (frames_for (goal_of c r) posts)
      ∙ ap (λ l. on_road r (lanes (start_of c r) (goal_of c r)) ++ l) (all_sent posts all)

  -- they are on their road
  pub push_lanes : IsThere c r → (posts : List Mail) → AllByRecursion (IsPost c r) posts
      → ((from to : ℕ) → AllByRecursion (IsOnRoad c from to) (lanes from to))
      → (from to : ℕ) → AllByRecursion (IsOnRoad c from to) (lanes_with p posts lanes from to)
  push_lanes there posts all old from to = by (from == p) refl
    where
      sent : from ≡ p → (ms : List Mail) → AllByRecursion (IsPost c r) ms → AllByRecursion (IsOnRoad c from to) (frames_for to ms)
      sent e [] a = tt
      sent e (m ∷ ms) a = one (to == m.party) refl (sent e ms a.1)
        where
          one : (b : Bool) → (to == m.party) ≡ b → AllByRecursion (IsOnRoad c from to) (frames_for to ms)
              → AllByRecursion (IsOnRoad c from to) (map (λ m. m.frame)
              (if b then m ∷ filter (λ m. to == m.party) ms else filter (λ m. to == m.party) ms))
          one true t more = (
            record {
              there = subst (λ x. IsThere c x) (sym a.0.road) there;
              start = ap (λ x. start_of c x) a.0.road ∙ start ∙ sym e;
              goal = ap (λ x. goal_of c x) a.0.road ∙ sym a.0.party ∙ sym (eqb-true to m.party t);
            },
            more,
          )
          one false t more = more

      by : (b : Bool) → (from == p) ≡ b → AllByRecursion (IsOnRoad c from to) (if b then lanes from to ++ frames_for to posts else lanes from to)
      by true e = all_both (IsOnRoad c from to) (lanes from to) (frames_for to posts) (old from to) (sent (eqb-true from p e) posts all)
      by false e = old from to

-- ---- a road that isn't there is empty

pub none_there : (c : Chains) (from to : ℕ) (fs : List FrameAt) (r : Road) → AllByRecursion (IsOnRoad c from to) fs → (IsThere c r → ⊥)
    → on_road r fs ≡ []
none_there c from to [] r all not = refl
none_there c from to (f ∷ fs) r all not = by (is_road r (road_of f)) refl (none_there c from to fs r all.1 not)
  where
    by : (b : Bool) → is_road r (road_of f) ≡ b → on_road r fs ≡ [] → (if b then f ∷ on_road r fs else on_road r fs) ≡ []
    by true e none = absurd (not (subst (λ x. IsThere c x) (sym (road_is r (road_of f) e)) all.0.there))
    by false e none = none
