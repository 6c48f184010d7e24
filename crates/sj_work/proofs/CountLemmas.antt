-- Counts that rose or stood, one call after the other.
use Rattle.std.proofs.Common.{zero, suc, ◌≡◌, ℕ, ◌+◌, ◌≤◌, min, List, [], ◌∷◌, length, Option, Some, None, Result, Ok, Err, refl, sym, arith, subst}
use Rattle.std.specs.Prelude.{slice_get}
use Rattle.std.proofs.Math.ListN.{set}
use Rattle.sj_end.specs.declared.frames.Frame.{Frame}
use Rattle.sj_lane.specs.declared.lane.PushRefusal.{PushRefusal}
use Rattle.sj_lane.specs.declared.lane.PushRefusal.TheVariants as pushes
use Rattle.sj_lane.specs.declared.lane.PopRefusal.{PopRefusal}
use Rattle.sj_lane.specs.Told.{Rose, raised, vain_pop, vain_push}
use Rattle.sj_work.specs.Counts.{OnLane, RoseBy, SomeRose, Stands, Stood, last_count}
use Rattle.sj_work.proofs.LaneLemmas.{some_is, none_is}

-- of any last value
rose_more_to : (l x y z j k : ℕ) → min (x + j) l ≤ y → min (y + k) l ≤ z → min (x + (j + k)) l ≤ z
rose_more_to l x y z j k p q = omega arith

rose_then_to : (l x y z k : ℕ) → min (x + k) l ≤ y → min y l ≤ z → min (x + k) l ≤ z
rose_then_to l x y z k p q = omega arith

then_rose_to : (l x y z k : ℕ) → min x l ≤ y → min (y + k) l ≤ z → min (x + k) l ≤ z
then_rose_to l x y z k p q = omega arith

stood_more_to : (l x y z : ℕ) → min x l ≤ y → min y l ≤ z → min x l ≤ z
stood_more_to l x y z p q = omega arith

stood_raised_to : (l n : ℕ) → min n l ≤ min (n + 1) l
stood_raised_to l n = omega arith

stood_itself_to : (l n : ℕ) → min n l ≤ n
stood_itself_to l n = omega arith

rose_none_to : (l x y : ℕ) → min x l ≤ y → min (x + 0) l ≤ y
rose_none_to l x y h = omega arith

-- by so many, and by so many more
pub rose_more : (j k x y z : ℕ) → RoseBy j x y → RoseBy k y z → RoseBy (j + k) x z
rose_more j k x y z = rose_more_to last_count x y z j k

pub rose_then : (k x y z : ℕ) → RoseBy k x y → Stood y z → RoseBy k x z
rose_then k x y z = rose_then_to last_count x y z k

pub then_rose : (k x y z : ℕ) → Stood x y → RoseBy k y z → RoseBy k x z
then_rose k x y z = then_rose_to last_count x y z k

pub stood_more : (x y z : ℕ) → Stood x y → Stood y z → Stood x z
stood_more = stood_more_to last_count

pub stood_itself : (n : ℕ) → Stood n n
stood_itself = stood_itself_to last_count

pub stands_itself : (n : ℕ) → Stands n n
stands_itself n = omega arith

pub stands_more : (x y z : ℕ) → Stands x y → Stands y z → Stands x z
stands_more x y z p q = omega arith

-- a count that stood is one that rose by nothing
pub rose_none : (x y : ℕ) → Stood x y → RoseBy 0 x y
rose_none x y h = rose_none_to last_count x y h

rose_fewer_to : (l x y j k : ℕ) → j ≤ k → min (x + k) l ≤ y → min (x + j) l ≤ y
rose_fewer_to l x y j k few h = omega arith

-- and one that rose so often rose fewer times
pub rose_fewer : (j k x y : ℕ) → j ≤ k → RoseBy k x y → RoseBy j x y
rose_fewer j k x y few = rose_fewer_to last_count x y j k few

rose_raised_to : (l x y : ℕ) → y ≡ min (x + 1) l → min (x + 1) l ≤ y
rose_raised_to l x y h = omega arith

-- one call in vain
pub rose_raised : (x y : ℕ) → y ≡ raised x → RoseBy 1 x y
rose_raised = rose_raised_to last_count

-- the calls in vain after a push, and after a pop
pub push_stood : (n : ℕ) (r : Result (Unit {0}) (Frame × PushRefusal)) → Stood n (vain_push n r)
push_stood n (Ok u) = stood_itself n
push_stood n (Err (f, pushes.Full)) = stood_raised_to last_count n
push_stood n (Err (f, pushes.Fault)) = stood_itself n
push_stood n (Err (f, pushes.NoMemory)) = stood_itself n

pub pop_stood : (n : ℕ) (r : Result (Option Frame) PopRefusal) → Stood n (vain_pop n r)
pop_stood n (Ok None) = stood_raised_to last_count n
pop_stood n (Ok (Some f)) = stood_itself n
pop_stood n (Err e) = stood_itself n

module _ {L : Type 0} (count : L → ℕ) where
  -- a lane that is left alone
  pub on_itself : (R : ℕ → ℕ → Type 0) → ((n : ℕ) → R n n) → (o : Option L) → OnLane count R o o
  on_itself R itself None = tt
  on_itself R itself (Some x) = itself (count x)

  -- one call after the other
  pub on_later : (R S T : ℕ → ℕ → Type 0) → ((x y z : ℕ) → R x y → S y z → T x z) → (a b c : Option L) → OnLane count R a b → OnLane count S b c → OnLane count T a c
  on_later R S T later None None None p q = tt
  on_later R S T later None None (Some z) p q = absurd q
  on_later R S T later None (Some y) c p q = absurd p
  on_later R S T later (Some x) None c p q = absurd p
  on_later R S T later (Some x) (Some y) None p q = absurd q
  on_later R S T later (Some x) (Some y) (Some z) p q = later (count x) (count y) (count z) p q

  pub on_so : (R T : ℕ → ℕ → Type 0) → ((x y : ℕ) → R x y → T x y) → (a b : Option L) → OnLane count R a b → OnLane count T a b
  on_so R T so None None p = tt
  on_so R T so None (Some y) p = absurd p
  on_so R T so (Some x) None p = absurd p
  on_so R T so (Some x) (Some y) p = so (count x) (count y) p

  -- one of all lanes is another now
  pub on_put : (R : ℕ → ℕ → Type 0) → ((n : ℕ) → R n n) → (xs : List L) (k q : ℕ) (i j : L) → slice_get xs k ≡ Some i → R (count i) (count j) → OnLane count R (slice_get xs q) (slice_get (set xs k j) q)
  on_put R itself [] k q i j at r = absurd (none_is i at)
  on_put R itself (x ∷ xs) zero zero i j at r = subst (λ (y : L). R (count y) (count j)) (sym (some_is x i at)) r
  on_put R itself (x ∷ xs) zero (suc q) i j at r = on_itself R itself (slice_get xs q)
  on_put R itself (x ∷ xs) (suc k) zero i j at r = itself (count x)
  on_put R itself (x ∷ xs) (suc k) (suc q) i j at r = on_put R itself xs k q i j at r

  -- that one itself
  pub on_at : (R : ℕ → ℕ → Type 0) (xs : List L) (k : ℕ) (i j : L) → slice_get xs k ≡ Some i → R (count i) (count j) → OnLane count R (slice_get xs k) (slice_get (set xs k j) k)
  on_at R [] k i j at r = absurd (none_is i at)
  on_at R (x ∷ xs) zero i j at r = subst (λ (y : L). R (count y) (count j)) (sym (some_is x i at)) r
  on_at R (x ∷ xs) (suc k) i j at r = on_at R xs k i j at r

  -- no lane is no lane later
  pub on_none : (R : ℕ → ℕ → Type 0) (xs : List L) (k : ℕ) → length xs ≤ k → OnLane count R (slice_get xs k) (slice_get xs k)
  on_none R [] k h = tt
  on_none R (x ∷ xs) zero h = absurd (omega arith)
  on_none R (x ∷ xs) (suc k) h = on_none R xs k (omega arith)

  -- where its count rose, some count did
  pub some_rose : (xs : List L) (k : ℕ) (i j : L) → slice_get xs k ≡ Some i → Rose (count i) (count j) → SomeRose count (slice_get xs) (slice_get (set xs k j))
  some_rose xs k i j at r = (k, i, j, at, put xs k at, r)
    where
      put : (xs : List L) (k : ℕ) → slice_get xs k ≡ Some i → slice_get (set xs k j) k ≡ Some j
      put [] k at = absurd (none_is i at)
      put (x ∷ xs) zero at = refl
      put (x ∷ xs) (suc k) at = put xs k at

  rose_to : (a b : Option L) (y z : L) → b ≡ Some y → OnLane count Stands a b → Rose (count y) (count z) → (x : L) × (a ≡ Some x) × Rose (count x) (count z)
  rose_to None None y z is p r = absurd (none_is y is)
  rose_to None (Some y') y z is p r = absurd p
  rose_to (Some x) None y z is p r = absurd p
  rose_to (Some x) (Some y') y z is p r = (x, refl, more (count x) (count y) (count z) (subst (λ (l : L). Stands (count x) (count l)) (some_is y' y is) p) r)
    where
      more_to : (l m n k : ℕ) → m ≤ n → min (n + 1) l ≤ k → min (m + 1) l ≤ k
      more_to l m n k p q = omega arith

      more : (m n k : ℕ) → Stands m n → Rose n k → Rose m k
      more m n k = more_to last_count m n k

  -- what rose later rose
  pub then_some_rose : (a b c : ℕ → Option L) → ((q : ℕ) → OnLane count Stands (a q) (b q)) → SomeRose count b c → SomeRose count a c
  then_some_rose a b c stand s =
      let r = rose_to (a s.0) (b s.0) s.1 s.2 s.3 (stand s.0) s.5 in
      (s.0, r.0, s.2, r.1, s.4, r.2)
