-- What stands is sound: each log is one of its party, over lanes that hold prefixes of what is posted.
use Rattle.std.proofs.Common.{◌≡◌, ℕ, ◌≤◌, List, [], ◌++◌, refl, sym, ap, ◌∙◌, arith, append-nil, append_assoc}
use Rattle.std.specs.Prelude.{Bool, true, false, ◌==◌, if◌then◌else◌}
use Rattle.std.proofs.lemmas.Bool.Decides.{nat_tests}
use Rattle.std.proofs.lemmas.Grind.{flat_map-append}
use mathlib.Core.List.{IsPrefix}
use Rattle.sj_rules.specs.Node.{Play, NodeAt}
use Rattle.sj_rules.specs.Frames.{frames_for}
use Rattle.sj_rules.specs.World.{WorldAt}
use Rattle.sj_rules.specs.NodeRun.{StepAt, NodeRun, popped_from, posted_to, told_frames}
use Rattle.sj_standing_laws.specs.Standing.{Standing, nothing, lane_in}

pub same_number : (p q : ℕ) → (p == q) ≡ true → p ≡ q
same_number p q e = grind (arith, nat_tests)

pub other_number : (p q : ℕ) → (p == q) ≡ false → p ≡ q → ⊥
other_number p q e same = grind (arith, nat_tests)

pub prefix_itself : {X : Type 0} → (xs : List X) → IsPrefix xs xs
prefix_itself xs = ([], append-nil xs)

-- equal lists are prefixes of each other
pub prefix_same : {X : Type 0} → {xs ys : List X} → xs ≡ ys → IsPrefix xs ys
prefix_same {xs = xs} e = ([], append-nil xs ∙ e)

pub prefix_more : {X : Type 0} → (xs ys zs : List X) → IsPrefix xs ys → IsPrefix ys zs → IsPrefix xs zs
prefix_more xs ys zs a b = (a.0 ++ b.0, sym (append_assoc xs a.0 b.0) ∙ ap (λ l. l ++ b.0) a.1 ∙ b.1)

-- more steps post more frames, after the same ones
pub posts_more : {P : Type 0} → (blank : P) (q : ℕ) (xs ys : List (StepAt P)) → IsPrefix xs ys → IsPrefix (posted_to blank q xs) (posted_to blank q ys)
posts_more {P} blank q xs ys a =
    (posted_to blank q a.0, sym (flat_map-append (λ (s : StepAt P). told_frames blank (frames_for q s.entry.clock s.posts)) xs a.0) ∙ ap (posted_to blank q) a.1)

-- lanes grow with logs and lanes
pub lane_more : {P : Type 0} → (blank : P) (old new : Standing P) (p q : ℕ) → IsPrefix (old.steps p) (new.steps p) → IsPrefix (old.lane p q) (new.lane p q) →
    IsPrefix (lane_in blank old p q) (lane_in blank new p q)
lane_more blank old new p q steps lane = by (p == q)
  where
    by : (b : Bool) → IsPrefix (if b then posted_to blank q (old.steps p) else old.lane p q) (if b then posted_to blank q (new.steps p) else new.lane p q)
    by true = posts_more blank q (old.steps p) (new.steps p) steps
    by false = lane

module _ {P Q : Type 0} (play : Play P Q) (pick : ℕ → ℕ → ℕ) (blank : P) (n : ℕ) (start : WorldAt P Q) where
  -- each log is one of its party, a lane holds a prefix of what is posted, and a log takes a prefix of each lane
  pub record Sound (s : Standing P) : Type 0 where
    pub last : ℕ → NodeAt P Q
    pub runs : (p : ℕ) → NodeRun play pick p (start.nodes p) (s.steps p) (last p)
    pub posted : (p q : ℕ) → IsPrefix (s.lane p q) (posted_to blank q (s.steps p))
    pub came : (p q : ℕ) → IsPrefix (popped_from blank q (s.steps p)) (lane_in blank s q p)
    pub apart : (p : ℕ) → n ≤ p → s.steps p ≡ []

  pub sound_nothing : Sound nothing
  sound_nothing = record { last = start.nodes; runs = λ p. refl; posted = λ p q. prefix_itself []; came = λ p q. by q p; apart = λ p h. refl }
    where
      by : (q p : ℕ) → IsPrefix [] (lane_in blank (nothing {P = P}) q p)
      by q p = (lane_in blank nothing q p, refl)
