-- What a pop and a push change of the frames that pass a test.
use Rattle.std.proofs.Common.{◌≡◌, ℕ, List, [], ◌∷◌, ◌++◌, refl, sym, ap, append-nil}
use Rattle.std.specs.Prelude.{Bool, true, false, ◌&&◌, ◌==◌, if◌then◌else◌, map}
use Rattle.std.specs.List.{filter}
use Rattle.std.proofs.lemmas.Bool.{eqb-true}
use Rattle.std.proofs.lemmas.List.{map-append}
use Rattle.std.proofs.lemmas.List.Elements.{filter-append}
use Rattle.sj_rules.specs.Record.{BodyAt, Mail}
use Rattle.sj_rules.specs.Frames.{FrameAt, frames_for}
use Rattle.sj_rules.specs.World.{with_lane, lanes_with}
use Rattle.sj_rules.specs.Shown.{bodies}

pub both_true : (a b : Bool) → (a && b) ≡ true → (a ≡ true) × (b ≡ true)
both_true true true e = (refl, refl)
both_true true false e = absurd (cc e)
both_true false b e = absurd (cc e)

module _ {P : Type 0} (test : BodyAt P → Bool) (q p : ℕ) (f : FrameAt P) (rest : List (FrameAt P)) (lanes : ℕ → ℕ → List (FrameAt P)) (front : lanes q p ≡ f ∷ rest) where
  -- in the lane of the pop
  pub at_pop : (from to : ℕ) → ((from == q) && (to == p)) ≡ true → lanes from to ≡ f ∷ rest
  at_pop from to e =
      let b : ((from == q) ≡ true) × ((to == p) ≡ true) = both_true (from == q) (to == p) e in
      let c : from ≡ q = eqb-true from q b.0 in
      let d : to ≡ p = eqb-true to p b.1 in
      rw (c, d) front

  -- a frame that doesn't pass the test goes unseen
  pub pop_unseen : test f.body ≡ false → (from to : ℕ) →
      filter test (bodies (with_lane q p rest lanes from to)) ≡ filter test (bodies (lanes from to))
  pop_unseen unseen from to = by ((from == q) && (to == p)) refl
    where
      by : (b : Bool) → ((from == q) && (to == p)) ≡ b → filter test (bodies (if b then rest else lanes from to)) ≡ filter test (bodies (lanes from to))
      by true e = rw (at_pop from to e, unseen)
      by false e = refl

-- the bodies that are sent to that party
abbrev pub sent_to : {P : Type 0} → ℕ → List (Mail P) → List (BodyAt P)
sent_to to posts = map (λ m. m.body) (filter (λ m. to == m.party) posts)

bodies_of_frames : {P : Type 0} → (clock : ℕ) (mails : List (Mail P)) →
    bodies (map (λ m. record { clock = clock; body = m.body }) mails) ≡ map (λ m. m.body) mails
bodies_of_frames clock [] = refl
bodies_of_frames clock (m ∷ ms) = ap (λ l. m.body ∷ l) (bodies_of_frames clock ms)

-- what is posted is seen after what was there
pub post_seen : {P : Type 0} → (test : BodyAt P → Bool) (p clock : ℕ) (posts : List (Mail P)) (lanes : ℕ → ℕ → List (FrameAt P)) (from to : ℕ) →
    filter test (bodies (lanes_with p clock posts lanes from to))
    ≡ filter test (bodies (lanes from to)) ++ (if from == p then filter test (sent_to to posts) else [])
post_seen {P} test p clock posts lanes from to = by (from == p)
  where
    by : (b : Bool) → filter test (bodies (if b then lanes from to ++ frames_for to clock posts else lanes from to))
        ≡ filter test (bodies (lanes from to)) ++ (if b then filter test (sent_to to posts) else [])
    by true = rw (map-append, bodies_of_frames clock (filter (λ m. to == m.party) posts), filter-append)
    by false = sym (append-nil (filter test (bodies (lanes from to))))
