-- What a world shows of an end after the front frame of a lane, which goes to that end, was taken.
use Rattle.std.proofs.Common.{◌≡◌, ℕ, List, [], ◌∷◌, ◌++◌, refl, sym, ap, ◌∙◌, append-nil, append_assoc}
use Rattle.std.specs.Prelude.{Bool, true, false, ◌&&◌, ◌==◌, if◌then◌else◌}
use Rattle.std.specs.List.{filter}
use Rattle.std.proofs.lemmas.Bool.{eqb-true, eq-eqb}
use Rattle.sj_rules.specs.Record.{BodyAt, Mail}
use Rattle.sj_rules.specs.Frames.{FrameAt}
use Rattle.sj_rules.specs.World.{WorldAt, with_lane, lanes_with}
use Rattle.sj_rules.specs.Seat.{Seat, Side, source_for, taker_of, coming_of}
use Rattle.sj_rules.specs.Shown.{bodies, goes_to, is_lane, old_in, live_in, Shows}
use Rattle.sj_world_lemmas.proofs.LaneLemmas.{at_pop, both_true, sent_to, post_seen}

-- the test of a lane and a number
abbrev pub is_key : (from to c q p n : ℕ) → Bool
is_key from to c q p n = is_lane from to q p && (c == n)

module _ {P Q : Type 0} (w : WorldAt P Q) (other : Seat P) (r : Side P) (f : FrameAt P) (rest : List (FrameAt P)) (left : List (BodyAt P))
    (shows : Shows w other r)
    (front : w.lanes (source_for other r.seat) (taker_of r.seat) ≡ f ∷ rest)
    (goes : goes_to r.id (coming_of r.seat) f.body ≡ true)
    (alone : (c : ℕ) → (c == coming_of r.seat) ≡ false → goes_to r.id c f.body ≡ false)
    (not_old : old_in r.seat r.old (source_for other r.seat) (taker_of r.seat) (coming_of r.seat) ≡ [])
    (live : r.live ≡ f.body ∷ left) where
  abbrev src : ℕ
  src = source_for other r.seat

  abbrev at : ℕ
  at = taker_of r.seat

  abbrev lanes_after : ℕ → ℕ → List (FrameAt P)
  lanes_after = with_lane src at rest w.lanes

  self_key : is_key src at (coming_of r.seat) src at (coming_of r.seat) ≡ true
  self_key = simp (eq-eqb src src refl, eq-eqb at at refl, eq-eqb (coming_of r.seat) (coming_of r.seat) refl)

  -- the lane had this frame, and then what is left
  head_and_left : f.body ∷ filter (goes_to r.id (coming_of r.seat)) (bodies rest) ≡ f.body ∷ left
  head_and_left =
      let e : filter (goes_to r.id (coming_of r.seat)) (bodies (f ∷ rest)) ≡ f.body ∷ left =
      ap (λ l. filter (goes_to r.id (coming_of r.seat)) (bodies l)) (sym front) ∙ shows.frames src at (coming_of r.seat) ∙ rw (not_old, self_key, live) in
      rw goes at e

  pub frames_left : (from to c : ℕ) → filter (goes_to r.id c) (bodies (lanes_after from to)) ≡
      old_in r.seat r.old from to c ++ live_in other (record r { live = left }) from to c
  frames_left from to c = by (is_lane from to src at) (c == coming_of r.seat) refl refl
    where
      shown : (b d : Bool) → is_lane from to src at ≡ b → (c == coming_of r.seat) ≡ d →
          filter (goes_to r.id c) (bodies (w.lanes from to)) ≡ old_in r.seat r.old from to c ++ (if b && d then r.live else [])
      shown b d e g = rw (← e, ← g) (shows.frames from to c)

      by : (b d : Bool) → is_lane from to src at ≡ b → (c == coming_of r.seat) ≡ d →
          filter (goes_to r.id c) (bodies (if b then rest else w.lanes from to)) ≡ old_in r.seat r.old from to c ++ (if b && d then left else [])
      by true true e g =
          let keys : ((from == src) ≡ true) × ((to == at) ≡ true) = both_true (from == src) (to == at) e in
          let c_is : c ≡ coming_of r.seat = eqb-true c (coming_of r.seat) g in
          let from_is : from ≡ src = eqb-true from src keys.0 in
          let to_is : to ≡ at = eqb-true to at keys.1 in
          rw (c_is, from_is, to_is, not_old) (cc head_and_left)
      by true false e g =
          let lane_is : w.lanes from to ≡ f ∷ rest = at_pop (goes_to r.id c) src at f rest w.lanes front from to e in
          let s : filter (goes_to r.id c) (bodies (f ∷ rest)) ≡ old_in r.seat r.old from to c ++ [] =
          ap (λ l. filter (goes_to r.id c) (bodies l)) (sym lane_is) ∙ shown true false e g in
          rw (alone c g) at s
      by false d e g = shown false d e g

-- what a world shows of an end after its source posted frames for it
module _ {P Q : Type 0} (w : WorldAt P Q) (other : Seat P) (r : Side P) (clock : ℕ) (posts : List (Mail P)) (more : List (BodyAt P))
    (shows : Shows w other r)
    (sent : (to c : ℕ) → filter (goes_to r.id c) (sent_to to posts) ≡ (if (to == taker_of r.seat) && (c == coming_of r.seat) then more else [])) where
  pub frames_more : (from to c : ℕ) → filter (goes_to r.id c) (bodies (lanes_with (source_for other r.seat) clock posts w.lanes from to)) ≡
      old_in r.seat r.old from to c ++ live_in other (record r { live = r.live ++ more }) from to c
  frames_more from to c =
      post_seen (goes_to r.id c) (source_for other r.seat) clock posts w.lanes from to
      ∙ rw (shows.frames from to c, sent to c) (by (from == source_for other r.seat) (to == taker_of r.seat) (c == coming_of r.seat))
    where
      by : (a b d : Bool) →
          (old_in r.seat r.old from to c ++ (if (a && b) && d then r.live else [])) ++ (if a then (if b && d then more else []) else []) ≡
          old_in r.seat r.old from to c ++ (if (a && b) && d then r.live ++ more else [])
      by true true true = append_assoc (old_in r.seat r.old from to c) r.live more
      by true true false = append-nil (old_in r.seat r.old from to c ++ [])
      by true false d = append-nil (old_in r.seat r.old from to c ++ [])
      by false b d = append-nil (old_in r.seat r.old from to c ++ [])
