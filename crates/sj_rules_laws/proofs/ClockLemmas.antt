-- Each event raises its party's clock, and no other.
use Rattle.std.proofs.Common.{◌≡◌, ◌≢◌, ℕ, ◌+◌, ◌<◌, ◌==◌, Bool, cond, List, [], ◌∷◌, max, Some, refl, arith, ap}
use Rattle.std.proofs.lemmas.Bool.{eq-eqb, ne_eqb}
use Rattle.sj_rules.specs.Rows.{Worked}
use Rattle.sj_rules.specs.Node.{Play, NodeAt, acts, arrives}
use Rattle.sj_rules.specs.Frames.{FrameAt}
use Rattle.sj_rules.specs.World.{WorldAt, Event, Act, Deliver, with_lane, after_event, delivery_of, happens}
use Rattle.sj_rules_laws.proofs.WithinRowLemmas.{by_map}

module _ {P Q : Type 0} (play : Play P Q) (pick : ℕ → ℕ → ℕ) (w : WorldAt P Q) where
  -- the clock of that party rises, and others stay
  Rises : (p : ℕ) → WorldAt P Q → Type 0
  Rises p v = ((w.nodes p).clock < (v.nodes p).clock) × ((q : ℕ) → q ≢ p → (v.nodes q).clock ≡ (w.nodes q).clock)

  -- after an event at a higher clock
  event_rises : (p clock : ℕ) (lanes : ℕ → ℕ → List (FrameAt P)) (done : Worked P (NodeAt P Q)) → (w.nodes p).clock < clock → Rises p (after_event w p clock lanes done)
  unfolding Rises
  event_rises p clock lanes done lt = (omega (arith, lt, own), λ q apart. ap (λ (b : Bool). (cond b (record done.state { clock = clock }) (w.nodes q)).clock) (ne_eqb q p apart))
    where
      own : (cond (p == p) (record done.state { clock = clock }) (w.nodes p)).clock ≡ clock
      own = ap (λ (b : Bool). (cond b (record done.state { clock = clock }) (w.nodes p)).clock) (eq-eqb p p refl)

  -- after a delivery
  delivery_rises : (p q : ℕ) (v : WorldAt P Q) (l : List (FrameAt P)) → delivery_of play pick w p q l ≡ Some v → Rises p v
  delivery_rises p q v [] h = cc
  delivery_rises p q v (f ∷ rest) h =
      by_map (Rises p) (after_event w p (max (w.nodes p).clock f.clock + 1) (with_lane q p rest w.lanes)) (arrives play.blank play.parties pick (w.nodes p) q f) v h (λ done came.
      event_rises p (max (w.nodes p).clock f.clock + 1) (with_lane q p rest w.lanes) done (omega arith))

  -- after any event
  pub clock_rises : (p : ℕ) (event : Event) (v : WorldAt P Q) → happens play pick w p event ≡ Some v → ((w.nodes p).clock < (v.nodes p).clock) × ((q : ℕ) → q ≢ p → (v.nodes q).clock ≡ (w.nodes q).clock)
  unfolding Rises
  clock_rises p Act v h =
      by_map (Rises p) (after_event w p ((w.nodes p).clock + 1) w.lanes) (acts play p (w.nodes p)) v h (λ done acted.
      event_rises p ((w.nodes p).clock + 1) w.lanes done (omega arith))
  clock_rises p (Deliver q) v h = delivery_rises p q v (w.lanes q p) h
