-- A batch keeps what stands sound.
use Rattle.std.proofs.Common.{◌≡◌, ℕ, ◌<◌, ◌≤◌, List, [], refl, sym, subst, ◌∙◌, arith}
use Rattle.std.specs.Prelude.{Bool, true, false, ◌==◌}
use mathlib.Core.List.{IsPrefix}
use Rattle.sj_rules.specs.Node.{Play, NodeAt}
use Rattle.sj_rules.specs.Frames.{FrameAt}
use Rattle.sj_rules.specs.World.{WorldAt}
use Rattle.sj_rules.specs.NodeRun.{StepAt, NodeRun, popped_from, posted_to}
use Rattle.sj_standing_laws.specs.Standing.{Standing, lane_in, AddsBatch}
use Rattle.sj_standing_laws.proofs.SoundLemmas.{Sound, same_number, other_number, prefix_same, prefix_more, posts_more, lane_more}

module _ {P Q : Type 0} (play : Play P Q) (pick : ℕ → ℕ → ℕ) (blank : P) (n : ℕ) (start : WorldAt P Q) (p : ℕ) (old new : Standing P)
    (sound : Sound play pick blank n start old) (adds : AddsBatch play pick blank n start p old new) where
  steps_more : (q : ℕ) → IsPrefix (old.steps q) (new.steps q)
  steps_more q = by (q == p) refl
    where
      by : (b : Bool) → (q == p) ≡ b → IsPrefix (old.steps q) (new.steps q)
      by true e = subst (λ (r : ℕ). IsPrefix (old.steps r) (new.steps r)) (sym (same_number q p e)) adds.longer
      by false e = prefix_same (sym (adds.others q (other_number q p e)))

  run_at : (q : ℕ) → (last : NodeAt P Q) × NodeRun play pick q (start.nodes q) (new.steps q) last
  run_at q = by (q == p) refl
    where
      by : (b : Bool) → (q == p) ≡ b → (last : NodeAt P Q) × NodeRun play pick q (start.nodes q) (new.steps q) last
      by true e = subst (λ (r : ℕ). (last : NodeAt P Q) × NodeRun play pick r (start.nodes r) (new.steps r) last) (sym (same_number q p e)) (adds.last, adds.run)
      by false e = (sound.last q, subst (λ (ss : List (StepAt P)). NodeRun play pick q (start.nodes q) ss (sound.last q)) (sym (adds.others q (other_number q p e))) (sound.runs q))

  came_at : (q r : ℕ) → IsPrefix (popped_from blank r (new.steps q)) (lane_in blank new r q)
  came_at q r = by (q == p) refl
    where
      by : (b : Bool) → (q == p) ≡ b → IsPrefix (popped_from blank r (new.steps q)) (lane_in blank new r q)
      by true e = subst (λ (t : ℕ). IsPrefix (popped_from blank r (new.steps t)) (lane_in blank new r t)) (sym (same_number q p e)) (adds.came r)
      by false e = subst (λ (ss : List (StepAt P)). IsPrefix (popped_from blank r ss) (lane_in blank new r q)) (sym (adds.others q (other_number q p e)))
          (prefix_more (popped_from blank r (old.steps q)) (lane_in blank old r q) (lane_in blank new r q) (sound.came q r)
          (lane_more blank old new r q (steps_more r) (prefix_same (sym (adds.lanes r q)))))

  apart_at : (q : ℕ) → n ≤ q → new.steps q ≡ []
  apart_at q h = adds.others q (λ e. below q e h) ∙ sound.apart q h
    where
      below : (q : ℕ) → q ≡ p → n ≤ q → ⊥
      below q e h = let l : p < n = adds.party in omega (arith, l, e, h)

  pub batch_sound : Sound play pick blank n start new
  batch_sound = record {
    last = λ q. (run_at q).0;
    runs = λ q. (run_at q).1;
    posted = λ q r. subst (λ (l : List (FrameAt P)). IsPrefix l (posted_to blank r (new.steps q))) (sym (adds.lanes q r))
        (prefix_more (old.lane q r) (posted_to blank r (old.steps q)) (posted_to blank r (new.steps q)) (sound.posted q r)
        (posts_more blank r (old.steps q) (new.steps q) (steps_more q)));
    came = came_at;
    apart = apart_at;
  }
