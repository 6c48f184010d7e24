-- Frames keep what stands sound.
use Rattle.std.proofs.Common.{◌≡◌, ℕ, List, refl, sym, subst, ◌∙◌}
use Rattle.std.specs.Prelude.{Bool, true, false, ◌==◌}
use mathlib.Core.List.{IsPrefix}
use Rattle.sj_rules.specs.Node.{Play}
use Rattle.sj_rules.specs.Frames.{FrameAt}
use Rattle.sj_rules.specs.World.{WorldAt}
use Rattle.sj_rules.specs.NodeRun.{StepAt, NodeRun, popped_from, posted_to}
use Rattle.sj_standing_laws.specs.Standing.{Standing, lane_in, AddsFrames}
use Rattle.sj_standing_laws.proofs.SoundLemmas.{Sound, same_number, other_number, prefix_same, prefix_more, lane_more}

module _ {P Q : Type 0} (play : Play P Q) (pick : ℕ → ℕ → ℕ) (blank : P) (n : ℕ) (start : WorldAt P Q) (p q : ℕ) (old new : Standing P)
    (sound : Sound play pick blank n start old) (adds : AddsFrames play pick blank n start p q old new) where
  both_or_other : (r s : ℕ) → (b c : Bool) → (r == p) ≡ b → (s == q) ≡ c →
      IsPrefix (old.lane r s) (new.lane r s) × IsPrefix (new.lane r s) (posted_to blank s (old.steps r))
  both_or_other r s true true e f =
      subst (λ (t : ℕ). IsPrefix (old.lane t s) (new.lane t s) × IsPrefix (new.lane t s) (posted_to blank s (old.steps t))) (sym (same_number r p e))
      (subst (λ (t : ℕ). IsPrefix (old.lane p t) (new.lane p t) × IsPrefix (new.lane p t) (posted_to blank t (old.steps p))) (sym (same_number s q f)) (adds.longer, adds.posted))
  both_or_other r s false c e f = stays r s (λ a b. other_number r p e a)
    where
      stays : (r s : ℕ) → (r ≡ p → s ≡ q → ⊥) → IsPrefix (old.lane r s) (new.lane r s) × IsPrefix (new.lane r s) (posted_to blank s (old.steps r))
      stays r s h = (prefix_same (sym (adds.others r s h)), subst (λ (l : List (FrameAt P)). IsPrefix l (posted_to blank s (old.steps r))) (sym (adds.others r s h)) (sound.posted r s))
  both_or_other r s true false e f =
      (prefix_same (sym (adds.others r s (λ a b. other_number s q f b))), subst (λ (l : List (FrameAt P)). IsPrefix l (posted_to blank s (old.steps r))) (sym (adds.others r s (λ a b. other_number s q f b))) (sound.posted r s))

  lane_at : (r s : ℕ) → IsPrefix (old.lane r s) (new.lane r s) × IsPrefix (new.lane r s) (posted_to blank s (old.steps r))
  lane_at r s = both_or_other r s (r == p) (s == q) refl refl

  pub frames_sound : Sound play pick blank n start new
  frames_sound = record {
    last = sound.last;
    runs = λ r. subst (λ (ss : List (StepAt P)). NodeRun play pick r (start.nodes r) ss (sound.last r)) (sym (adds.steps r)) (sound.runs r);
    posted = λ r s. subst (λ (ss : List (StepAt P)). IsPrefix (new.lane r s) (posted_to blank s ss)) (sym (adds.steps r)) (lane_at r s).1;
    came = λ r s. subst (λ (ss : List (StepAt P)). IsPrefix (popped_from blank s ss) (lane_in blank new s r)) (sym (adds.steps r))
        (prefix_more (popped_from blank s (old.steps r)) (lane_in blank old s r) (lane_in blank new s r) (sound.came r s)
        (lane_more blank old new s r (prefix_same (sym (adds.steps s))) (lane_at s r).0));
    apart = λ r h. adds.steps r ∙ sound.apart r h;
  }
