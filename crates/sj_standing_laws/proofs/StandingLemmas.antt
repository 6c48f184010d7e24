-- What stands is always what parties did: each by its own steps, over lanes that hold prefixes of what was posted.
use Rattle.std.proofs.Common.{◌≡◌, ℕ, ◌≤◌, List, [], ◌∷◌, ◌++◌, refl, sym, ap, subst, ◌∙◌, append-nil}
use Rattle.std.specs.Prelude.{Bool, true, false, ◌==◌, if◌then◌else◌}
use mathlib.Core.List.{IsPrefix}
use Rattle.sj_rules.specs.Node.{Play}
use Rattle.sj_rules.specs.World.{WorldAt}
use Rattle.sj_rules.specs.Joined.{WorkerAt, Works, PartiesWork, fresh}
use Rattle.sj_rules.specs.NodeRun.{popped_from, posted_to}
use Rattle.sj_rules.specs.History.{IsLog}
use Rattle.sj_rules.specs.Log.{LineAt, IsJoined, logs_below}
use Rattle.sj_joined_lemmas.proofs.JoinedRunLemmas.{logs_join}
use Rattle.sj_joined_lemmas.proofs.PartiesLemmas.{parties_run}
use Rattle.sj_standing_laws.specs.Standing.{Standing, nothing, log_in, lane_in, Adds, Batch, Frames, Grown}
use Rattle.sj_standing_laws.proofs.SoundLemmas.{Sound, sound_nothing, prefix_itself, prefix_more}
use Rattle.sj_standing_laws.proofs.BatchLemmas.{batch_sound}
use Rattle.sj_standing_laws.proofs.FramesLemmas.{frames_sound}

module _ {P Q : Type 0} (play : Play P Q) (pick : ℕ → ℕ → ℕ) (blank : P) (n : ℕ) (start : WorldAt P Q) where
  add_sound : (old new : Standing P) → Sound play pick blank n start old → Adds play pick blank n start old new → Sound play pick blank n start new
  add_sound old new sound (Batch p adds) = batch_sound play pick blank n start p old new sound adds
  add_sound old new sound (Frames p q adds) = frames_sound play pick blank n start p q old new sound adds

  grown_sound : (ss : List (Standing P)) (old new : Standing P) → Sound play pick blank n start old → Grown play pick blank n start ss old new → Sound play pick blank n start new
  grown_sound [] old new sound same = subst (λ (s : Standing P). Sound play pick blank n start s) same sound
  grown_sound (s ∷ ss) old new sound grown = grown_sound ss s new (add_sound old s sound grown.0) grown.1

  -- the parties as workers: each has its log, has popped what its log takes, and has pushed what stands in its lanes
  module _ (s : Standing P) (sound : Sound play pick blank n start s) (empty : (p q : ℕ) → start.lanes p q ≡ []) where
    pushed_at : (p q : ℕ) → IsPrefix (lane_in blank s p q) (posted_to blank q (s.steps p))
    pushed_at p q = by (p == q)
      where
        by : (b : Bool) → IsPrefix (if b then posted_to blank q (s.steps p) else s.lane p q) (posted_to blank q (s.steps p))
        by true = prefix_itself (posted_to blank q (s.steps p))
        by false = sound.posted p q

    pub worker_at : ℕ → WorkerAt P Q
    worker_at p = record {
      node = sound.last p;
      log = log_in s p;
      box = λ q. (pushed_at p q).0;
      popped = λ q. popped_from blank q (s.steps p);
      pushed = λ q. lane_in blank s p q;
    }

    works_at : (p : ℕ) → Works play pick blank p (fresh (start.nodes p)) (worker_at p) (λ q. [])
    unfolding worker_at
    works_at p = record {
      steps = s.steps p;
      run = sound.runs p;
      log = refl;
      popped = λ q. sym (append-nil (popped_from blank q (s.steps p)));
      now = λ q. lane_in blank s p q;
      pushed = λ q. refl;
      posted = λ q. (pushed_at p q).1;
    }

    -- nothing is taken from a party that the file doesn't have
    none_beyond : (p q : ℕ) → n ≤ p → popped_from blank p (s.steps q) ≡ []
    none_beyond p q h = prefix_of_none (popped_from blank p (s.steps q)) (posted_to blank q (s.steps p))
        (prefix_more (popped_from blank p (s.steps q)) (lane_in blank s p q) (posted_to blank q (s.steps p)) (sound.came q p) (pushed_at p q))
        (ap (posted_to blank q) (sound.apart p h))
      where
        prefix_of_none : {X : Type 0} → (xs ys : List X) → IsPrefix xs ys → ys ≡ [] → xs ≡ []
        prefix_of_none [] ys a e = refl
        prefix_of_none (x ∷ xs) ys a e = absurd (cons_is_none (a.1 ∙ e))
          where
            cons_is_none : x ∷ (xs ++ a.0) ≡ [] → ⊥
            cons_is_none same = cc same

    pub parties_work : PartiesWork play pick blank n start worker_at (λ p q. [])
    unfolding worker_at
    parties_work = record {
      each = λ p h. works_at p;
      front = λ p q h k. sound.came q p;
      apart = λ p q h k. none_beyond p q h;
      empty = empty;
    }

  -- after any commands what stands is work of the parties
  pub what_stands : (ss : List (Standing P)) (s : Standing P) → Grown play pick blank n start ss nothing s → ((p q : ℕ) → start.lanes p q ≡ []) →
      (workers : ℕ → WorkerAt P Q) × PartiesWork play pick blank n start workers (λ p q. []) × ((p : ℕ) → (workers p).log ≡ log_in s p)
  unfolding worker_at
  what_stands ss s grown empty =
      let sound = grown_sound ss nothing s (sound_nothing play pick blank n start) grown in
      (worker_at s sound empty, parties_work s sound empty, λ p. refl)

  -- the logs that stand can be joined
  pub standing_join : (ss : List (Standing P)) (s : Standing P) → Grown play pick blank n start ss nothing s → ((p q : ℕ) → start.lanes p q ≡ []) →
      (lines : List LineAt) × IsJoined (logs_below (log_in s) n) lines
  unfolding worker_at
  standing_join ss s grown empty =
      let sound = grown_sound ss nothing s (sound_nothing play pick blank n start) grown in
      logs_join play pick blank n start (worker_at s sound empty) (λ p q. []) (parties_work s sound empty)

  -- and the joined lines lead from one event to the next
  pub standing_log : (ss : List (Standing P)) (s : Standing P) (lines : List LineAt) → Grown play pick blank n start ss nothing s → ((p q : ℕ) → start.lanes p q ≡ []) →
      IsJoined (logs_below (log_in s) n) lines → (w : WorldAt P Q) × IsLog play pick start lines w
  unfolding worker_at
  standing_log ss s lines grown empty joined =
      let sound = grown_sound ss nothing s (sound_nothing play pick blank n start) grown in
      let r = parties_run play pick blank n start (worker_at s sound empty) (λ p q. []) (parties_work s sound empty) lines joined in
      (r.world, r.log)
