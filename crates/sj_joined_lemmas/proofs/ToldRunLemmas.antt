-- What the kept lists of the lanes report of the joined logs, and of the world that they lead to.
use Rattle.std.proofs.Common.{◌≡◌, ℕ, ◌<◌, List, [], ◌∷◌, ◌++◌, sym, ap, ◌∙◌, arith, append-nil, append_assoc}
use Rattle.std.specs.Prelude.{true, nat_lt, map}
use Rattle.std.proofs.lemmas.Bool.Decides.{nat_tests}
use mathlib.Core.List.{IsPrefix}
use Rattle.sj_rules.specs.Node.{Play}
use Rattle.sj_rules.specs.Frames.{FrameAt}
use Rattle.sj_rules.specs.World.{WorldAt}
use Rattle.sj_rules.specs.Log.{LineAt, IsJoined, part_of, body_note, logs_below, notes_from}
use Rattle.sj_rules.specs.Posts.{all_posts}
use Rattle.sj_rules.specs.NodeRun.{popped_from, frame_told, told_frames}
use Rattle.sj_rules.specs.Joined.{WorkerAt, fresh, Works, AllWork, PartiesWork, left_in, workers_below, lost_below}
use Rattle.sj_joined_lemmas.proofs.NotesLemmas.{pops_noted, FrontLike, front_like}
use Rattle.sj_joined_lemmas.proofs.JoinedLemmas.{joined_logs_run}
use Rattle.sj_joined_lemmas.proofs.PartiesLemmas.{waiting, parties_run, has_node}

-- where nothing was lost, what the lines post from p to q is what q popped, and then what the lane
-- from p to q reports
module _ {P Q : Type 0} (play : Play P Q) (pick : ℕ → ℕ → ℕ) (blank : P) (start : WorldAt P Q) (workers : ℕ → WorkerAt P Q)
    (lost waits : ℕ → ℕ → List (FrameAt P)) (all : AllWork play pick blank start workers lost waits) (lines : List LineAt) (joined : IsJoined (λ p. (workers p).log) lines) where
  -- the lane goes on where the popped list ends
  pub lane_left : (p q : ℕ) → lost q p ≡ [] →
      told_frames blank (all_posts play pick p q lines start)
      ≡ (workers q).popped p ++ told_frames blank ((joined_logs_run play pick blank start workers lost waits all lines joined).world.lanes p q)
  lane_left p q none =
      let r = joined_logs_run play pick blank start workers lost waits all lines joined in
      let lane : told_frames blank (r.world.lanes p q) ≡ waits p q ++ (workers p).box q = r.holds.lanes p q ∙ ap (λ l. (l ++ waits p q) ++ (workers p).box q) none in
      r.posts p q ∙ ap (λ l. l ++ (workers p).box q) (all.front p q) ∙ append_assoc ((workers q).popped p) (waits p q) ((workers p).box q)
      ∙ ap (λ l. (workers q).popped p ++ l) (sym lane)

module _ {P Q : Type 0} (play : Play P Q) (pick : ℕ → ℕ → ℕ) (blank : P) (n : ℕ) (start : WorldAt P Q) (workers : ℕ → WorkerAt P Q)
    (lost : ℕ → ℕ → List (FrameAt P)) (all : PartiesWork play pick blank n start workers lost) (lines : List LineAt) (joined : IsJoined (logs_below (λ q. (workers q).log) n) lines) where
  -- the world has each worker's node
  pub world_node : (p : ℕ) → p < n → (parties_run play pick blank n start workers lost all lines joined).world.nodes p ≡ (workers p).node
  world_node p h = (parties_run play pick blank n start workers lost all lines joined).holds.nodes p ∙ has_node play pick blank n start workers lost all p h

  -- a party's part of the lines is its worker's log
  pub part_is : (p : ℕ) → p < n → part_of p lines ≡ (workers p).log
  part_is p h = let e : nat_lt p n ≡ true = grind (arith, nat_tests) in joined.parts p ∙ rw e

  -- what the lines post is what was pushed, and then the outbox that is left
  pub posts_pushed : (p q : ℕ) → p < n → told_frames blank (all_posts play pick p q lines start) ≡ (workers p).pushed q ++ (workers p).box q
  posts_pushed p q h =
      let e : nat_lt p n ≡ true = grind (arith, nat_tests) in
      let r = parties_run play pick blank n start workers lost all lines joined in
      r.posts p q ∙ rw e

  -- so what was pushed is a prefix of it
  pub pushed_front : (p q : ℕ) → p < n → IsPrefix ((workers p).pushed q) (told_frames blank (all_posts play pick p q lines start))
  pushed_front p q h = ((workers p).box q, sym (posts_pushed p q h))

  -- the entries at q of frames from p are the notes of the frames that were popped, where none was
  -- lost
  pub popped_noted : (p q : ℕ) → q < n → lost q p ≡ [] → notes_from p (part_of q lines) ≡ map (λ f. body_note f.body) ((workers q).popped p)
  popped_noted p q h none =
      let w : Works play pick blank q (fresh (start.nodes q)) (workers q) (lost q) = all.each q h in
      let pops : (workers q).popped p ≡ popped_from blank p w.steps =
      w.popped p ∙ ap (λ l. popped_from blank p w.steps ++ l) none ∙ append-nil (popped_from blank p w.steps) in
      ap (notes_from p) (part_is q h ∙ w.log) ∙ pops_noted play pick blank q p w.steps (start.nodes q) (workers q).node w.run
      ∙ ap (map (λ f. body_note f.body)) (sym pops)

  -- a frame that a worker popped and lost is the first in its lane in the world, and does there
  -- what it does at the worker's node
  pub lost_is_front : (p q : ℕ) (f : FrameAt P) → q < n → lost q p ≡ frame_told blank f ∷ [] →
      FrontLike play pick blank (parties_run play pick blank n start workers lost all lines joined).world (λ r. (workers_below n start workers r).node)
      (left_in (workers_below n start workers) (lost_below n lost) (waiting play pick blank n start workers lost all))
      (parties_run play pick blank n start workers lost all lines joined).holds p q f
  lost_is_front p q f h one =
      let e : nat_lt q n ≡ true = grind (arith, nat_tests) in
      let first : lost_below n lost q p ≡ frame_told blank f ∷ [] = rw e one in
      front_like play pick blank (parties_run play pick blank n start workers lost all lines joined).world (λ r. (workers_below n start workers r).node)
      (left_in (workers_below n start workers) (lost_below n lost) (waiting play pick blank n start workers lost all))
      (parties_run play pick blank n start workers lost all lines joined).holds p q f
      (waiting play pick blank n start workers lost all p q ++ (workers_below n start workers p).box q)
      (ap (λ l. (l ++ waiting play pick blank n start workers lost all p q) ++ (workers_below n start workers p).box q) first)
