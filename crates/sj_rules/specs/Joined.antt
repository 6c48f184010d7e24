-- What running parties report together: each party's own work, and the frames on the lanes between
-- them.
use Rattle.std.specs.Prelude.{◌≡◌, ℕ, ◌<◌, ◌≤◌, nat_lt, if◌then◌else◌, List, [], ◌++◌, map}
use mathlib.Core.List.{IsPrefix}
use Rattle.sj_rules.specs.Node.{Play, NodeAt}
use Rattle.sj_rules.specs.Frames.{FrameAt}
use Rattle.sj_rules.specs.World.{WorldAt}
use Rattle.sj_rules.specs.Log.{EntryAt, LineAt, part_of, body_note, notes_from}
use Rattle.sj_rules.specs.History.{IsLog}
use Rattle.sj_rules.specs.Posts.{all_posts}
use Rattle.sj_rules.specs.NodeRun.{StepAt, NodeRun, popped_from, posted_to, told_frames}

-- a party's node with its log and outboxes, and what its lanes report. All by the other party, as
-- lanes report frames
pub record WorkerAt (P Q : Type 0) : Type 0 where
  pub node : NodeAt P Q
  pub log : List EntryAt
  pub box : ℕ → List (FrameAt P)
  pub popped : ℕ → List (FrameAt P)
  pub pushed : ℕ → List (FrameAt P)

-- a worker that has done nothing
abbrev pub fresh : {P Q : Type 0} → NodeAt P Q → WorkerAt P Q
fresh n = record { node = n; log = []; box = λ q. []; popped = λ q. []; pushed = λ q. [] }

-- the worker went from the old state to the new one by these steps. It popped their frames and then
-- at most what was lost. What it pushed, followed by the outbox that is left, is the old outbox and
-- what the steps post
pub record Works {P Q : Type 0} (play : Play P Q) (pick : ℕ → ℕ → ℕ) (blank : P) (party : ℕ) (old new : WorkerAt P Q) (lost : ℕ → List (FrameAt P)) : Type 0 where
  pub steps : List (StepAt P)
  pub run : NodeRun play pick party old.node steps new.node
  pub log : new.log ≡ old.log ++ map (λ s. s.entry) steps
  pub popped : (q : ℕ) → new.popped q ≡ old.popped q ++ popped_from blank q steps ++ lost q
  pub now : ℕ → List (FrameAt P)
  pub pushed : (q : ℕ) → new.pushed q ≡ old.pushed q ++ now q
  pub posted : (q : ℕ) → now q ++ new.box q ≡ old.box q ++ posted_to blank q steps

-- all parties worked from the start on, and what q popped from p is a prefix of what p pushed to q;
-- the rest waits
pub record AllWork {P Q : Type 0} (play : Play P Q) (pick : ℕ → ℕ → ℕ) (blank : P) (start : WorldAt P Q) (workers : ℕ → WorkerAt P Q)
    (lost waiting : ℕ → ℕ → List (FrameAt P)) : Type 0 where
  pub each : (p : ℕ) → Works play pick blank p (fresh (start.nodes p)) (workers p) (lost p)
  pub front : (p q : ℕ) → (workers p).pushed q ≡ (workers q).popped p ++ waiting p q
  pub empty : (p q : ℕ) → start.lanes p q ≡ []

-- what is left in the lane from p to q: what q lost, what waits, and the outbox of p
abbrev pub left_in : {P Q : Type 0} → (ℕ → WorkerAt P Q) → (lost waiting : ℕ → ℕ → List (FrameAt P)) → (p q : ℕ) → List (FrameAt P)
left_in workers lost waiting p q = lost q p ++ waiting p q ++ (workers p).box q

-- the world has these nodes, and its lanes report these frames
pub record Holds {P Q : Type 0} (blank : P) (w : WorldAt P Q) (last : ℕ → NodeAt P Q) (left : ℕ → ℕ → List (FrameAt P)) : Type 0 where
  pub nodes : (p : ℕ) → w.nodes p ≡ last p
  pub lanes : (p q : ℕ) → told_frames blank (w.lanes p q) ≡ left p q

-- the same of a file's parties, which are numbered below n. Each pops from parties of the file
-- alone
pub record PartiesWork {P Q : Type 0} (play : Play P Q) (pick : ℕ → ℕ → ℕ) (blank : P) (n : ℕ) (start : WorldAt P Q) (workers : ℕ → WorkerAt P Q)
    (lost : ℕ → ℕ → List (FrameAt P)) : Type 0 where
  pub each : (p : ℕ) → p < n → Works play pick blank p (fresh (start.nodes p)) (workers p) (lost p)
  pub front : (p q : ℕ) → p < n → q < n → IsPrefix ((workers q).popped p) ((workers p).pushed q)
  pub apart : (p q : ℕ) → n ≤ p → q < n → (workers q).popped p ≡ []
  pub empty : (p q : ℕ) → start.lanes p q ≡ []

-- the workers of the file, and beside them nodes that do nothing
abbrev pub workers_below : {P Q : Type 0} → ℕ → WorldAt P Q → (ℕ → WorkerAt P Q) → ℕ → WorkerAt P Q
workers_below n start workers = λ p. if nat_lt p n then workers p else fresh (start.nodes p)

-- what those workers lost
abbrev pub lost_below : {P : Type 0} → ℕ → (ℕ → ℕ → List (FrameAt P)) → ℕ → ℕ → List (FrameAt P)
lost_below n lost = λ p q. if nat_lt p n then lost p q else []

-- the lane from p to q reports what q lost, what waits, and the outbox of p; and p pushed what q
-- popped, and then what waits
pub record IsLaneLeft {P Q : Type 0} (blank : P) (w : WorldAt P Q) (workers : ℕ → WorkerAt P Q) (lost : ℕ → ℕ → List (FrameAt P)) (p q : ℕ) : Type 0 where
  pub waits : List (FrameAt P)
  pub pushed : (workers p).pushed q ≡ (workers q).popped p ++ waits
  pub lane : told_frames blank (w.lanes p q) ≡ lost q p ++ waits ++ (workers p).box q

-- the joined lines are a log that ends in that world: each party's part is its log, the world has
-- its node, and lanes go on where popped lists end
pub record IsJoinedRun {P Q : Type 0} (play : Play P Q) (pick : ℕ → ℕ → ℕ) (blank : P) (n : ℕ) (start : WorldAt P Q) (workers : ℕ → WorkerAt P Q)
    (lost : ℕ → ℕ → List (FrameAt P)) (lines : List LineAt) (w : WorldAt P Q) : Type 0 where
  pub log : IsLog play pick start lines w
  pub parts : (p : ℕ) → p < n → part_of p lines ≡ (workers p).log
  pub nodes : (p : ℕ) → p < n → w.nodes p ≡ (workers p).node
  pub lanes : (p q : ℕ) → p < n → q < n → IsLaneLeft blank w workers lost p q
  -- what the events at p post to q is what p pushed, and then its outbox
  pub posts : (p q : ℕ) → p < n → told_frames blank (all_posts play pick p q lines start) ≡ (workers p).pushed q ++ (workers p).box q
  -- where nothing was lost, the entries at q of frames from p are the notes of what q popped
  pub noted : (p q : ℕ) → q < n → lost q p ≡ [] → notes_from p (part_of q lines) ≡ map (λ f. body_note f.body) ((workers q).popped p)
