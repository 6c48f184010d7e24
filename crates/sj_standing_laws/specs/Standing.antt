-- What stands at a server at one moment, and how it grows, whichever processes come, go and come again.
use Rattle.std.specs.Prelude.{◌≡◌, ℕ, ◌<◌, ◌==◌, if◌then◌else◌, List, [], ◌∷◌, map}
use mathlib.Core.List.{IsPrefix}
use Rattle.sj_rules.specs.Node.{Play, NodeAt}
use Rattle.sj_rules.specs.Frames.{FrameAt}
use Rattle.sj_rules.specs.World.{WorldAt}
use Rattle.sj_rules.specs.Log.{EntryAt}
use Rattle.sj_rules.specs.NodeRun.{StepAt, NodeRun, popped_from, posted_to}

-- for each party the steps of its log, and for each pair of parties the frames in the lane between them
pub record Standing (P : Type 0) : Type 0 where
  pub steps : ℕ → List (StepAt P)
  pub lane : (from to : ℕ) → List (FrameAt P)

-- before any process
abbrev pub nothing : {P : Type 0} → Standing P
nothing = record { steps = λ p. []; lane = λ p q. [] }

-- the log of a party
abbrev pub log_in : {P : Type 0} → Standing P → ℕ → List EntryAt
log_in s p = map (λ t. t.entry) (s.steps p)

-- what one party can take from another: the frames in the lane; from itself: all that its steps post
abbrev pub lane_in : {P : Type 0} → P → Standing P → (from to : ℕ) → List (FrameAt P)
lane_in blank s p q = if p == q then posted_to blank q (s.steps p) else s.lane p q

module _ {P Q : Type 0} (play : Play P Q) (pick : ℕ → ℕ → ℕ) (blank : P) (n : ℕ) (start : WorldAt P Q) where
  -- A process that knows the whole log of a party of the file adds a batch at its end. With the batch the log is still one
  -- of the party, and its deliveries take, in order, what stands in the lanes to the party.
  pub record AddsBatch (p : ℕ) (old new : Standing P) : Type 0 where
    pub party : p < n
    pub longer : IsPrefix (old.steps p) (new.steps p)
    pub last : NodeAt P Q
    pub run : NodeRun play pick p (start.nodes p) (new.steps p) last
    pub came : (q : ℕ) → IsPrefix (popped_from blank q (new.steps p)) (lane_in blank new q p)
    pub others : (q : ℕ) → (q ≡ p → ⊥) → new.steps q ≡ old.steps q
    pub lanes : (q r : ℕ) → new.lane q r ≡ old.lane q r

  -- a lane gets the next frames that the steps of a log post, in order and each once
  pub record AddsFrames (p q : ℕ) (old new : Standing P) : Type 0 where
    pub longer : IsPrefix (old.lane p q) (new.lane p q)
    pub posted : IsPrefix (new.lane p q) (posted_to blank q (old.steps p))
    pub others : (r s : ℕ) → (r ≡ p → s ≡ q → ⊥) → new.lane r s ≡ old.lane r s
    pub steps : (r : ℕ) → new.steps r ≡ old.steps r

  -- the server takes one command
  pub data Adds (old new : Standing P) : Type 0 where
    Batch : (p : ℕ) → AddsBatch p old new → Adds old new
    Frames : (p q : ℕ) → AddsFrames p q old new → Adds old new

  -- commands lead from the old state to the new one, through these states
  abbrev pub Grown : List (Standing P) → (old new : Standing P) → Type 0
  Grown [] old new = old ≡ new
  Grown (s ∷ ss) old new = Adds old s × Grown ss s new
