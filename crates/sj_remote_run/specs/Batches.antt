-- Batches of a party: its steps, what it noted of them, and the frames that go with them.
use Rattle.std.specs.Prelude.{◌≡◌, ℕ, max, List, [], ◌∷◌, map}
use Rattle.sj_end.specs.declared.note.Entry.{Entry}
use Rattle.sj_lang.specs.FileAt.{FileAt}
use Rattle.sj_lang.specs.Place.{Place}
use Rattle.sj_rules.specs.Frames.{FrameAt}
use Rattle.sj_rules.specs.Node.{NodeAt, Play}
use Rattle.sj_rules.specs.NodeRun.{NodeRun, StepAt}
use Rattle.sj_semantics.specs.Program.{Program}
use Rattle.sj_work.specs.Laned.{entries_of}
use Rattle.sj_remote_run.specs.Entries.{entry_words}
use Rattle.sj_remote_run.specs.Posts.{AreFrames}

pub record BatchAt : Type 0 where
  pub steps : List (StepAt Place)
  pub noted : List Entry
  pub posts : List (List (FrameAt Place))

-- the steps lead from the one node to the other, what was noted is their entries, and the frames for others are what they post
pub record IsBatch (play : Play Place Program) (party : ℕ) (old new : NodeAt Place Program) (b : BatchAt) : Type 0 where
  pub run : NodeRun play max party old b.steps new
  pub notes : entries_of b.noted ≡ map (λ s. s.entry) b.steps
  pub frames : AreFrames play.parties party b.steps b.posts

-- one batch after another
abbrev pub AreBatches : Play Place Program → (party : ℕ) → NodeAt Place Program → List BatchAt → NodeAt Place Program → Type 0
AreBatches play party old [] new = new ≡ old
AreBatches play party old (b ∷ bs) new = (mid : NodeAt Place Program) × IsBatch play party old mid b × AreBatches play party mid bs new

-- the words of the entry of a batch
abbrev pub words_by : FileAt → (party : ℕ) → BatchAt → List (List ℕ)
words_by file party b = entry_words file party b.noted b.posts
