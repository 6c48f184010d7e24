-- Batches of a party that code plays, and the commands that it sends.
use Rattle.std.specs.Prelude.{◌≡◌, ℕ, ◌+◌, max, List, [], ◌∷◌, length, map}
use Rattle.sj_lang.specs.FileAt.{FileAt}
use Rattle.sj_lang.specs.Place.{Place}
use Rattle.sj_remote_run.specs.Batches.{BatchAt}
use Rattle.sj_remote_run.specs.Posts.{AreFrames}
use Rattle.sj_remote_run.specs.Sent.{Adds, Asks, CommandAt}
use Rattle.sj_rules.specs.Node.{NodeAt}
use Rattle.sj_rules.specs.NodeRun.{NodeRun}
use Rattle.sj_seat_laws.specs.SeatedPlay.{Player, seated_play}
use Rattle.sj_work.specs.Laned.{entries_of}

-- steps of the play in which code plays the party lead from the one node to the other, what was noted is their entries, and the frames
-- for others are what they post
pub record IsBatch (file : FileAt) (party : ℕ) (old new : NodeAt Place Player) (b : BatchAt) : Type 0 where
  pub run : NodeRun (seated_play file) max party old b.steps new
  pub notes : entries_of b.noted ≡ map (λ s. s.entry) b.steps
  pub frames : AreFrames (length file.parties) party b.steps b.posts

-- one batch after another
abbrev pub AreBatches : FileAt → (party : ℕ) → NodeAt Place Player → List BatchAt → NodeAt Place Player → Type 0
AreBatches file party old [] new = new ≡ old
AreBatches file party old (b ∷ bs) new = (mid : NodeAt Place Player) × IsBatch file party old mid b × AreBatches file party mid bs new

-- each batch that is added has the number after the last one, and leads on from where the node was
abbrev pub AreSent : FileAt → (party last : ℕ) → NodeAt Place Player → List CommandAt → (end : ℕ) → NodeAt Place Player → Type 0
AreSent file party last old [] end new = (end ≡ last) × (new ≡ old)
AreSent file party last old (Asks a ∷ cs) end new = AreSent file party last old cs end new
AreSent file party last old (Adds number b ∷ cs) end new =
    (mid : NodeAt Place Player) × (number ≡ last + 1) × IsBatch file party old mid b × AreSent file party (last + 1) mid cs end new
