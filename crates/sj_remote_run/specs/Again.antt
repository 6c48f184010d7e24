-- Entries of the party's stream, done again.
use Rattle.std.specs.Prelude.{◌≡◌, ℕ, max, List, [], ◌++◌, map}
use Rattle.sj_end.specs.declared.note.Entry.{Entry}
use Rattle.sj_lang.specs.FileAt.{FileAt}
use Rattle.sj_lang.specs.Place.{Place}
use Rattle.sj_rules.specs.Frames.{FrameAt}
use Rattle.sj_rules.specs.NodeRun.{Deed, NodeRun, StepAt}
use Rattle.sj_node.specs.declared.node.Node.{Node}
use Rattle.sj_node.specs.Node.{log_of, node_at, play_here}
use Rattle.sj_node.specs.Reading.{TakesEntry, parties_of, party_of}
use Rattle.sj_work.specs.Laned.{entries_of}
use Rattle.sj_engine.specs.Redone.{Redone}
use Rattle.sj_engine.specs.declared.out_lane.ByteOut.{ByteOut}
use Rattle.sj_remote_run.specs.Entries.{entry_words}
use Rattle.sj_remote_run.specs.Posts.{AreFrames, Posts, has_for}

-- the party went by these steps, and noted their entries
pub record Went (old new : Node) : Type 0 where
  pub steps : List (StepAt Place)
  pub run : NodeRun (play_here old) max (party_of old) (node_at old) steps (node_at new)
  pub log : entries_of (log_of new) ≡ entries_of (log_of old) ++ map (λ s. s.entry) steps
  pub play : play_here new ≡ play_here old
  pub party : party_of new ≡ party_of old
  pub parties : parties_of new ≡ parties_of old

-- what its steps post to others came after what it had for them
pub record WentFor (outs : List ByteOut) (old : Node) (later : List ByteOut) (new : Node) : Type 0 where
  pub went : Went old new
  pub posts : Posts (party_of old) went.steps (has_for outs old) (has_for later new)

-- the entry was done again as some deed
abbrev pub IsRedone : (old new : Node) → Entry → Type 0
IsRedone old new e = (deed : Deed Place) × Redone old new deed e

-- the party went by steps, and the words are the entry of all that it noted: its lines, and the frames that the steps post
pub record DidAgain (file : FileAt) (words : List (List ℕ)) (old new : Node) : Type 0 where
  pub node : Node
  pub went : Went old node
  pub posts : List (List (FrameAt Place))
  pub spelt : words ≡ entry_words file (party_of node) (log_of node) posts
  pub taken : TakesEntry node new
  pub empty : log_of new ≡ []
  pub frames : AreFrames (parties_of old) (party_of old) went.steps posts
