-- How a party is played.
use Rattle.std.specs.Prelude.{◌≡◌, ℕ, List, Option, length}
use Rattle.sj_base.specs.Stream.{put_behind}
use Rattle.sj_lang.specs.FileAt.{FileAt}
use Rattle.sj_node.specs.declared.node.Node.{Node}
use Rattle.sj_node.specs.Node.{node_at, play_here}
use Rattle.sj_node.specs.Reading.{IsFinished, party_of}
use Rattle.sj_node.specs.Starting.{Begins}
use Rattle.sj_remote.specs.Streams.{log_keys}
use Rattle.sj_remote_run.specs.Batches.{AreBatches, BatchAt}
use Rattle.sj_remote_run.specs.Sent.{AreSent, CommandAt, text_sent}
use Rattle.sj_remote_run.specs.declared.outcome.Outcome.{Outcome}
use Rattle.sj_remote_run.specs.declared.outcome.Outcome.TheVariants as outcomes

-- from the first node on, the batches that stood in the party's stream were done again
pub record IsAgain (file : FileAt) (party : ℕ) (again : List BatchAt) (node : Node) : Type 0 where
  pub first : Node
  pub begins : Begins file party 0 first
  pub batches : AreBatches (play_here first) party (node_at first) again (node_at node)
  pub play : play_here node ≡ play_here first
  pub party_stays : party_of node ≡ party

-- commands were sent; each batch of them has the number after the last, and leads on from the node
pub record GoesOn (text : List CommandAt → List ℕ) (last : ℕ) (old : Node) (o : Outcome) (before after : Option (List ℕ)) : Type 0 where
  pub commands : List CommandAt
  pub written : after ≡ put_behind before (text commands)
  pub end : ℕ
  pub node : Node
  pub sent : AreSent (play_here old) (party_of old) last (node_at old) commands end (node_at node)
  pub ended : o ≡ outcomes.Ended → IsFinished node

-- the batches that stood were done again, and those that were sent go on after them
pub record IsPlayed (file : FileAt) (run : List ℕ) (party : ℕ) (o : Outcome) (before after : Option (List ℕ)) : Type 0 where
  pub again : List BatchAt
  pub old : Node
  pub redone : IsAgain file party again old
  pub goes_on : GoesOn (text_sent file run (log_keys run (length file.parties)) party) (length again) old o before after
