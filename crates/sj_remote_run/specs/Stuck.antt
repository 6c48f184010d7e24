-- Where a party comes to a frame that fits no row of the rules.
use Rattle.std.specs.Prelude.{◌≡◌, ℕ, List, Option, Some, length}
use Rattle.sj_engine.specs.Batch.{StopsBy}
use Rattle.sj_engine.specs.Rounds.{Rounds}
use Rattle.sj_engine.specs.declared.in_lane.ByteIn.{ByteIn}
use Rattle.sj_engine.specs.declared.out_lane.ByteOut.{ByteOut}
use Rattle.sj_lang.specs.FileAt.{FileAt}
use Rattle.sj_lang.specs.Place.{Place}
use Rattle.sj_node.specs.Node.{node_at, play_here}
use Rattle.sj_node.specs.Reading.{party_of}
use Rattle.sj_node.specs.declared.node.Node.{Node}
use Rattle.sj_rules.specs.Work.{LostAt}
use Rattle.sj_work.specs.Views.{lanes_of, node_of}
use Rattle.sj_work.specs.declared.worker.Stop.TheVariants as stops
use Rattle.sj_work.specs.declared.worker.Worker.{Worker}
use Rattle.sj_remote_run.specs.Asked.{IsInside}
use Rattle.sj_remote_run.specs.Played.{IsAgain}
use Rattle.sj_remote_run.specs.Batches.{BatchAt}
use Rattle.sj_remote_run.specs.Sent.{AreSent, CommandAt}
use Rattle.sj_remote_run.specs.Turns.{lanes_in, node_in}
use Rattle.sj_remote_run.specs.declared.player.Player.{Player}
use Rattle.sj_remote_run.specs.declared.refusal.PlayRefusal.{PlayRefusal}
use Rattle.sj_remote_run.specs.declared.refusal.PlayRefusal.TheVariants as plays

-- from the party's node and lanes on, a worker went by steps, and then the rules have no row for the frame at a lane's front, or for the act that is due
pub record StopsUnfit (old : Player) : Type 0 where
  pub from : Worker ByteOut ByteIn
  pub to : Worker ByteOut ByteIn
  pub lost : Option (LostAt Place)
  pub node : node_of from ≡ node_in old
  pub lanes : lanes_of from ≡ lanes_in old
  pub rounds : Rounds lost from to
  pub why : StopsBy (Some stops.Unfit) lost to

-- why it doesn't go on
abbrev pub IsStuck : Player → PlayRefusal → Type 0
IsStuck old plays.Unfit = StopsUnfit old
IsStuck old e = IsInside e

-- commands were sent whose batches lead on from the node, and then a worker stops
pub record StuckOn (last : ℕ) (old : Node) : Type 0 where
  pub commands : List CommandAt
  pub end : ℕ
  pub player : Player
  pub sent : AreSent (play_here old) (party_of old) last (node_at old) commands end (node_at (node_in player))
  pub play : play_here (node_in player) ≡ play_here old
  pub party_stays : party_of (node_in player) ≡ party_of old
  pub stuck : StopsUnfit player

-- the batches that stood were done again from the first node on, those that were sent go on after them, and then a worker stops
pub record IsStuckAt (file : FileAt) (party : ℕ) : Type 0 where
  pub again : List BatchAt
  pub old : Node
  pub redone : IsAgain file party again old
  pub stuck : StuckOn (length again) old
