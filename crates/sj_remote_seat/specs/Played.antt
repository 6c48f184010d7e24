-- How a party is played by code.
use Rattle.std.specs.Prelude.{◌≡◌, ℕ, ⊤, List, [], length, map, Option}
use Rattle.sj_base.specs.Stream.{put_behind}
use Rattle.sj_engine.specs.declared.in_lane.ByteIn.{ByteIn}
use Rattle.sj_engine.specs.declared.out_lane.ByteOut.{ByteOut}
use Rattle.sj_lang.specs.FileAt.{FileAt}
use Rattle.sj_lang.specs.Place.{Place}
use Rattle.sj_node.specs.Reading.{party_of}
use Rattle.sj_node.specs.Starting.{BeginsWith, nothing_to_do}
use Rattle.sj_node.specs.declared.node.Node.{Node}
use Rattle.sj_remote.specs.Streams.{log_keys}
use Rattle.sj_remote_run.specs.Batches.{BatchAt}
use Rattle.sj_remote_run.specs.Sent.{AskAt, Asks, CommandAt, text_sent}
use Rattle.sj_remote_run.specs.declared.outcome.Outcome.{Outcome}
use Rattle.sj_rules.specs.Node.{NodeAt}
use Rattle.sj_seat.specs.Views.{node_of, seat_of}
use Rattle.sj_seat.specs.declared.guest.Guest.{Guest}
use Rattle.sj_seat_laws.specs.Calls.{Call}
use Rattle.sj_seat_laws.specs.SeatedPlay.{Player}
use Rattle.sj_seat_laws.specs.SeatedStart.{seat_start}
use Rattle.sj_work.specs.declared.worker.NoGate.{NoGate}
use Rattle.sj_remote_seat.specs.Batches.{AreBatches, AreSent}
use Rattle.sj_remote_seat.specs.Outcomes.{StandsBy}
use Rattle.sj_remote_seat.specs.Turns.{played_at}
use Rattle.sj_remote_seat.specs.declared.refusal.SeatPlayRefusal.{SeatPlayRefusal}
use Rattle.sj_remote_seat.specs.declared.refusal.SeatPlayRefusal.TheVariants as refusals

-- from the party's first node on, the batches that stood in its stream were done again, by the first of these calls of its code
pub record IsAgain (file : FileAt) (party : ℕ) (calls : List Call) (again : List BatchAt) (now : NodeAt Place Player) : Type 0 where
  pub first : Node
  pub begins : BeginsWith file party 0 (nothing_to_do file) first
  pub batches : AreBatches file party (played_at (seat_start file party calls) first) again now

-- commands were sent; each batch of them has the number after the last, up to the end, and leads on from the one node to the other
pub record GoesOn (text : List CommandAt → List ℕ) (file : FileAt) (party last end : ℕ) (old new : NodeAt Place Player) (before after : Option (List ℕ)) : Type 0 where
  pub commands : List CommandAt
  pub written : after ≡ put_behind before (text commands)
  pub sent : AreSent file party last old commands end new

-- so it went on from what the party was, by all calls that its code still made
pub record HasGone {G : Type 0} (text : List CommandAt → List ℕ) (file : FileAt) (last : ℕ) (old : Guest ByteOut ByteIn G) (o : Outcome) (before after : Option (List ℕ)) : Type 0 where
  pub calls : List Call
  pub new : Guest ByteOut ByteIn G
  pub end : ℕ
  pub goes_on : GoesOn text file (party_of (node_of old)) last end (played_at (seat_of calls old) (node_of old)) (played_at (seat_of [] new) (node_of new)) before after
  pub stands : StandsBy o new

-- by these calls of the code the batches that stood were done again, and those that were sent go on after them; in the end the party stands so
pub record IsPlayed (file : FileAt) (run : List ℕ) (party : ℕ) (o : Outcome) (before after : Option (List ℕ)) : Type 0 where
  pub calls : List Call
  pub again : List BatchAt
  pub mid : NodeAt Place Player
  pub redone : IsAgain file party calls again mid
  pub end : ℕ
  pub new : Guest ByteOut ByteIn NoGate
  pub goes_on : GoesOn (text_sent file run (log_keys run (length file.parties)) party) file party (length again) end mid (played_at (seat_of [] new) (node_of new)) before after
  pub stands : StandsBy o new

-- nothing was added: all that was sent is the password, the file and reads
pub record OnlyAsks (file : FileAt) (run : List ℕ) (party : ℕ) (before after : Option (List ℕ)) : Type 0 where
  pub asks : List AskAt
  pub written : after ≡ put_behind before (text_sent file run (log_keys run (length file.parties)) party (map Asks asks))

-- where the code is another one, or the table lacks a place, nothing was added
abbrev pub IsRefused : FileAt → (run : List ℕ) → (party : ℕ) → (before after : Option (List ℕ)) → SeatPlayRefusal → Type 0
IsRefused file run party before after refusals.LacksPlace = OnlyAsks file run party before after
IsRefused file run party before after refusals.OtherCode = OnlyAsks file run party before after
IsRefused file run party before after (refusals.Party r) = ⊤
