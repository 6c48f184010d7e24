-- What a party that code plays does between its entries, whatever its code calls later.
use Rattle.std.specs.Prelude.{◌≡◌, ℕ, ◌+◌, ◌<◌, max, List, [], ◌∷◌, ◌++◌, map, length, get_or, slice_get}
use Rattle.sj_end.specs.Views.{note_at}
use Rattle.sj_end.specs.declared.note.Entry.{Entry}
use Rattle.sj_end.specs.declared.note.Event.TheVariants as events
use Rattle.sj_engine.specs.declared.in_lane.ByteIn.{ByteIn}
use Rattle.sj_engine.specs.declared.out_lane.ByteOut.{ByteOut}
use Rattle.sj_lang.specs.FileAt.{FileAt}
use Rattle.sj_lang.specs.Place.{Place}
use Rattle.sj_node.specs.Node.{Does, clock_of, delivery, log_of, node_at}
use Rattle.sj_node.specs.Reading.{parties_of, party_of}
use Rattle.sj_node.specs.Starting.{BeginsWith, nothing_to_do}
use Rattle.sj_node.specs.declared.node.Node.{Node}
use Rattle.sj_remote_run.specs.Posts.{HasNone, Posts, has_for}
use Rattle.sj_rules.specs.Frames.{FrameAt}
use Rattle.sj_rules.specs.Log.{EntryAt}
use Rattle.sj_rules.specs.Node.{NodeAt}
use Rattle.sj_rules.specs.NodeRun.{NodeRun, StepAt}
use Rattle.sj_seat.specs.Views.{calls_of, ends_of, may_of, node_of, seat_of, worker_of}
use Rattle.sj_seat.specs.declared.guest.Guest.{Guest}
use Rattle.sj_seat_laws.specs.Calls.{Call, SeatedAt}
use Rattle.sj_seat_laws.specs.SeatRows.{with_player}
use Rattle.sj_seat_laws.specs.SeatedPlay.{Player, seated, seated_play}
use Rattle.sj_seat_laws.specs.SeatedStart.{connected_ends, openings_of}
use Rattle.sj_table.specs.declared.table.Spot.{Spot}
use Rattle.sj_work.specs.Laned.{entries_of}
use Rattle.sj_work.specs.Views.{lanes_of}

-- a frame came from that party
abbrev pub IsDelivered : (from : ℕ) → FrameAt Spot → (old new : Node) → Type 0
IsDelivered from f old new = Does old (delivery old from f) (max (clock_of old) f.clock + 1) (events.Deliver from) (note_at f.body) new

-- a node whose party code plays
abbrev pub played_at : SeatedAt → Node → NodeAt Place Player
played_at s n = with_player (seated s) (node_at n)

-- the node went by steps of the play in which code plays the party, from what the party was to what it is; these are their entries.
-- What they post to others came after what the party had for them
pub record Ran (file : FileAt) (from to : SeatedAt) (old new : Node) (before after : ℕ → List (FrameAt Place)) (entries : List EntryAt) : Type 0 where
  pub steps : List (StepAt Place)
  pub run : NodeRun (seated_play file) max (party_of old) (with_player (seated from) (node_at old)) steps (with_player (seated to) (node_at new))
  pub noted : entries ≡ map (λ s. s.entry) steps
  pub posts : Posts (party_of old) steps before after

-- the same, with what the node noted
pub record Noted (file : FileAt) (from to : SeatedAt) (old new : Node) (before after : ℕ → List (FrameAt Place)) : Type 0 where
  pub entries : List EntryAt
  pub ran : Ran file from to old new before after entries
  pub log : entries_of (log_of new) ≡ entries_of (log_of old) ++ entries

-- a node that looks the same to the rules
pub record Resembles (a b : Node) : Type 0 where
  pub node : node_at b ≡ node_at a
  pub party : party_of b ≡ party_of a
  pub parties : parties_of b ≡ parties_of a

module _ {O I G : Type 0} where
  -- the party is the same one
  pub record IsSame (old new : Guest O I G) : Type 0 where
    pub party : party_of (node_of new) ≡ party_of (node_of old)
    pub parties : parties_of (node_of new) ≡ parties_of (node_of old)

  -- nothing happened at the party: its code holds the same, and its node looks the same
  pub record Still (old new : Guest O I G) : Type 0 where
    pub seats : (rest : List Call) → seat_of rest new ≡ seat_of rest old
    pub nodes : Resembles (node_of old) (node_of new)

  -- the party before its first call
  pub record Begins (file : FileAt) (party : ℕ) (g : Guest O I G) : Type 0 where
    pub ends : ends_of g ≡ connected_ends file party
    pub calls : calls_of g ≡ 0
    pub may : may_of g ≡ openings_of file (slice_get file.parties party)
    pub node : BeginsWith file party 0 (nothing_to_do file) (node_of g)

module _ {G : Type 0} where
  abbrev pub outs_of : Guest ByteOut ByteIn G → List ByteOut
  outs_of g = (lanes_of (worker_of g)).outs.items

  -- what the party has for another one: what is on the lane to it, and then what waits for the lane
  abbrev pub has_of : Guest ByteOut ByteIn G → ℕ → List (FrameAt Place)
  has_of g = has_for (outs_of g) (node_of g)

  -- it has nothing for any other party of the file
  abbrev pub IsClear : Guest ByteOut ByteIn G → Type 0
  IsClear g = HasNone (outs_of g) (node_of g)

  -- the code made some calls, whatever it makes later, and the party went by them and noted that
  pub record Turns (old new : Guest ByteOut ByteIn G) : Type 0 where
    pub calls : List Call → List Call
    pub went : (file : FileAt) (rest : List Call) → length file.parties ≡ parties_of (node_of old)
        → Noted file (seat_of (calls rest) old) (seat_of rest new) (node_of old) (node_of new) (has_of old) (has_of new)
    pub same : IsSame old new

  -- the same, where just these entries were noted, whatever is left in the log
  pub record SatBy (old new : Guest ByteOut ByteIn G) (before after : ℕ → List (FrameAt Place)) (entries : List EntryAt) : Type 0 where
    pub calls : List Call → List Call
    pub went : (file : FileAt) (rest : List Call) → length file.parties ≡ parties_of (node_of old)
        → Ran file (seat_of (calls rest) old) (seat_of rest new) (node_of old) (node_of new) before after entries
    pub same : IsSame old new

  abbrev pub Sat : (old new : Guest ByteOut ByteIn G) → List EntryAt → Type 0
  Sat old new entries = SatBy old new (has_of old) (has_of new) entries

  -- a list of frames for each party of the file; for others than the party itself it is what the party has for them
  pub record AreHanded (g : Guest ByteOut ByteIn G) (frames : List (List (FrameAt Place))) : Type 0 where
    pub count : length frames ≡ parties_of (node_of g)
    pub each : (q : ℕ) → q < parties_of (node_of g) → (q ≡ party_of (node_of g) → ⊥) → get_or frames q [] ≡ has_of g q

  -- where something was noted nothing is left for others, else all is left
  abbrev pub IsLeft : List Entry → (old new : Guest ByteOut ByteIn G) → Type 0
  IsLeft [] old new = (q : ℕ) → q < parties_of (node_of old) → (q ≡ party_of (node_of old) → ⊥) → has_of new q ≡ has_of old q
  IsLeft (e ∷ es) old new = IsClear new

  -- what was noted was taken out of the log, and nothing else happened at the party
  pub record Goes (old new : Guest ByteOut ByteIn G) : Type 0 where
    pub still : Still old new
    pub log : log_of (node_of new) ≡ []
    pub left : IsLeft (log_of (node_of old)) old new
