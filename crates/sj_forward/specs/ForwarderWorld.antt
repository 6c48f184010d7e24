-- A forwarding world as it lies in memory.
use Rattle.std.specs.Prelude.{◌≡◌, ℕ, ◌+◌, ◌<◌, ⊤, List, [], ◌∷◌, ◌++◌, length, slice_get, unwrap_or, Option, Some, None, option_map}
use Rattle.sj_lang.specs.FileAt.{FileAt}
use Rattle.sj_acceptance.specs.Accepted.{IsAccepted}
use Rattle.sj_semantics.specs.Program.{Program}
use Rattle.sj_semantics.specs.Run.{IsRun}
use Rattle.sj_semantics.specs.Wants.{want_of}
use Rattle.sj_semantics.specs.World.{act_of}
use Rattle.sj_semantics.specs.declared.Want.{Want}
use Rattle.sj_semantics.specs.declared.Want.TheVariants.{Ended}
use Rattle.sj_plain.specs.declared.plain.Plain.{Plain}
use Rattle.sj_plain.specs.SharedFile.{without_words}
use Rattle.sj_plain.specs.Plain.{acts_of, kept_file, party_count, world_at}
use Rattle.sj_rules.specs.Drain as drain
use Rattle.sj_rules.specs.Events.{acts_in}
use Rattle.sj_rules.specs.Party.{nobody, play_of}
use Rattle.sj_rules.specs.World as rules
use Rattle.sj_forward.specs.declared.forwarder_world.ForwarderWorld.{ForwarderWorld}
use Rattle.sj_forward.specs.declared.forwarder.Forwarder.{Forwarder}
use Rattle.sj_forward.specs.declared.refusal.Turn.{Turn}
use Rattle.sj_forward.specs.declared.refusal.Turn.TheVariants as turns
use Rattle.sj_forward.specs.Forwarder.{forwarder_at, lane_of}
use Rattle.sj_forward_rules.specs.Drain.{passed_in}
use Rattle.sj_forward_rules.specs.Node.{NodeAt, with_program}
use Rattle.sj_forward_rules.specs.Record.{FrameAt}
use Rattle.sj_forward_rules.specs.Start.{IsForwardRun, first_node}
use Rattle.sj_forward_rules.specs.World.{WorldAt, happens}

-- an act, or a delivery
abbrev pub event_at : Turn → rules.Event
event_at turns.Act = rules.Act
event_at (turns.Deliver q) = rules.Deliver q

-- the party from which a frame is delivered is one of so many
abbrev pub ComesFrom : Turn → ℕ → Type 0
ComesFrom turns.Act n = ⊤
ComesFrom (turns.Deliver q) n = q < n

-- ---- the world

-- the program of a party in the plain world
abbrev pub program_in : Plain → ℕ → Program
program_in plain p = unwrap_or (slice_get (world_at plain).parties p) nobody

-- that is its next step
abbrev pub Wants : Plain → ℕ → Want → Type 0
Wants plain p want = option_map (λ g. unwrap_or (want_of g) Ended) (slice_get (world_at plain).parties p) ≡ Some want

-- a party that isn't there stays as it begins
abbrev pub node_or : Program → NodeAt Program → Option Forwarder → NodeAt Program
node_or g first None = with_program g first
node_or g first (Some d) = forwarder_at g d

abbrev pub lane_or : Option Forwarder → ℕ → List FrameAt
lane_or None q = []
lane_or (Some d) q = lane_of d q

abbrev pub world_by : Plain → List Forwarder → WorldAt Program
world_by plain forwarders = record {
  nodes = λ p. node_or (program_in plain p) (first_node (kept_file plain) p) (slice_get forwarders p);
  lanes = λ from to. lane_or (slice_get forwarders from) to;
}

abbrev pub file_in : ForwarderWorld → FileAt
file_in c = kept_file c.plain

abbrev pub forwarders_in : ForwarderWorld → List Forwarder
forwarders_in c = c.forwarders.items

-- each party with its program in the plain world and what it keeps, and what it has sent
abbrev pub world_in : ForwarderWorld → WorldAt Program
world_in c = world_by c.plain (forwarders_in c)

-- the file is what is kept of an accepted one
pub record IsOfAccepted (kept : FileAt) : Type 0 where
  pub file : FileAt
  pub accepted : IsAccepted file
  pub same : kept ≡ without_words file

-- these turns lead from the start of the file to the world, their acts to its plain world, and its
-- counts are theirs
pub record IsLedBy (ts : List rules.Turn) (c : ForwarderWorld) : Type 0 where
  pub run : IsForwardRun (file_in c) ts (world_in c)
  pub acts : acts_of c.plain ≡ acts_in ts
  pub plain : IsRun (file_in c) (acts_of c.plain) (world_at c.plain)
  pub passed : c.passed ≡ passed_in ts
  pub events : c.events ≡ length ts

-- some turns lead there; the file is that of an accepted one, and each of its parties has its forwarder
pub record IsReached (c : ForwarderWorld) : Type 0 where
  pub accepted : IsOfAccepted (file_in c)
  pub turns : List rules.Turn
  pub led : IsLedBy turns c
  pub count : length (forwarders_in c) ≡ length (file_in c).parties
  pub parties : party_count c.plain ≡ length (file_in c).parties

-- ---- what calls make of it

-- the counts and the plain acts are those of these turns more
pub record Counts (c : ForwarderWorld) (ts : List rules.Turn) (d : ForwarderWorld) : Type 0 where
  pub acts : acts_of d.plain ≡ acts_of c.plain ++ acts_in ts
  pub passed : d.passed ≡ c.passed + passed_in ts
  pub events : d.events ≡ c.events + length ts
  pub file : file_in d ≡ file_in c

-- the event of that party is a step
pub record Steps (c : ForwarderWorld) (p : ℕ) (event : rules.Event) (d : ForwarderWorld) : Type 0 where
  pub step : happens (play_of (file_in c)) (world_in c) p event ≡ Some (world_in d)
  pub counts : Counts c (drain.turn p event ∷ []) d

-- nothing that contracts see has changed
pub record StaysIn (c d : ForwarderWorld) : Type 0 where
  pub world : world_in d ≡ world_in c
  pub plain : world_at d.plain ≡ world_at c.plain
  pub acts : acts_of d.plain ≡ acts_of c.plain
  pub passed : d.passed ≡ c.passed
  pub events : d.events ≡ c.events
  pub file : file_in d ≡ file_in c

-- the plain world did the act
pub record PlainActs (p : ℕ) (old new : Plain) : Type 0 where
  pub act : act_of (world_at old) p ≡ Some (world_at new)
  pub acts : acts_of new ≡ acts_of old ++ p ∷ []
  pub file : kept_file new ≡ kept_file old
  pub run : IsRun (kept_file new) (acts_of new) (world_at new)
  pub parties : party_count new ≡ length (kept_file new).parties

pub record PlainStays (old new : Plain) : Type 0 where
  pub world : world_at new ≡ world_at old
  pub acts : acts_of new ≡ acts_of old
  pub file : kept_file new ≡ kept_file old
