-- What a world of forwarders does by the events of some relation between worlds.
use Rattle.std.specs.Prelude.{◌≡◌, ℕ, ◌-◌, ◌^◌, ⊤, List, ◌++◌}
use Rattle.sj_semantics.specs.Program.{Program}
use Rattle.sj_rules.specs.Party.{play_of}
use Rattle.sj_rules.specs.World.{Turn}
use Rattle.sj_forward.specs.declared.forwarder_world.ForwarderWorld.{ForwarderWorld}
use Rattle.sj_forward.specs.ForwarderWorld.{Counts, file_in, world_in}
use Rattle.sj_forward_rules.specs.Drain as drain
use Rattle.sj_forward_rules.specs.World.{WorldAt}

abbrev pub Leads : Type 1
Leads = WorldAt Program → List Turn → WorldAt Program → Type 0

-- it went on by turns of that relation
pub record GoesBy (R : Leads) (c d : ForwarderWorld) : Type 0 where
  pub turns : List Turn
  pub counts : Counts c turns d
  pub by : R (world_in c) turns (world_in d)

-- it went on by turns after which the relation goes on as from the beginning
pub record Ahead (R : Leads) (c d : ForwarderWorld) : Type 0 where
  pub turns : List Turn
  pub counts : Counts c turns d
  pub on : (ts : List Turn) (v : WorldAt Program) → R (world_in d) ts v → R (world_in c) (turns ++ ts) v

-- it went on by turns; each list of R from the one is those turns and then a list of S from the
-- other
pub record Leaves (R S : Leads) (c d : ForwarderWorld) : Type 0 where
  pub turns : List Turn
  pub counts : Counts c turns d
  pub rest_of : (ts : List Turn) (v : WorldAt Program) → R (world_in c) ts v → (rest : List Turn) × ((ts ≡ turns ++ rest) × S (world_in d) rest v)

-- whatever comes
abbrev pub Anything : Leads
Anything w ts v = ⊤

-- it went on by turns that are the first of each list of that relation
abbrev pub GoesFirst : Leads → ForwarderWorld → ForwarderWorld → Type 0
GoesFirst R c d = Leaves R Anything c d

-- it went on by turns that are the first of a list of that relation
pub record BreaksOff (R : Leads) (c d : ForwarderWorld) : Type 0 where
  pub turns : List Turn
  pub counts : Counts c turns d
  pub rest : List Turn
  pub last : WorldAt Program
  pub by : R (world_in c) (turns ++ rest) last

-- a run has fewer events
abbrev pub most_events : ℕ
most_events = 2 ^ 63

-- how many events are still possible
abbrev pub events_left : ForwarderWorld → ℕ
events_left c = most_events - c.events

-- the relations of a drain, for the file of a world of forwarders
abbrev pub Empties : ForwarderWorld → (p q : ℕ) → Leads
Empties c p q = drain.Empties (play_of (file_in c)) p q

abbrev pub EmptiesEach : ForwarderWorld → (p : ℕ) → List ℕ → Leads
EmptiesEach c p qs = drain.EmptiesEach (play_of (file_in c)) p qs

abbrev pub ActsOut : ForwarderWorld → (p : ℕ) → Leads
ActsOut c p = drain.ActsOut (play_of (file_in c)) p

-- the turn of a party among n
abbrev pub TakesTurn : ForwarderWorld → (n p : ℕ) → Leads
TakesTurn c n p = drain.TakesTurn (play_of (file_in c)) n p

abbrev pub TakeTurns : ForwarderWorld → (n : ℕ) → List ℕ → Leads
TakeTurns c n ps = drain.TakeTurns (play_of (file_in c)) n ps

abbrev pub IsRound : ForwarderWorld → (n : ℕ) → Leads
IsRound c n = drain.IsRound (play_of (file_in c)) n

abbrev pub IsDrained : ForwarderWorld → (n : ℕ) → Leads
IsDrained c n = drain.IsDrained (play_of (file_in c)) n
