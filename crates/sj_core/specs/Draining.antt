-- What a world of nodes does by the events of some relation between worlds.
use Rattle.std.specs.Prelude.{◌≡◌, ℕ, ◌-◌, max, ⊤, List, ◌++◌, map, length}
use Rattle.sj_lang.specs.Place.{Place}
use Rattle.sj_semantics.specs.Program.{Program}
use Rattle.sj_end.specs.declared.note.Event.{Event}
use Rattle.sj_rules.specs.Drain as drain
use Rattle.sj_rules.specs.History.{turn_of}
use Rattle.sj_rules.specs.Log.{LineAt}
use Rattle.sj_rules.specs.Party.{play_of}
use Rattle.sj_rules.specs.World.{Turn, WorldAt}
use Rattle.sj_rules_laws.specs.Limits.{limit_of_events}
use Rattle.sj_core.specs.declared.node_world.NodeWorld.{NodeWorld}
use Rattle.sj_core.specs.NodeWorld.{Steps, file_in, history_in, world_in}
use Rattle.sj_core.specs.Views.{event_at}

abbrev pub Leads : Type 1
Leads = WorldAt Place Program → List Turn → WorldAt Place Program → Type 0

-- it went on by lines whose events are of that relation
pub record GoesBy (R : Leads) (c d : NodeWorld) : Type 0 where
  pub lines : List LineAt
  pub listed : history_in d ≡ history_in c ++ lines
  pub by : R (world_in c) (map turn_of lines) (world_in d)

-- it went on by lines after which the relation goes on as from the beginning
pub record Ahead (R : Leads) (c d : NodeWorld) : Type 0 where
  pub lines : List LineAt
  pub listed : history_in d ≡ history_in c ++ lines
  pub on : (ts : List Turn) (v : WorldAt Place Program) → R (world_in d) ts v → R (world_in c) (map turn_of lines ++ ts) v

-- it went on by lines; each list of R from the one is their events and then a list of S from the
-- other
pub record Leaves (R S : Leads) (c d : NodeWorld) : Type 0 where
  pub lines : List LineAt
  pub listed : history_in d ≡ history_in c ++ lines
  pub rest_of : (ts : List Turn) (v : WorldAt Place Program) → R (world_in c) ts v → (rest : List Turn) × ((ts ≡ map turn_of lines ++ rest) × S (world_in d) rest v)

-- whatever comes
abbrev pub Anything : Leads
Anything w ts v = ⊤

-- it went on by lines, whose events are the first of each list of that relation
abbrev pub GoesFirst : Leads → NodeWorld → NodeWorld → Type 0
GoesFirst R c d = Leaves R Anything c d

-- it went on by lines, whose events are the first of a list of that relation
pub record BreaksOff (R : Leads) (c d : NodeWorld) : Type 0 where
  pub lines : List LineAt
  pub listed : history_in d ≡ history_in c ++ lines
  pub rest : List Turn
  pub last : WorldAt Place Program
  pub by : R (world_in c) (map turn_of lines ++ rest) last

-- a step of that party by that event
pub record Tried (c : NodeWorld) (p : ℕ) (event : Event) (d : NodeWorld) : Type 0 where
  pub line : LineAt
  pub steps : Steps c line d
  pub turn : turn_of line ≡ drain.turn p (event_at event)

-- how many events are still possible
abbrev pub events_left : NodeWorld → ℕ
events_left c = limit_of_events - length (history_in c)

-- the relations of a drain, for the file of a world of nodes
abbrev pub Empties : NodeWorld → (p q : ℕ) → Leads
Empties c p q = drain.Empties (play_of (file_in c)) max p q

abbrev pub EmptiesEach : NodeWorld → (p : ℕ) → List ℕ → Leads
EmptiesEach c p qs = drain.EmptiesEach (play_of (file_in c)) max p qs

abbrev pub ActsOut : NodeWorld → (p : ℕ) → Leads
ActsOut c p = drain.ActsOut (play_of (file_in c)) max p

-- the turn of a party among n
abbrev pub TakesTurn : NodeWorld → (n p : ℕ) → Leads
TakesTurn c n p = drain.TakesTurn (play_of (file_in c)) max n p

abbrev pub TakeTurns : NodeWorld → (n : ℕ) → List ℕ → Leads
TakeTurns c n ps = drain.TakeTurns (play_of (file_in c)) max n ps

abbrev pub IsRound : NodeWorld → (n : ℕ) → Leads
IsRound c n = drain.IsRound (play_of (file_in c)) max n

abbrev pub IsDrained : NodeWorld → (n : ℕ) → Leads
IsDrained c n = drain.IsDrained (play_of (file_in c)) max n
