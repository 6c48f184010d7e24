-- What a history that leaves nothing to do, and the core world to which it leads, report of the plain
-- world at its end.
use Rattle.std.specs.Prelude.{◌≡◌, ℕ, ◌<◌, ◌≤◌, List, map, length, slice_get, Some, unwrap_or}
use Rattle.sj_base.specs.declared.EndId.{EndId}
use Rattle.sj_lang.specs.FileAt.{FileAt}
use Rattle.sj_lang.specs.Place.{Place}
use Rattle.sj_semantics.specs.declared.State.TheVariants.{Ready}
use Rattle.sj_semantics.specs.Ends.{end_at}
use Rattle.sj_semantics.specs.Program.{Program}
use Rattle.sj_semantics.specs.State.{opened_in}
use Rattle.sj_rules.specs.Limits.{first_opened}
use Rattle.sj_rules.specs.Log.{LineAt}
use Rattle.sj_rules.specs.Node.{NodeAt}
use Rattle.sj_rules.specs.Party.{nobody}
use Rattle.sj_rules.specs.Record.{Held, HeldAt}
use Rattle.sj_rules.specs.World.{WorldAt}
use Rattle.sj_rules_laws.specs.TiedNotes.{sent_told, taken_told, told_in}
use Rattle.sj_told.specs.declared.told.Stand.{Stand}
use Rattle.sj_told.specs.declared.told.ToldEnd.{ToldEnd}
use Rattle.sj_told.specs.Counts.{messages_sent, sent_count}
use Rattle.sj_told.specs.Lines.{AreToldBy}
use Rattle.sj_told.specs.Told.{AreEnds}
use Rattle.sj_seat_laws.specs.Calls.{SeatedAt, place_held}
use Rattle.sj_seat_laws.specs.SeatedPlay.{Player}
use Rattle.sj_seat_laws.specs.SeatsHeadline.{IsSeatsHeadline}
use Rattle.sj_seat_laws.specs.SeatsStart.{Callers}
use Rattle.sj_seat_laws.specs.SeatsWorld.{SeatsWorld, player_by, seat_of}
use Rattle.sj_seat_told_laws.specs.SeatsHistory.{acts_of}
use Rattle.sj_seat_told_laws.specs.SeatsOpened.{sessions_told, unnamed}
use Rattle.sj_seat_told_laws.specs.SeatsStands.{AreSeatsStands, player_state}
use Rattle.sj_seat_told_laws.specs.StillSeats.{IsStandOf}

-- the end is Held there, at that place
abbrev pub IsHeldAt : NodeAt Place Player → EndId → Place → Type 0
IsHeldAt n e place = (h : HeldAt Place) × (n.main e ≡ Some (Held h)) × (h.end.place ≡ place)

pub record IsSeatsEnd (file : FileAt) (calls : Callers) (lines : List LineAt) (core : WorldAt Place Player) (t : SeatsWorld) : Type 0 where
  -- its acts lead to that plain world, and have the headline
  pub headline : IsSeatsHeadline file calls (acts_of lines) t
  -- the Sent notes of each end are what was sent there, and the Took notes report who took on it
  pub sent : (e : EndId) → (end_at t.world.sessions e).sent ≡ told_in (sent_told e) lines
  pub takers : (e : EndId) → (end_at t.world.sessions e).takers ≡ map (λ x. x.by) (told_in (taken_told e) lines)
  pub ends : (ends : List ToldEnd) → AreToldBy lines (length file.connects) ends → AreEnds file t.world ends
  -- there are as many Sent notes as messages
  pub count : messages_sent t.world ≡ sent_count lines
  -- each connection has its session
  pub sessions : length file.connects ≤ length t.world.sessions
  -- each node has the program, or the code, that its party has there
  pub players : (p : ℕ) → (core.nodes p).program ≡ player_by (seat_of t.seats p) (unwrap_or (slice_get t.world.parties p) nobody)
  -- the parties stand as those of the nodes do
  pub stands : (stands : List Stand) → length stands ≡ length file.parties → ((p : ℕ) (s : Stand) → slice_get stands p ≡ Some s → IsStandOf (core.nodes p).program s) → AreSeatsStands t stands
  -- and none is ready
  pub resting : (p : ℕ) (g : Program) → slice_get t.world.parties p ≡ Some g → player_state t.world p g (seat_of t.seats p) ≡ Ready → ⊥
  -- a code's node has what the code holds, and nothing else of the sessions of connections
  pub code_held : (p : ℕ) (s : SeatedAt) → seat_of t.seats p ≡ Some s → (e : EndId) (place : Place) → place_held s.ends e ≡ Some place → IsHeldAt (core.nodes p) e place
  pub node_held : (p : ℕ) (s : SeatedAt) → seat_of t.seats p ≡ Some s → (e : EndId) (h : HeldAt Place) → e.side < 2 → e.sess < first_opened → (core.nodes p).main e ≡ Some (Held h) → place_held s.ends e ≡ Some h.end.place
  -- the Request notes of each party are the sessions that it opened, and the Accept notes report
  -- which of them were accepted
  pub opened : map unnamed (opened_in t.world) ≡ sessions_told lines (length file.parties) 0
