-- The parties of a run, each by the file or by code: before any event, and at the end.
use Rattle.std.specs.Prelude.{◌≡◌, ℕ, Bool, true, false, List, [], length, map, slice_get, Some, None}
use Rattle.std.specs.Global.{Vec}
use Rattle.sj_lang.specs.FileAt.{FileAt}
use Rattle.sj_lane.specs.declared.lane.Lanes.{Lanes}
use Rattle.sj_lane.specs.declared.lane.OutLane.{Ghosts as OutLane}
use Rattle.sj_lane.specs.declared.lane.InLane.{Ghosts as InLane}
use Rattle.sj_node.specs.Reading.{table_of}
use Rattle.sj_node.specs.Starting.{Begins, BeginsWith, nothing_to_do}
use Rattle.sj_seat_laws.specs.SeatedStart.{connected_ends, openings_of}
use Rattle.sj_seat.specs.Views.{calls_of, ends_of, may_of, worker_of}
use Rattle.sj_table.specs.declared.table.Table.{Table}
use Rattle.sj_work.specs.Views.{lanes_of, node_of, stop_of}
use Rattle.sj_work.specs.Worked.{Worked}
use Rattle.sj_work.specs.declared.worker.Worker.{Worker}
use Rattle.sj_seat.specs.declared.guest.Guest.{Guest}
use Rattle.sj_seat.specs.declared.wish.OpenedSession.{OpenedSession}
use Rattle.sj_seat_run.specs.Played.{PlayedSo}
use Rattle.sj_seat_run.specs.declared.runners.Runner.{Runner}
use Rattle.sj_seat_run.specs.declared.runners.Runner.TheVariants.{Coded, Written}

-- the sessions listed of each party
abbrev pub lists_of : List (Vec OpenedSession) → List (List OpenedSession)
lists_of all = map (λ (v : Vec OpenedSession). v.items) all

module _ {O I G C : Type 0} where
  -- the party's worker
  abbrev pub worker_at : Runner O I G C → Worker O I
  worker_at (Written w) = w
  worker_at (Coded a) = worker_of a.guest

  -- the sessions that its code opened, as they are listed
  abbrev pub opened_at : Runner O I G C → List OpenedSession
  opened_at (Written w) = []
  opened_at (Coded a) = a.opened.items

  -- code plays the party
  abbrev pub is_coded : Runner O I G C → Bool
  is_coded (Written w) = false
  is_coded (Coded a) = true

-- a worker that goes by the file, before any event, with these lanes
pub record IsFirstWorker {O I : Type 0} (file : FileAt) (t : Table) (p : ℕ) (own : Lanes O I) (w : Worker O I) : Type 0 where
  pub begins : Begins file p 0 (node_of w)
  pub table : table_of (node_of w) ≡ t
  pub lanes : lanes_of w ≡ own
  pub idle : stop_of w ≡ None

-- a party that code plays, before any event, with these lanes
pub record IsFirstGuest {O I G : Type 0} (file : FileAt) (t : Table) (p : ℕ) (own : Lanes O I) (g : Guest O I G) : Type 0 where
  pub begins : BeginsWith file p 0 (nothing_to_do file) (node_of (worker_of g))
  pub ends : ends_of g ≡ connected_ends file p
  pub calls : calls_of g ≡ 0
  pub may : may_of g ≡ openings_of file (slice_get file.parties p)
  pub lanes : lanes_of (worker_of g) ≡ own
  pub idle : stop_of (worker_of g) ≡ None

module _ {O I G C : Type 0} (file : FileAt) (t : Table) where
  -- the party before any event, of which no session is listed
  abbrev pub HasBegun : ℕ → Lanes O I → Runner O I G C → Type 0
  HasBegun p own (Written w) = IsFirstWorker file t p own w
  HasBegun p own (Coded a) = IsFirstGuest file t p own a.guest × (a.opened.items ≡ [])

  -- so many parties, each with the lanes of its number, and those with a code that have a seat
  pub record AreSeated (seats : ℕ → Bool) (lanes : List (Lanes O I)) (many : ℕ) (runners : List (Runner O I G C)) : Type 0 where
    pub count : length runners ≡ many
    pub each : (p : ℕ) (c : Runner O I G C) → slice_get runners p ≡ Some c → (own : Lanes O I) × (slice_get lanes p ≡ Some own) × HasBegun p own c
    pub coded : (p : ℕ) (c : Runner O I G C) → slice_get runners p ≡ Some c → is_coded c ≡ seats p

module _ {O I G C : Type 0} (outward : OutLane O) (inward : InLane I) where
  -- a party that goes by the file worked, and one that code plays went by what that asked for
  abbrev pub HasTakenPart : (looks : ℕ) → (old new : Runner O I G C) → Type 0
  HasTakenPart looks (Written w) (Written x) = Worked outward inward looks w x
  HasTakenPart looks (Written w) (Coded b) = ⊥
  HasTakenPart looks (Coded a) (Written x) = ⊥
  HasTakenPart looks (Coded a) (Coded b) = PlayedSo outward inward a.guest b.guest a.opened.items b.opened.items
