-- The workers of the parties of a run with seats, at its end, and the lines that they logged.
use Rattle.std.specs.Prelude.{◌≡◌, ℕ, Bool, true, false, List, [], map, length, slice_get, Some, None}
use Rattle.sj_base.specs.declared.EndId.{EndId}
use Rattle.sj_lang.specs.FileAt.{FileAt}
use Rattle.sj_lane.specs.declared.lane.OutLane.{Ghosts as OutLane}
use Rattle.sj_lane.specs.declared.lane.InLane.{Ghosts as InLane}
use Rattle.sj_lane.specs.Square.{AllJoined, IsSquare}
use Rattle.sj_node.specs.Starting.{BeginsWith, nothing_to_do}
use Rattle.sj_rules.specs.Log.{IsJoined, LineAt}
use Rattle.sj_run.specs.Workers.{AreNew, HasWorked, NoneStopped, logs_in}
use Rattle.sj_seat.specs.Counted.{Counted}
use Rattle.sj_seat.specs.Went.{SeatWork}
use Rattle.sj_seat.specs.declared.wish.OpenedSession.{OpenedSession}
use Rattle.sj_seat_laws.specs.Calls.{Call, SeatedAt}
use Rattle.sj_seat_laws.specs.SeatedStart.{seat_start}
use Rattle.sj_seats.specs.Calls.{OpenedAs}
use Rattle.sj_seats.specs.Openings.{protocol_in}
use Rattle.sj_work.specs.Views.{lanes_of, node_of, stop_of}
use Rattle.sj_work.specs.declared.worker.Stop.TheVariants as stops
use Rattle.sj_work.specs.declared.worker.Worker.{Worker}
use Rattle.sj_seat_run.specs.Asked.{protocols_in, protocols_of}

module _ {O I : Type 0} (outward : OutLane O) (inward : InLane I) where
  -- code played the party: its worker began with the file's first node, which had nothing to do of
  -- its own, and new lanes, and went by the calls of the code, from its start to where it was. The
  -- sessions that these calls opened are listed, in order, each as the protocol of its call
  pub record HasPlayed (file : FileAt) (tells : Bool) (p : ℕ) (w : Worker O I) : Type 0 where
    pub old : Worker O I
    pub begins : BeginsWith file p 0 (nothing_to_do file) (node_of old)
    pub idle : stop_of old ≡ None
    pub new : AreNew outward inward tells old
    pub calls : List Call
    pub seat : SeatedAt
    pub work : SeatWork outward inward file (seat_start file p calls) seat old w
    pub counts : Counted outward inward old w
    pub sessions : List OpenedSession
    pub asked : protocols_of calls ≡ protocols_in sessions

  -- code played the party, where it has a seat; where it has none it went by the file
  abbrev pub HasRun : FileAt → (looks : ℕ) → (tells seated : Bool) → ℕ → Worker O I → Type 0
  HasRun file looks tells false p w = HasWorked outward inward file looks tells p w
  HasRun file looks tells true p w = HasPlayed file tells p w

  -- the sessions that the party opened by code
  abbrev pub sessions_in : (file : FileAt) (looks : ℕ) (tells : Bool) (p : ℕ) (w : Worker O I) (seated : Bool) → HasRun file looks tells seated p w → List OpenedSession
  sessions_in file looks tells p w false h = []
  sessions_in file looks tells p w true h = h.sessions

  -- so did all parties, and their lanes are the two ends of each link
  pub record AllRan (joined : O → I → Type 0) (file : FileAt) (looks : ℕ) (tells : Bool) (seats : ℕ → Bool) (workers : List (Worker O I)) : Type 0 where
    pub count : length workers ≡ length file.parties
    pub square : IsSquare (map lanes_of workers)
    pub ends : AllJoined joined (map lanes_of workers)
    pub each : (p : ℕ) (w : Worker O I) → slice_get workers p ≡ Some w → HasRun file looks tells (seats p) p w

  -- as which protocol each session was opened: as it is listed of its party
  abbrev pub AreOpenedSo : (joined : O → I → Type 0) (file : FileAt) (looks : ℕ) (tells : Bool) (seats : ℕ → Bool) (workers : List (Worker O I)) → AllRan joined file looks tells seats workers → OpenedAs → Type 0
  AreOpenedSo joined file looks tells seats workers ran opened =
      (p : ℕ) (w : Worker O I) (at : slice_get workers p ≡ Some w) (e : EndId) → opened p e ≡ protocol_in (sessions_in file looks tells p w (seats p) (ran.each p w at)) e

  -- all parties ran, and these are the sessions that codes opened
  pub record AllRanSo (joined : O → I → Type 0) (file : FileAt) (looks : ℕ) (tells : Bool) (seats : ℕ → Bool) (workers : List (Worker O I)) (opened : OpenedAs) : Type 0 where
    pub ran : AllRan joined file looks tells seats workers
    pub so : AreOpenedSo joined file looks tells seats workers ran opened

  -- the lines are the joined logs of workers that ran over such lanes, of which none stopped at a
  -- fault, out of memory or as unfit
  pub record AreLoggedBy (joined : O → I → Type 0) (file : FileAt) (looks : ℕ) (tells : Bool) (seats : ℕ → Bool) (lines : List LineAt) : Type 0 where
    pub workers : List (Worker O I)
    pub ran : AllRan joined file looks tells seats workers
    pub faultless : NoneStopped workers stops.Fault
    pub remembers : NoneStopped workers stops.NoMemory
    pub fits : NoneStopped workers stops.Unfit
    pub joins : IsJoined (logs_in workers) lines

  -- so they are, and codes opened their sessions as these: as they asked for them
  pub record AreAskedBy (joined : O → I → Type 0) (file : FileAt) (looks : ℕ) (tells : Bool) (seats : ℕ → Bool) (lines : List LineAt) (opened : OpenedAs) : Type 0 where
    pub logged : AreLoggedBy joined file looks tells seats lines
    pub so : AreOpenedSo joined file looks tells seats logged.workers logged.ran opened
