-- What became of a guest by what its code asked for.
use Rattle.std.specs.Prelude.{◌≡◌, List, ◌++◌, length}
use Rattle.sj_lang.specs.FileAt.{FileAt}
use Rattle.sj_lane.specs.declared.lane.OutLane.{Ghosts as OutLane}
use Rattle.sj_lane.specs.declared.lane.InLane.{Ghosts as InLane}
use Rattle.sj_node.specs.Reading.{parties_of}
use Rattle.sj_seat_laws.specs.Calls.{Call}
use Rattle.sj_seat.specs.Counted.{Counted}
use Rattle.sj_seat.specs.Views.{node_of, worker_of}
use Rattle.sj_seat.specs.Went.{Keeps, Went}
use Rattle.sj_seat.specs.declared.guest.Guest.{Guest}
use Rattle.sj_seat.specs.declared.wish.OpenedSession.{OpenedSession}
use Rattle.sj_seat_run.specs.Asked.{protocols_in, protocols_of}

module _ {O I G : Type 0} (outward : OutLane O) (inward : InLane I) where
  -- its code made some calls, whatever it makes later, and went by them
  pub record Played (old new : Guest O I G) : Type 0 where
    pub calls : List Call → List Call
    pub went : (file : FileAt) (rest : List Call) → length file.parties ≡ parties_of (node_of old) → Went outward inward file (calls rest) rest old new
    pub keeps : Keeps (node_of old) (node_of new)
    pub counts : Counted outward inward (worker_of old) (worker_of new)

  -- so it did, and the sessions that its calls opened then were listed, in order: each as the
  -- protocol of its call
  pub record PlayedSo (old new : Guest O I G) (before after : List OpenedSession) : Type 0 where
    pub played : Played old new
    pub sessions : List OpenedSession
    pub listed : after ≡ before ++ sessions
    pub asked : (rest : List Call) → protocols_of (played.calls rest) ≡ protocols_in sessions ++ protocols_of rest

  -- no call was made, whatever its code calls later
  pub record Attends (old new : Guest O I G) : Type 0 where
    pub went : (file : FileAt) (rest : List Call) → length file.parties ≡ parties_of (node_of old) → Went outward inward file rest rest old new
    pub keeps : Keeps (node_of old) (node_of new)
    pub counts : Counted outward inward (worker_of old) (worker_of new)
