-- What the lanes of a worker report and count, and that a lane stays the same lane.
use Rattle.std.proofs.Common.{◌≡◌, ℕ, ◌≤◌, List, Option}
use Rattle.sj_lang.specs.Place.{Place}
use Rattle.sj_rules.specs.Frames.{FrameAt}
use Rattle.sj_rules.specs.Work.{LostAt, told_more}
use Rattle.sj_lane.specs.declared.lane.OutLane.{Ghosts as OutLane}
use Rattle.sj_lane.specs.declared.lane.InLane.{Ghosts as InLane}
use Rattle.sj_work.specs.declared.worker.Stop.{Stop}
use Rattle.sj_work.specs.declared.worker.Worker.{Worker}
use Rattle.sj_work.specs.Causes.{Cause}
use Rattle.sj_work.specs.Counts.{Stood}
use Rattle.sj_work.specs.Went.{Went}
use Rattle.sj_work.specs.Worked.{Turned}

pub record LaneLaws (O I : Type 0) : Type 1 where
  pub outward : OutLane O
  pub inward : InLane I
  pub out_itself : (x : O) → outward.same x x
  pub out_later : (x y z : O) → outward.same x y → outward.same y z → outward.same x z
  pub in_itself : (x : I) → inward.same x x
  pub in_later : (x y z : I) → inward.same x y → inward.same y z → inward.same x z

abbrev pub laws : {O I : Type 0} → (outward : OutLane O) (inward : InLane I) (out_itself : (x : O) → outward.same x x)
    (out_later : (x y z : O) → outward.same x y → outward.same y z → outward.same x z)
    (in_itself : (x : I) → inward.same x x) (in_later : (x y z : I) → inward.same x y → inward.same y z → inward.same x z) → LaneLaws O I
laws outward inward out_itself out_later in_itself in_later = record {
  outward = outward;
  inward = inward;
  out_itself = out_itself;
  out_later = out_later;
  in_itself = in_itself;
  in_later = in_later;
}

module _ {O I : Type 0} (k : LaneLaws O I) where
  abbrev pub WentBy : Option (LostAt Place) → (old new : Worker O I) → Type 0
  WentBy lost old new = Went k.outward k.inward lost old new

  abbrev pub CauseBy : Option Stop → (looks : ℕ) → Option (LostAt Place) → (old new : Worker O I) → Type 0
  CauseBy stop looks lost old new = Cause k.outward k.inward stop looks lost old new

  abbrev pub TurnedBy : (looks : ℕ) → (old new : Worker O I) → Type 0
  TurnedBy looks old new = Turned k.outward k.inward looks old new

  -- what a push did to its lane, where these frames were pushed
  pub record OutDid (o p : O) (now : List (FrameAt Place)) : Type 0 where
    pub same : k.outward.same o p
    pub told : k.outward.pushed p ≡ told_more (k.outward.pushed o) now
    pub faults : k.outward.faults o ≤ k.outward.faults p
    pub vain : Stood (k.outward.vain o) (k.outward.vain p)

  -- what a pop did to its lane, where these frames were popped
  pub record InDid (i j : I) (came : List (FrameAt Place)) : Type 0 where
    pub same : k.inward.same i j
    pub told : k.inward.popped j ≡ told_more (k.inward.popped i) came
    pub faults : k.inward.faults i ≤ k.inward.faults j
    pub vain : Stood (k.inward.vain i) (k.inward.vain j)
