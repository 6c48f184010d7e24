-- New lanes in memory.
use Rattle.std.specs.Prelude.{◌≡◌, ℕ, List, [], length}
use Rattle.std.specs.List.{AllByRecursion}
use Rattle.sj_lane.specs.declared.lane.Lanes.{Lanes}
use Rattle.sj_lane.specs.declared.mem.MemOut.{MemOut}
use Rattle.sj_lane.specs.declared.mem.MemIn.{MemIn}

-- nothing was pushed on it
pub record IsNewOut (o : MemOut) : Type 0 where
  pub pushed : o.pushed.items ≡ []
  pub waits : o.waiting.items ≡ []
  pub vain : o.vain ≡ 0

-- nothing was popped from it
pub record IsNewIn (i : MemIn) : Type 0 where
  pub popped : i.popped.items ≡ []
  pub waits : i.waiting.items ≡ []
  pub vain : i.vain ≡ 0

-- so many lanes to other parties
pub record AreNewOuts (n : ℕ) (outs : List MemOut) : Type 0 where
  pub size : length outs ≡ n
  pub each : AllByRecursion IsNewOut outs

-- so many lanes from other parties
pub record AreNewIns (n : ℕ) (ins : List MemIn) : Type 0 where
  pub size : length ins ≡ n
  pub each : AllByRecursion IsNewIn ins

-- a party's lanes, to and from so many parties
pub record IsNewRow (n : ℕ) (l : Lanes MemOut MemIn) : Type 0 where
  pub outs : AreNewOuts n l.outs.items
  pub ins : AreNewIns n l.ins.items

-- the lanes of so many parties, each to and from n
pub record AreNewRows (n count : ℕ) (lanes : List (Lanes MemOut MemIn)) : Type 0 where
  pub size : length lanes ≡ count
  pub each : AllByRecursion (IsNewRow n) lanes
