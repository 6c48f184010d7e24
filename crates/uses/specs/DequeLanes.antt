-- New lanes over deques.
use Rattle.std.specs.Prelude.{◌≡◌, ℕ, List, Vec, length}
use Rattle.std.specs.List.{AllByRecursion}
use Rattle.std.specs.declared.alloc.Global.{Global}
use Rattle.sj_lane.specs.declared.lane.Lanes.{Lanes}
use Rattle.uses.specs.declared.deques.DequeOut.{DequeOut}
use Rattle.uses.specs.declared.deques.DequeIn.{DequeIn}

-- one lane to each of so many parties
abbrev pub AreOuts : ℕ → Vec DequeOut Global → Type 0
AreOuts n outs = length outs.items ≡ n

-- nothing was looked for in vain
abbrev pub IsNewIn : DequeIn → Type 0
IsNewIn i = i.vain ≡ 0

-- one new lane from each of so many
pub record AreNewIns (n : ℕ) (ins : Vec DequeIn Global) : Type 0 where
  pub size : length ins.items ≡ n
  pub each : AllByRecursion IsNewIn ins.items

-- the lanes of a party among so many
pub record IsNewRow (n : ℕ) (l : Lanes DequeOut DequeIn) : Type 0 where
  pub outs : AreOuts n l.outs
  pub ins : AreNewIns n l.ins

-- so many rows of lanes to n parties each
pub record AreOutRows (n count : ℕ) (rows : List (Vec DequeOut Global)) : Type 0 where
  pub size : length rows ≡ count
  pub each : AllByRecursion (AreOuts n) rows

-- so many columns of new lanes from n parties each
pub record AreInColumns (n count : ℕ) (columns : List (Vec DequeIn Global)) : Type 0 where
  pub size : length columns ≡ count
  pub each : AllByRecursion (AreNewIns n) columns

-- the lanes of so many parties among n
pub record AreNewRows (n count : ℕ) (lanes : List (Lanes DequeOut DequeIn)) : Type 0 where
  pub size : length lanes ≡ count
  pub each : AllByRecursion (IsNewRow n) lanes
