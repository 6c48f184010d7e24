-- The lanes of two parties which lose all frames, or give one.
use Rattle.std.specs.Prelude.{◌≡◌, List, [], ◌∷◌, length}
use Rattle.sj_lane.specs.declared.lane.Lanes.{Lanes}
use Rattle.sj_cases.specs.declared.forged_links.Loses.{Loses}
use Rattle.sj_cases.specs.declared.forged_links.Gives.{Gives}

-- a party's lanes to and from two parties, on which nothing was tried in vain
pub record HasTwo (l : Lanes Loses Gives) : Type 0 where
  pub outs : length l.outs.items ≡ 2
  pub first : Gives
  pub second : Gives
  pub ins : l.ins.items ≡ first ∷ second ∷ []
  pub first_vain : first.vain ≡ 0
  pub second_vain : second.vain ≡ 0

-- the lanes of two parties
pub record AreTwo (lanes : List (Lanes Loses Gives)) : Type 0 where
  pub first : Lanes Loses Gives
  pub second : Lanes Loses Gives
  pub all : lanes ≡ first ∷ second ∷ []
  pub first_has : HasTwo first
  pub second_has : HasTwo second
