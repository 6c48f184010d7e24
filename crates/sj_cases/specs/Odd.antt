-- The lanes of two parties of which none was used.
use Rattle.std.specs.Prelude.{◌≡◌, List, [], ◌∷◌}
use Rattle.sj_lane.specs.declared.lane.Lanes.{Lanes}
use Rattle.sj_cases.specs.declared.odd_links.Breaks.{Breaks}
use Rattle.sj_cases.specs.declared.odd_links.Brings.{Brings}

-- no fault was met, and nothing was tried in vain
abbrev pub IsUnused : Brings → Type 0
IsUnused i = (i.vain ≡ 0) × (i.faults ≡ 0)

-- a party's lanes to and from two parties
pub record IsOdd (l : Lanes Breaks Brings) : Type 0 where
  pub first_out : Breaks
  pub second_out : Breaks
  pub outs : l.outs.items ≡ first_out ∷ second_out ∷ []
  pub first_faultless : first_out.faults ≡ 0
  pub second_faultless : second_out.faults ≡ 0
  pub first_in : Brings
  pub second_in : Brings
  pub ins : l.ins.items ≡ first_in ∷ second_in ∷ []
  pub first_unused : IsUnused first_in
  pub second_unused : IsUnused second_in

-- the lanes of two parties
pub record AreOdd (lanes : List (Lanes Breaks Brings)) : Type 0 where
  pub first : Lanes Breaks Brings
  pub second : Lanes Breaks Brings
  pub all : lanes ≡ first ∷ second ∷ []
  pub first_is : IsOdd first
  pub second_is : IsOdd second
