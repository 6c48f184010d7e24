-- A lane in memory later is the same lane.
use Rattle.std.proofs.Common.{refl, sym, subst, ◌∙◌, List}
use Rattle.sj_lang.specs.Place.{Place}
use Rattle.sj_rules.specs.Frames.{FrameAt}
use Rattle.sj_lane.specs.declared.mem.MemOut.{MemOut}
use Rattle.sj_lane.specs.declared.mem.MemIn.{MemIn}
use Rattle.sj_lane.specs.Mem.{IsCarried, IsLeft, SameOut, SameIn, come}

pub out_itself : (x : MemOut) → SameOut x x
out_itself x = record { gone = λ xs h. h }

pub out_later : (x y z : MemOut) → SameOut x y → SameOut y z → SameOut x z
out_later x y z a b = record { gone = λ xs h. b.gone xs (a.gone xs h) }

pub in_itself : (x : MemIn) → SameIn x x
in_itself x = record { come = refl }

pub in_later : (x y z : MemIn) → SameIn x y → SameIn y z → SameIn x z
in_later x y z a b = record { come = b.come ∙ a.come }

pub carried_later : (o p : MemOut) (i j : MemIn) → IsCarried o i → SameOut o p → SameIn i j → IsCarried p j
carried_later o p i j h a b = a.gone (come j) (subst (λ (xs : List (FrameAt Place)). IsLeft o xs) (sym b.come) h)
