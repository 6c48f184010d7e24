-- Frames in which no end goes.
use Rattle.std.specs.Prelude.{List}
use Rattle.std.specs.List.{AllByRecursion}
use Rattle.sj_rules.specs.Frames.{FrameAt, IsNoGive}

-- none of them is a Give
abbrev pub HasNoGive : {P : Type 0} → List (FrameAt P) → Type 0
HasNoGive frames = AllByRecursion (λ f. IsNoGive f.body) frames
