-- Lines whose acts are done in the plain world.
use Rattle.std.specs.Prelude.{◌≡◌, ℕ, ⊤}
use Rattle.sj_semantics.specs.declared.State.TheVariants as states
use Rattle.sj_semantics.specs.State.{state_of}
use Rattle.sj_semantics.specs.World.{World}
use Rattle.sj_rules.specs.World.{Event, Act, Deliver}

-- the party is ready, where the event is an act of it
abbrev pub IsReadyFor : World → Event → ℕ → Type 0
IsReadyFor w Act p = state_of w p ≡ states.Ready
IsReadyFor w (Deliver q) p = ⊤
