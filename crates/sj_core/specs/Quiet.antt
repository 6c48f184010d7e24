-- Where nothing is left to do.
use Rattle.std.specs.Prelude.{◌≡◌, ◌⊎◌, ℕ, ◌<◌, ◌≤◌, [], None}
use Rattle.sj_end.specs.declared.note.Event.{Event}
use Rattle.sj_end.specs.declared.note.Event.TheVariants as events
use Rattle.sj_rules.specs.Node.{Play, acts}
use Rattle.sj_rules.specs.World.{WorldAt}

-- no frame of n parties waits for the party, and it can't act
pub record IsIdleAmong {P Q : Type 0} (play : Play P Q) (n : ℕ) (w : WorldAt P Q) (p : ℕ) : Type 0 where
  pub empty : (from : ℕ) → from < n → w.lanes from p ≡ []
  pub still : acts play p (w.nodes p) ≡ None

-- the event is at a party, or comes from one, that isn't among n
abbrev pub IsAbroad : ℕ → Event → ℕ → Type 0
IsAbroad p events.Act n = n ≤ p
IsAbroad p (events.Deliver q) n = (n ≤ p) ⊎ (n ≤ q)
