-- Runs, and the end of a file.
use Rattle.std.specs.Prelude.{◌≡◌, ℕ, zero, suc, ◌+◌, ◌*◌, List, [], ◌∷◌, length, Option, Some, None, option_and_then}
use Rattle.sj_lang.specs.FileAt.{FileAt}
use Rattle.sj_semantics.specs.World.{World, act_of, start_of}
use Rattle.sj_semantics.specs.Program.{limit_of_steps}

-- the world after the acts of these parties, one after another, where each could act
abbrev pub after_acts : World → List ℕ → Option World
after_acts w [] = Some w
after_acts w (p ∷ ps) = option_and_then (λ v. after_acts v ps) (act_of w p)

-- these acts lead from the start of the file to that world
abbrev pub IsRun : FileAt → List ℕ → World → Type 0
IsRun file ps w = after_acts (start_of file) ps ≡ Some w

-- the world itself where there is no next one, else what comes of the next one
abbrev pub or_on : (World → World) → World → Option World → World
or_on onward w None = w
or_on onward w (Some v) = onward v

-- the world after the party has acted as long as it is ready, n times at most
unfoldable pub as_long_as_ready : ℕ → ℕ → World → World
as_long_as_ready zero p w = w
as_long_as_ready (suc n) p w = or_on (as_long_as_ready n p) w (act_of w p)

-- k parties, from number p on, each act as long as they are ready
unfoldable pub turn_of_each : ℕ → ℕ → World → World
turn_of_each zero p w = w
turn_of_each (suc k) p w = turn_of_each k (p + 1) (as_long_as_ready limit_of_steps p w)

-- n rounds of all parties in file order
unfoldable pub rounds : ℕ → World → World
rounds zero w = w
rounds (suc n) w = rounds n (turn_of_each (length w.parties) 0 w)

-- each round but the last has an act, and a party's steps are limited
unfoldable pub end_of : FileAt → World
end_of file = rounds (limit_of_steps * length file.parties) (start_of file)
