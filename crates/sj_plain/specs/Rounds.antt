-- How many steps are left, and what a refusal to act says.
use Rattle.std.specs.Prelude.{◌≡◌, ℕ, ◌-◌, Bool, true, false, sum_by}
use Rattle.sj_semantics.specs.declared.State.{State}
use Rattle.sj_semantics.specs.declared.State.TheVariants as states
use Rattle.sj_semantics.specs.State.{is_at_limit}
use Rattle.sj_semantics.specs.World.{World}
use Rattle.sj_semantics.specs.Program.{limit_of_steps}
use Rattle.sj_plain.specs.declared.halt.Halt.{Halt}
use Rattle.sj_plain.specs.declared.halt.Halt.TheVariants as halts

-- the steps that all parties have left
abbrev pub steps_left : World → ℕ
steps_left w = sum_by (λ g. limit_of_steps - g.steps) w.parties

-- where it waits for a message, or for a session
abbrev pub is_waiting : State → Bool
is_waiting (states.Waits e) = true
is_waiting (states.WaitsOpen q) = true
is_waiting _ = false

-- the party stands as the refusal says; out of memory comes to a ready party alone
abbrev pub Shows : State → Halt → Type 0
Shows state halts.Waits = is_waiting state ≡ true
Shows state halts.Ended = state ≡ states.Ended
Shows state halts.AtLimit = is_at_limit state ≡ true
Shows state halts.NoMemory = state ≡ states.Ready
