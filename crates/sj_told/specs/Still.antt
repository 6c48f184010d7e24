-- How a party stands that can't act.
use Rattle.std.specs.Prelude.{ℕ, nat_lt, if◌then◌else◌}
use Rattle.sj_semantics.specs.declared.Want.{Want}
use Rattle.sj_semantics.specs.declared.Want.TheVariants as wants
use Rattle.sj_semantics.specs.declared.State.{State}
use Rattle.sj_semantics.specs.declared.State.TheVariants as states
use Rattle.sj_semantics.specs.declared.Limit.TheVariants as limits
use Rattle.sj_semantics.specs.Program.{limit_of_steps}

-- one that has steps left, by its next step; what no other party can hinder is never refused
abbrev pub still_by : Want → State
still_by wants.Ended = states.Ended
still_by (wants.Delegate e y) = states.AtLimit (limits.Hops y)
still_by (wants.Take e a) = states.Waits e
still_by (wants.Request n q) = states.AtLimit limits.Requests
still_by (wants.Accept n q) = states.WaitsOpen q
still_by wants.Local = states.Ready
still_by (wants.Send e m) = states.Ready
still_by (wants.Close e) = states.Ready

-- one that has none left
abbrev pub worn_by : Want → State
worn_by wants.Ended = states.Ended
worn_by _ = states.AtLimit limits.Steps

-- by its steps and its next one
abbrev pub still_state : ℕ → Want → State
still_state steps want = if nat_lt steps limit_of_steps then still_by want else worn_by want
