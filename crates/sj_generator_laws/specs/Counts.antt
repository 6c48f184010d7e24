-- What is counted of a world.
use Rattle.std.specs.Prelude.{ℕ, ◌+◌, ◌*◌, length, sum_by}
use Rattle.sj_semantics.specs.World.{World}

-- of the generated file: its parties and sessions, and the messages and steps of its
-- run where each loop sends n
abbrev pub generated_parties : ℕ
generated_parties = 15

abbrev pub generated_sessions : ℕ
generated_sessions = 10

abbrev pub generated_messages : ℕ → ℕ
generated_messages n = 10 * n + 15

abbrev pub generated_steps : ℕ → ℕ
generated_steps n = 25 * n + 55

-- how many messages were sent on all ends
abbrev pub messages_in : World → ℕ
messages_in w = sum_by (λ z. length z.first.sent + length z.second.sent) w.sessions

-- how many steps all parties have done
abbrev pub steps_in : World → ℕ
steps_in w = sum_by (λ g. g.steps) w.parties
