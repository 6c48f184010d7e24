-- Frames, those that posts make for a party, and the limits that they keep.
use Rattle.std.specs.Prelude.{ℕ, ⊤, Bool, true, ◌&&◌, ◌==◌, nat_le, nat_lt, List, map, filter}
use Rattle.sj_rules.specs.Limits.{limit_of_conns, limit_of_messages, clock_end}
use Rattle.sj_rules.specs.Opened.{is_openable}
use Rattle.sj_rules.specs.Record.{BodyAt, Carry, Fin, Claim, Signal, Ack, Give, Open, Mail}

-- a body with the clock of the event that sent it
pub record FrameAt (P : Type 0) : Type 0 where
  pub clock : ℕ
  pub body : BodyAt P

-- no end comes with the body
abbrev pub IsNoGive : {P : Type 0} → BodyAt P → Type 0
IsNoGive (Give e resend) = ⊥
IsNoGive (Carry to conn number taken msg) = ⊤
IsNoGive (Fin to conn number) = ⊤
IsNoGive (Claim of) = ⊤
IsNoGive (Signal to conn party taken) = ⊤
IsNoGive (Ack of conn) = ⊤
IsNoGive (Open sess) = ⊤

-- what of the posts goes to that party, as frames of that clock
abbrev pub frames_for : {P : Type 0} → ℕ → (clock : ℕ) → List (Mail P) → List (FrameAt P)
frames_for to clock posts = map (λ m. record { clock = clock; body = m.body }) (filter (λ m. to == m.party) posts)

-- the connection number and the message counts are within their limits, and each party that the
-- body names exists. A session that it opens is one that a party can open
abbrev pub is_within : {P : Type 0} → (parties : ℕ) → BodyAt P → Bool
is_within parties (Carry to conn number taken msg) = nat_le conn limit_of_conns && nat_le number limit_of_messages && nat_le taken limit_of_messages
is_within parties (Fin to conn number) = nat_le conn limit_of_conns && nat_le number limit_of_messages
is_within parties (Claim of) = true
is_within parties (Signal to conn party taken) = nat_le conn limit_of_conns && nat_lt party parties && nat_le taken limit_of_messages
is_within parties (Ack of conn) = nat_le conn limit_of_conns
is_within parties (Give e resend) = nat_le e.conn limit_of_conns && nat_lt e.peer parties && nat_le e.sent limit_of_messages && nat_le e.taken limit_of_messages
is_within parties (Open sess) = is_openable parties sess

-- the same, and the clock is below 2^62
abbrev pub is_proper : {P : Type 0} → (parties : ℕ) → FrameAt P → Bool
is_proper parties f = nat_lt f.clock clock_end && is_within parties f.body
