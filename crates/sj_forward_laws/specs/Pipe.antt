-- What is on its way to an end: from the taker's last record back to the sender's.
use Rattle.std.specs.Prelude.{suc, zero, ℕ, List, [], ◌++◌}
use Rattle.sj_base.specs.declared.EndId.{EndId}
use Rattle.sj_rules.specs.Record.{other_end}
use Rattle.sj_forward_rules.specs.Record.{SentAt, StateAt, FrameAt, stored}
use Rattle.sj_forward_laws.specs.Roads.{Chains, Road, inward, outward, start_of, goal_of, on_road, messages_in}

-- the frames of a road, in the lane that it takes
abbrev pub traffic : ((from to : ℕ) → List FrameAt) → Chains → Road → List FrameAt
traffic lanes c r = on_road r (lanes (start_of c r) (goal_of c r))

-- the parts at the hops up to that one, the last hop first
abbrev pub from_last : (ℕ → List SentAt) → ℕ → List SentAt
from_last part zero = part zero
from_last part (suc h) = part (suc h) ++ from_last part h

-- the parts at the hops below that one, the first hop first
abbrev pub from_first : (ℕ → List SentAt) → ℕ → List SentAt
from_first part zero = []
from_first part (suc h) = from_first part h ++ part h

module _ (lanes : (from to : ℕ) → List FrameAt) (c : Chains) (states : EndId → ℕ → StateAt) where
  -- what is stored at a record of the end, and then what comes to it
  abbrev pub in_part : EndId → ℕ → List SentAt
  in_part e h = stored (states e h) ++ messages_in (traffic lanes c (inward e h))

  -- what comes back to a record of the end
  abbrev pub out_part : EndId → ℕ → List SentAt
  out_part e h = messages_in (traffic lanes c (outward e h))

  -- all that is on its way to the end: at and towards its records, and then back towards the
  -- records of the other end
  abbrev pub pipe : EndId → List SentAt
  pipe e = from_last (in_part e) (c.top e) ++ from_first (out_part (other_end e)) (c.top (other_end e))
