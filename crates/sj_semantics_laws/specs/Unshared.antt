-- Each end is bound at one party at most, or on its way in one message; an end that is
-- still to come is neither.
use Rattle.std.specs.Prelude.{◌≡◌, ℕ, ◌+◌, ◌≤◌, ◌<◌, Bool, true, false, List, length, drop, count_by, sum_by, slice_get, Some, None}
use Rattle.sj_base.specs.declared.EndId.{EndId}
use Rattle.sj_base.specs.declared.Msg.{Msg}
use Rattle.sj_base.specs.declared.Msg.TheVariants as msgs
use Rattle.sj_semantics.specs.Ends.{EndAt, Session, is_end, is_same_side}
use Rattle.sj_semantics.specs.Requests.{Request, limit_of_requests, opened_number}
use Rattle.sj_semantics.specs.World.{World}

-- how many names the end has at a party
abbrev pub bindings_of : EndId → List (ℕ × EndId) → ℕ
bindings_of e ends = count_by (λ b. is_end e b.1) ends

-- the message names the end
abbrev pub names_end : EndId → Msg → Bool
names_end e (msgs.Sess s d k) = is_end e (record { sess = s; side = d })
names_end e _ = false

-- how many untaken messages name the end, of those that one end sent and another takes
abbrev pub carried_to : EndId → EndAt → EndAt → ℕ
carried_to e from to = count_by (λ x. names_end e x.msg) (drop (length to.takers) from.sent)

-- how many untaken messages of a session name the end
abbrev pub carried_in : EndId → Session → ℕ
carried_in e z = carried_to e z.first z.second + carried_to e z.second z.first

-- in how many ways the end is bound or on its way
abbrev pub claims_on : EndId → World → ℕ
claims_on e w = sum_by (λ g. bindings_of e g.ends) w.parties + sum_by (carried_in e) w.sessions

-- the end's session isn't opened yet, or it is the second end and wasn't accepted
pub data IsToCome (w : World) (e : EndId) : Type 0 where
  to_open : (p k : ℕ) → length (w.requests p) ≤ k → k < limit_of_requests → e.sess ≡ opened_number p k → IsToCome w e
  to_accept : (p k : ℕ) (r : Request) → slice_get (w.requests p) k ≡ Some r → r.second ≡ None → e.sess ≡ opened_number p k → is_same_side 1 e.side ≡ true → IsToCome w e

-- no end is bound or on its way twice, and none that is to come is
pub record IsUnshared (w : World) : Type 0 where
  pub once : (e : EndId) → claims_on e w ≤ 1
  pub to_come : (e : EndId) → IsToCome w e → claims_on e w ≡ 0
  pub few : (p : ℕ) → length (w.requests p) ≤ limit_of_requests
