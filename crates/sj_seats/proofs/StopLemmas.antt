-- What stops a node isn't that it is out of memory or unfit, as in sj_core.
use Rattle.std.proofs.Common.{◌≡◌, ℕ, nat_lt, Bool, true, false, if◌then◌else◌, List, Option, Some, None, subst}
use Rattle.sj_base.specs.declared.EndId.{EndId}
use Rattle.sj_semantics.specs.declared.Want.{Want}
use Rattle.sj_semantics.specs.declared.Want.TheVariants as wants
use Rattle.sj_table.specs.declared.table.Spot.{Spot}
use Rattle.sj_rules.specs.Halts.{is_delegated_enough, is_empty, lacks_message}
use Rattle.sj_rules.specs.Record.{MainAt}
use Rattle.sj_node.specs.declared.node.Node.{Node}
use Rattle.sj_node.specs.declared.refusal.Halt.{Halt}
use Rattle.sj_node.specs.declared.refusal.Halt.TheVariants as halts
use Rattle.sj_node.specs.Halts.{hold_up, names_awaited, stop_by, stop_wanting}
use Rattle.sj_node.specs.Node.{offers_of, requests_of, steps_of, node_halt, wants_of}
use Rattle.sj_node.specs.Slots.{mains_in}
use Rattle.sj_core.specs.Refusals.{IsStop}

-- what stops a node isn't that it is out of memory
stop_if : (b : Bool) (k h : Halt) → IsStop k → (if b then Some k else None) ≡ Some h → IsStop h
stop_if true k h stop is = let same : k ≡ h = cc in subst IsStop same stop
stop_if false k h stop is = absurd (cc is)

stop_unless : (b : Bool) (k h : Halt) → IsStop k → (if b then None else Some k) ≡ Some h → IsStop h
stop_unless true k h stop is = absurd (cc is)
stop_unless false k h stop is = let same : k ≡ h = cc in subst IsStop same stop

stop_up : (main : EndId → Option (MainAt Spot)) (requests : ℕ) (offers : ℕ → List ℕ) (want : Want) (h : Halt) → hold_up main requests offers want ≡ Some h → IsStop h
stop_up main requests offers wants.Local h is = absurd (cc is)
stop_up main requests offers (wants.Send e m) h is = absurd (cc is)
stop_up main requests offers (wants.Delegate e y) h is = stop_if (is_delegated_enough (main y)) halts.AtLimit h tt is
stop_up main requests offers (wants.Take e a) h is = stop_if (lacks_message (main e)) halts.Waits h tt is
stop_up main requests offers (wants.Close e) h is = absurd (cc is)
stop_up main requests offers (wants.Request q to) h is = stop_unless (nat_lt requests 100) halts.AtLimit h tt is
stop_up main requests offers (wants.Accept q from) h is = stop_if (is_empty (offers from)) halts.Waits h tt is
stop_up main requests offers wants.Ended h is = absurd (cc is)

stop_among : (low named : Bool) (up : Option Halt) (h : Halt) → ((k : Halt) → up ≡ Some k → IsStop k) → (if low then (if named then Some halts.Waits else up) else Some halts.AtLimit) ≡ Some h → IsStop h
stop_among true true up h held is = stop_if true halts.Waits h tt is
stop_among true false up h held is = held h is
stop_among false named up h held is = stop_if true halts.AtLimit h tt is

stop_wants : (main : EndId → Option (MainAt Spot)) (requests : ℕ) (offers : ℕ → List ℕ) (steps : ℕ) (want : Want) (h : Halt) → stop_wanting main requests offers steps want ≡ Some h → IsStop h
stop_wants main requests offers steps want h is = stop_among (nat_lt steps 10000) (names_awaited main want) (hold_up main requests offers want) h (stop_up main requests offers want) is

stop_is : (main : EndId → Option (MainAt Spot)) (requests : ℕ) (offers : ℕ → List ℕ) (steps : ℕ) (want : Want) (h : Halt) → stop_by main requests offers steps want ≡ Some h → IsStop h
stop_is main requests offers steps wants.Local h is = stop_wants main requests offers steps wants.Local h is
stop_is main requests offers steps (wants.Send e m) h is = stop_wants main requests offers steps (wants.Send e m) h is
stop_is main requests offers steps (wants.Delegate e y) h is = stop_wants main requests offers steps (wants.Delegate e y) h is
stop_is main requests offers steps (wants.Take e a) h is = stop_wants main requests offers steps (wants.Take e a) h is
stop_is main requests offers steps (wants.Close e) h is = stop_wants main requests offers steps (wants.Close e) h is
stop_is main requests offers steps (wants.Request q to) h is = stop_wants main requests offers steps (wants.Request q to) h is
stop_is main requests offers steps (wants.Accept q from) h is = stop_wants main requests offers steps (wants.Accept q from) h is
stop_is main requests offers steps wants.Ended h is = stop_if true halts.Ended h tt is

-- so it is for a node
pub stops_so : (n : Node) (h : Halt) → node_halt n ≡ Some h → IsStop h
stops_so n h is = stop_is (mains_in n.mains.items) (requests_of n) (offers_of n) (steps_of n) (wants_of n) h is
