-- An act of a party, in a world to which lines lead, is illegal exactly where its node halts for a
-- cause other than memory.
use Rattle.std.proofs.Common.{◌≡◌, ℕ, ◌+◌, max, nat_lt, Bool, true, false, if◌then◌else◌, length, slice_get, List, Option, Some, None, Result, Err, option_map, refl, ap, sym, ◌∙◌, subst}
use Rattle.sj_base.specs.declared.EndId.{EndId}
use Rattle.sj_semantics.specs.declared.Want.{Want}
use Rattle.sj_semantics.specs.declared.Want.TheVariants as wants
use Rattle.sj_table.specs.declared.table.Spot.{Spot}
use Rattle.sj_table.specs.Spots.{place_in}
use Rattle.sj_rules.specs.Halts.{is_delegated_enough, is_empty, lacks_message}
use Rattle.sj_rules.specs.Node.{acts}
use Rattle.sj_rules.specs.Party.{play_of}
use Rattle.sj_rules.specs.Record.{MainAt}
use Rattle.sj_rules.specs.World as rules
use Rattle.sj_rules.specs.World.{after_event, happens}
use Rattle.sj_node.specs.declared.node.Node.{Node}
use Rattle.sj_node.specs.declared.refusal.Halt.{Halt}
use Rattle.sj_node.specs.declared.refusal.Halt.TheVariants as halts
use Rattle.sj_node.specs.Halts.{hold_up, names_awaited, stop_by, stop_wanting}
use Rattle.sj_node.specs.Node.{act_of, offers_of, requests_of, spot_node, steps_of, node_halt, wants_of}
use Rattle.sj_node.specs.Slots.{mains_in}
use Rattle.sj_core.specs.declared.node_world.NodeWorld.{NodeWorld}
use Rattle.sj_core.specs.NodeWorld.{IsLed, file_in, nodes_in, world_in}
use Rattle.sj_core.specs.Refusals.{IsStop}
use Rattle.sj_core.proofs.HaltLemmas.{halted}
use Rattle.sj_core.proofs.UnfitLemmas.{acts_here, here, never_unfit}

-- what stops a node isn't that it is out of memory
stop_if : (b : Bool) (k h : Halt) → IsStop k → (if b then Some k else None) ≡ Some h → IsStop h
stop_if true k h stop is = let same : k ≡ h = cc in subst IsStop same stop
stop_if false k h stop is = absurd (cc is)

stop_unless : (b : Bool) (k h : Halt) → IsStop k → (if b then None else Some k) ≡ Some h → IsStop h
stop_unless true k h stop is = absurd (cc is)
stop_unless false k h stop is = let same : k ≡ h = cc in subst IsStop same stop

stop_up : (main : EndId → Option (MainAt Spot)) (requests : ℕ) (offers : ℕ → List ℕ) (want : Want) (h : Halt) → hold_up main requests offers want ≡ Some h → IsStop h
stop_up main requests offers wants.Local h is = absurd (cc is)
stop_up main requests offers (wants.Send e m) h is = absurd (cc is)
stop_up main requests offers (wants.Delegate e y) h is = stop_if (is_delegated_enough (main y)) halts.AtLimit h tt is
stop_up main requests offers (wants.Take e a) h is = stop_if (lacks_message (main e)) halts.Waits h tt is
stop_up main requests offers (wants.Close e) h is = absurd (cc is)
stop_up main requests offers (wants.Request q to) h is = stop_unless (nat_lt requests 100) halts.AtLimit h tt is
stop_up main requests offers (wants.Accept q from) h is = stop_if (is_empty (offers from)) halts.Waits h tt is
stop_up main requests offers wants.Ended h is = absurd (cc is)

stop_among : (low named : Bool) (up : Option Halt) (h : Halt) → ((k : Halt) → up ≡ Some k → IsStop k) → (if low then (if named then Some halts.Waits else up) else Some halts.AtLimit) ≡ Some h → IsStop h
stop_among true true up h held is = stop_if true halts.Waits h tt is
stop_among true false up h held is = held h is
stop_among false named up h held is = stop_if true halts.AtLimit h tt is

stop_wants : (main : EndId → Option (MainAt Spot)) (requests : ℕ) (offers : ℕ → List ℕ) (steps : ℕ) (want : Want) (h : Halt) → stop_wanting main requests offers steps want ≡ Some h → IsStop h
stop_wants main requests offers steps want h is = stop_among (nat_lt steps 10000) (names_awaited main want) (hold_up main requests offers want) h (stop_up main requests offers want) is

stop_is : (main : EndId → Option (MainAt Spot)) (requests : ℕ) (offers : ℕ → List ℕ) (steps : ℕ) (want : Want) (h : Halt) → stop_by main requests offers steps want ≡ Some h → IsStop h
stop_is main requests offers steps wants.Local h is = stop_wants main requests offers steps wants.Local h is
stop_is main requests offers steps (wants.Send e m) h is = stop_wants main requests offers steps (wants.Send e m) h is
stop_is main requests offers steps (wants.Delegate e y) h is = stop_wants main requests offers steps (wants.Delegate e y) h is
stop_is main requests offers steps (wants.Take e a) h is = stop_wants main requests offers steps (wants.Take e a) h is
stop_is main requests offers steps (wants.Close e) h is = stop_wants main requests offers steps (wants.Close e) h is
stop_is main requests offers steps (wants.Request q to) h is = stop_wants main requests offers steps (wants.Request q to) h is
stop_is main requests offers steps (wants.Accept q from) h is = stop_wants main requests offers steps (wants.Accept q from) h is
stop_is main requests offers steps wants.Ended h is = stop_if true halts.Ended h tt is

-- an error is that one
pub error_is : {T E : Type 0} → (x y : E) → ◌≡◌ {A = Result T E} (Err x) (Err y) → x ≡ y
error_is x y h = cc h

module _ (c : NodeWorld) (led : IsLed c) (p : ℕ) (n : Node) (there : slice_get (nodes_in c) p ≡ Some n) where
  -- nothing stops it, or something other than being out of memory does
  abbrev pub Stopped : Type 0
  Stopped = (k : Halt) × (node_halt n ≡ Some k) × IsStop k

  -- no act by the rules, where something stops it
  pub none_where : (k : Halt) → node_halt n ≡ Some k → acts (play_of (file_in c)) p ((world_in c).nodes p) ≡ None
  none_where k is = ap (acts (play_of (file_in c)) p) (here c led p n there) ∙ halted (place_in n.table) (length (file_in c).parties) (file_in c).protocols p (spot_node n) k is

  pub no_step_where : (k : Halt) → node_halt n ≡ Some k → happens (play_of (file_in c)) max (world_in c) p rules.Act ≡ None
  no_step_where k is = let w = world_in c in ap (option_map (after_event w p ((w.nodes p).clock + 1) w.lanes)) (none_where k is)

  stop_here : (k : Halt) → node_halt n ≡ Some k → IsStop k
  stop_here k is = stop_is (mains_in n.mains.items) (requests_of n) (offers_of n) (steps_of n) (wants_of n) k is

  stopped_by : (o : Option Halt) → node_halt n ≡ o → acts (play_of (file_in c)) p ((world_in c).nodes p) ≡ None → Stopped
  stopped_by None free none =
      let done = acts_here c led p n there free in
      let e : Some done.0 ≡ None = sym done.1 ∙ none in absurd (cc e)
  stopped_by (Some k) is none = (k, is, stop_here k is)

  -- where the rules have no act, something stops it
  pub stopped : acts (play_of (file_in c)) p ((world_in c).nodes p) ≡ None → Stopped
  stopped none = stopped_by (node_halt n) refl none

  none_before : {A B : Type 0} → (f : A → B) (o : Option A) → option_map f o ≡ None → o ≡ None
  none_before f None h = refl
  none_before f (Some x) h = absurd (cc h)

  -- the node answered that halt
  module _ (h : Halt) (ended : node_halt n ≡ Some halts.Ended → h ≡ halts.Ended) (limit : node_halt n ≡ Some halts.AtLimit → h ≡ halts.AtLimit) (waits : node_halt n ≡ Some halts.Waits → h ≡ halts.Waits) where
    answers : (k : Halt) → node_halt n ≡ Some k → IsStop k → IsStop h
    answers halts.Ended is stop = subst IsStop (sym (ended is)) tt
    answers halts.AtLimit is stop = subst IsStop (sym (limit is)) tt
    answers halts.Waits is stop = subst IsStop (sym (waits is)) tt
    answers halts.NoMemory is stop = absurd stop
    answers halts.Unfit is stop = absurd stop

    unfit_by : (o : Option Halt) → node_halt n ≡ o → act_of n ≡ None → h ≡ halts.Unfit → ⊥
    unfit_by None free none is = never_unfit c led p n there free none
    unfit_by (Some k) stop none is = subst IsStop is (answers k stop (stop_here k stop))

    -- it isn't unfit
    pub not_unfit : (h ≡ halts.Unfit → act_of n ≡ None) → h ≡ halts.Unfit → ⊥
    not_unfit none is = unfit_by (node_halt n) refl (none is) is

    -- the answer isn't out of memory, where the act is illegal
    pub stops : happens (play_of (file_in c)) max (world_in c) p rules.Act ≡ None → IsStop h
    stops none =
        let w = world_in c in
        let s = stopped (none_before (after_event w p ((w.nodes p).clock + 1) w.lanes) (acts (play_of (file_in c)) p (w.nodes p)) none) in
        answers s.0 s.1 s.2

    -- and conversely
    pub no_step_of : IsStop h → (h ≡ halts.Ended → node_halt n ≡ Some halts.Ended) → (h ≡ halts.AtLimit → node_halt n ≡ Some halts.AtLimit) → (h ≡ halts.Waits → node_halt n ≡ Some halts.Waits)
        → happens (play_of (file_in c)) max (world_in c) p rules.Act ≡ None
    no_step_of stop e l w = by h refl stop
      where
        by : (k : Halt) → h ≡ k → IsStop k → happens (play_of (file_in c)) max (world_in c) p rules.Act ≡ None
        by halts.Ended is s = no_step_where halts.Ended (e is)
        by halts.AtLimit is s = no_step_where halts.AtLimit (l is)
        by halts.Waits is s = no_step_where halts.Waits (w is)
        by halts.NoMemory is s = absurd s
        by halts.Unfit is s = absurd s
