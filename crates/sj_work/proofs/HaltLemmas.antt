-- What holds a node up, seen from its places.
use Rattle.std.proofs.Common.{◌≡◌, ◌⊎◌, ℕ, nat_lt, Bool, true, false, if◌then◌else◌, List, [], ◌∷◌, map, Option, Some, None, Result, Err, option_map, inl, inr, refl, ap, sym, ◌∙◌, subst}
use Rattle.std.specs.Prelude.{◌||◌}
use Rattle.sj_base.specs.declared.EndId.{EndId}
use Rattle.sj_lang.specs.Place.{Place}
use Rattle.sj_table.specs.Spots.{place_in}
use Rattle.sj_semantics.specs.declared.Want.{Want}
use Rattle.sj_semantics.specs.declared.Want.TheVariants as wants
use Rattle.sj_semantics.specs.Program.{Program}
use Rattle.sj_rules.specs.Node.{NodeAt}
use Rattle.sj_rules.specs.Mapped.{frame_with, main_with, old_with}
use Rattle.sj_rules.specs.Record.{MainAt, Held, Closed, Expected}
use Rattle.sj_rules.specs.Halts.{is_delegated_enough, is_empty, is_expected, lacks_message}
use Rattle.sj_rules.specs.Limits.{limit_of_requests}
use Rattle.sj_node.specs.declared.node.Node.{Node}
use Rattle.sj_node.specs.declared.refusal.Halt.{Halt}
use Rattle.sj_node.specs.declared.refusal.Halt.TheVariants as halts
use Rattle.sj_node.specs.Halts.{hold_up, names_awaited, stop_by, stop_wanting}
use Rattle.sj_node.specs.Node.{node_at, offers_of, outbox_of, steps_of, node_halt, wants_of}
use Rattle.sj_node.specs.Outs.{waiting_in}
use Rattle.sj_node.specs.Play.{next_want}
use Rattle.sj_node.specs.Reading.{IsFinished}
use Rattle.sj_node.specs.Slots.{mains_in, olds_in}
use Rattle.sj_work.specs.declared.worker.Outcome.{Outcome}
use Rattle.sj_work.specs.declared.worker.Outcome.TheVariants as answers
use Rattle.sj_work.specs.Answers.{SaysHalt}
use Rattle.sj_work.specs.Turns.{IsHalted}
use Rattle.sj_work.specs.Views.{stop_at, stop_in}

module _ {P R : Type 0} (f : P → R) where
  awaited_with : (r : Option (MainAt P)) → is_expected (option_map (main_with f) r) ≡ is_expected r
  awaited_with None = refl
  awaited_with (Some (Held h)) = refl
  awaited_with (Some (Closed c)) = refl
  awaited_with (Some (Expected keeper place deferred)) = refl

  enough_with : (r : Option (MainAt P)) → is_delegated_enough (option_map (main_with f) r) ≡ is_delegated_enough r
  enough_with None = refl
  enough_with (Some (Held h)) = refl
  enough_with (Some (Closed c)) = refl
  enough_with (Some (Expected keeper place deferred)) = refl

  lacks_with : (r : Option (MainAt P)) → lacks_message (option_map (main_with f) r) ≡ lacks_message r
  lacks_with None = refl
  lacks_with (Some (Held h)) = refl
  lacks_with (Some (Closed c)) = refl
  lacks_with (Some (Expected keeper place deferred)) = refl

  named_with : (main : EndId → Option (MainAt P)) (want : Want) → names_awaited (λ e. option_map (main_with f) (main e)) want ≡ names_awaited main want
  named_with main wants.Local = refl
  named_with main (wants.Send e m) = awaited_with (main e)
  named_with main (wants.Delegate e y) = λ i. awaited_with (main e) i || awaited_with (main y) i
  named_with main (wants.Take e a) = awaited_with (main e)
  named_with main (wants.Close e) = awaited_with (main e)
  named_with main (wants.Request p to) = refl
  named_with main (wants.Accept p from) = refl
  named_with main wants.Ended = refl

  module _ (requests : ℕ) (offers : ℕ → List ℕ) where
    up_with : (main : EndId → Option (MainAt P)) (want : Want) → hold_up (λ e. option_map (main_with f) (main e)) requests offers want ≡ hold_up main requests offers want
    up_with main wants.Local = refl
    up_with main (wants.Send e m) = refl
    up_with main (wants.Delegate e y) = ap (λ b. if b then Some halts.AtLimit else None) (enough_with (main y))
    up_with main (wants.Take e a) = ap (λ b. if b then Some halts.Waits else None) (lacks_with (main e))
    up_with main (wants.Close e) = refl
    up_with main (wants.Request p to) = refl
    up_with main (wants.Accept p from) = refl
    up_with main wants.Ended = refl

    wanting_with : (main : EndId → Option (MainAt P)) (steps : ℕ) (want : Want) → stop_wanting (λ e. option_map (main_with f) (main e)) requests offers steps want ≡ stop_wanting main requests offers steps want
    wanting_with main steps want = λ i. if nat_lt steps 10000 then (if named_with main want i then Some halts.Waits else up_with main want i) else Some halts.AtLimit

    -- other places hold nothing up
    stop_with : (main : EndId → Option (MainAt P)) (steps : ℕ) (want : Want) → stop_by (λ e. option_map (main_with f) (main e)) requests offers steps want ≡ stop_by main requests offers steps want
    stop_with main steps wants.Local = wanting_with main steps wants.Local
    stop_with main steps (wants.Send e m) = wanting_with main steps (wants.Send e m)
    stop_with main steps (wants.Delegate e y) = wanting_with main steps (wants.Delegate e y)
    stop_with main steps (wants.Take e a) = wanting_with main steps (wants.Take e a)
    stop_with main steps (wants.Close e) = wanting_with main steps (wants.Close e)
    stop_with main steps (wants.Request p to) = wanting_with main steps (wants.Request p to)
    stop_with main steps (wants.Accept p from) = wanting_with main steps (wants.Accept p from)
    stop_with main steps wants.Ended = refl

-- what holds a party up
abbrev held_at_node : NodeAt Place Program → Option Halt
held_at_node n = stop_by n.main n.requests n.offers n.program.steps (next_want n.program)

stop_seen : (n : Node) → held_at_node (node_at n) ≡ node_halt n
stop_seen n = stop_with (place_in n.table) n.requests (offers_of n) (mains_in n.mains.items) (steps_of n) (wants_of n)

-- nodes alike are held up alike
pub stop_same : (a b : Node) → node_at b ≡ node_at a → node_halt b ≡ node_halt a
stop_same a b same = sym (stop_seen b) ∙ ap held_at_node same ∙ stop_seen a

-- a party goes on or is halted, and none is held up because it is out of memory
if_halted : (b : Bool) (h : Halt) (o : Option Halt) → IsHalted (Some h) → (o ≡ None) ⊎ IsHalted o → ((if b then Some h else o) ≡ None) ⊎ IsHalted (if b then Some h else o)
if_halted true h o halted rest = inr halted
if_halted false h o halted rest = rest

low_halted : (b : Bool) (o : Option Halt) → (o ≡ None) ⊎ IsHalted o → ((if b then o else Some halts.AtLimit) ≡ None) ⊎ IsHalted (if b then o else Some halts.AtLimit)
low_halted true o rest = rest
low_halted false o rest = inr tt

module _ {P : Type 0} (main : EndId → Option (MainAt P)) (requests : ℕ) (offers : ℕ → List ℕ) where
  up_halted : (want : Want) → (hold_up main requests offers want ≡ None) ⊎ IsHalted (hold_up main requests offers want)
  up_halted wants.Local = inl refl
  up_halted (wants.Send e m) = inl refl
  up_halted (wants.Delegate e y) = if_halted (is_delegated_enough (main y)) halts.AtLimit None tt (inl refl)
  up_halted (wants.Take e a) = if_halted (lacks_message (main e)) halts.Waits None tt (inl refl)
  up_halted (wants.Close e) = inl refl
  up_halted (wants.Request p to) = low_halted (nat_lt requests limit_of_requests) None (inl refl)
  up_halted (wants.Accept p from) = if_halted (is_empty (offers from)) halts.Waits None tt (inl refl)
  up_halted wants.Ended = inl refl

  wanting_halted : (steps : ℕ) (want : Want) → (stop_wanting main requests offers steps want ≡ None) ⊎ IsHalted (stop_wanting main requests offers steps want)
  wanting_halted steps want =
      low_halted (nat_lt steps 10000) (if names_awaited main want then Some halts.Waits else hold_up main requests offers want)
      (if_halted (names_awaited main want) halts.Waits (hold_up main requests offers want) tt (up_halted want))

  by_halted : (steps : ℕ) (want : Want) → (stop_by main requests offers steps want ≡ None) ⊎ IsHalted (stop_by main requests offers steps want)
  by_halted steps wants.Local = wanting_halted steps wants.Local
  by_halted steps (wants.Send e m) = wanting_halted steps (wants.Send e m)
  by_halted steps (wants.Delegate e y) = wanting_halted steps (wants.Delegate e y)
  by_halted steps (wants.Take e a) = wanting_halted steps (wants.Take e a)
  by_halted steps (wants.Close e) = wanting_halted steps (wants.Close e)
  by_halted steps (wants.Request p to) = wanting_halted steps (wants.Request p to)
  by_halted steps (wants.Accept p from) = wanting_halted steps (wants.Accept p from)
  by_halted steps wants.Ended = inr tt

pub goes_or_halts : (n : Node) → (node_halt n ≡ None) ⊎ IsHalted (node_halt n)
goes_or_halts n = by_halted (mains_in n.mains.items) n.requests (offers_of n) (steps_of n) (wants_of n)

none_before : {X Y : Type 0} (g : X → Y) (o : Option X) → option_map g o ≡ None → o ≡ None
none_before g None h = refl
none_before g (Some x) h = absurd (cc h)

pub empty_before : {X Y : Type 0} (g : X → Y) (xs : List X) → map g xs ≡ [] → xs ≡ []
empty_before g [] h = refl
empty_before g (x ∷ xs) h = absurd (cc h)

-- a node that is finished was so before, where the node was alike and an empty outbox was empty
pub finished_before : (a b : Node) → node_at b ≡ node_at a → ((q : ℕ) → outbox_of b q ≡ [] → outbox_of a q ≡ []) → IsFinished b → IsFinished a
finished_before a b same boxes f = record {
  ended = ap (λ (n : NodeAt Place Program). next_want n.program) (sym same) ∙ f.ended;
  mains = λ e. none_before (main_with (place_in a.table)) (mains_in a.mains.items e) (ap (λ (n : NodeAt Place Program). n.main e) (sym same) ∙ ap (option_map (main_with (place_in b.table))) (f.mains e));
  olds = λ e. none_before (old_with (place_in a.table)) (olds_in a.olds.items e) (ap (λ (n : NodeAt Place Program). n.old e) (sym same) ∙ ap (option_map (old_with (place_in b.table))) (f.olds e));
  outs = λ q. empty_before (frame_with (place_in a.table)) (waiting_in a.outs.items q) (boxes q (ap (map (frame_with (place_in b.table))) (f.outs q)));
}

-- the node refused an act so
abbrev pub Refused : (h k : Halt) → Type 0
Refused h k = ◌≡◌ {A = Result (Unit {0}) Halt} (Err h) (Err k)

refused_is : (h k : Halt) → Refused h k → h ≡ k
refused_is h k e = cc e

-- where an act is unfit, nothing holds the party up
pub free_of : (n : Node) (h : Halt) → (node_halt n ≡ Some halts.Ended → Refused h halts.Ended) → (node_halt n ≡ Some halts.AtLimit → Refused h halts.AtLimit) → (node_halt n ≡ Some halts.Waits → Refused h halts.Waits)
    → h ≡ halts.Unfit → node_halt n ≡ None
free_of n h ended limit waits unfit = go (goes_or_halts n)
  where
    by : (o : Option Halt) → node_halt n ≡ o → IsHalted o → node_halt n ≡ None
    by (Some halts.Ended) is halted = let e : halts.Ended ≡ halts.Unfit = sym (refused_is h halts.Ended (ended is)) ∙ unfit in absurd (cc e)
    by (Some halts.AtLimit) is halted = let e : halts.AtLimit ≡ halts.Unfit = sym (refused_is h halts.AtLimit (limit is)) ∙ unfit in absurd (cc e)
    by (Some halts.Waits) is halted = let e : halts.Waits ≡ halts.Unfit = sym (refused_is h halts.Waits (waits is)) ∙ unfit in absurd (cc e)
    by (Some halts.NoMemory) is halted = absurd halted
    by (Some halts.Unfit) is halted = absurd halted
    by None is halted = absurd halted

    go : (node_halt n ≡ None) ⊎ IsHalted (node_halt n) → node_halt n ≡ None
    go (inl none) = none
    go (inr halted) = by (node_halt n) refl halted

-- where the worker goes on after a refused act, the party is halted
pub halted_by : (a b : Node) (h : Halt) (r : Option Outcome) → node_at b ≡ node_at a → (Refused h halts.Ended → node_halt a ≡ Some halts.Ended) → (Refused h halts.AtLimit → node_halt a ≡ Some halts.AtLimit)
    → (Refused h halts.Waits → node_halt a ≡ Some halts.Waits) → SaysHalt b h r → stop_in r ≡ None → IsHalted (node_halt b)
halted_by a b h r same ended limit waits says none = by h says ended limit waits
  where
    so : (k : Halt) → IsHalted (Some k) → node_halt a ≡ Some k → IsHalted (node_halt b)
    so k halted is = subst (λ (o : Option Halt). IsHalted o) (sym (stop_same a b same ∙ is)) halted

    stopped : (answer : Outcome) → r ≡ Some answer → IsHalted (node_halt b)
    stopped answer is = let e : Some (stop_at answer) ≡ None = sym (ap stop_in is) ∙ none in absurd (cc e)

    by : (h : Halt) → SaysHalt b h r → (Refused h halts.Ended → node_halt a ≡ Some halts.Ended) → (Refused h halts.AtLimit → node_halt a ≡ Some halts.AtLimit) → (Refused h halts.Waits → node_halt a ≡ Some halts.Waits) → IsHalted (node_halt b)
    by halts.Ended says ended limit waits = so halts.Ended tt (ended refl)
    by halts.AtLimit says ended limit waits = so halts.AtLimit tt (limit refl)
    by halts.Waits says ended limit waits = so halts.Waits tt (waits refl)
    by halts.NoMemory says ended limit waits = stopped answers.NoMemory says
    by halts.Unfit says ended limit waits = stopped (answers.Unfit says.0) says.1
