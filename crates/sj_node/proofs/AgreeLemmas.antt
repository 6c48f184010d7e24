-- Where none of the causes applies, and the places let the step, the rules have an act.
use Rattle.std.proofs.Common.{rules, IsSome, ◌≡◌, ℕ, ◌+◌, ◌<◌, Bool, true, false, not, if◌then◌else◌, List, [], ◌∷◌, Option, Some, None, option_map, refl, sym, ◌∙◌, arith}
use Rattle.std.specs.Prelude.{is_some, nat_lt, slice_get, ◌&&◌}
use Rattle.std.proofs.lemmas.Bool.Decides.{nat_tests}
use Rattle.sj_base.specs.declared.EndId.{EndId}
use Rattle.sj_base.specs.declared.Msg.{Msg}
use Rattle.sj_base.specs.declared.Msg.TheVariants as msgs
use Rattle.sj_lang.specs.Place.{Place}
use Rattle.sj_lang.specs.declared.proto.Way.TheVariants.{Into, Out}
use Rattle.sj_lang.specs.After.{after_place}
use Rattle.sj_table.specs.declared.table.Spot.{Spot}
use Rattle.sj_table.specs.Spots.{place_in, start_in}
use Rattle.sj_semantics.specs.declared.Want.{Want}
use Rattle.sj_semantics.specs.declared.Want.TheVariants as wants
use Rattle.sj_semantics.specs.Program.{Program}
use Rattle.sj_semantics.specs.Fitting.{fits}
use Rattle.sj_machine.specs.Sound.{program_at}
use Rattle.sj_rules.specs.Record.{HeldAt, MainAt, Held, Closed, Expected, Parked, is_same_end, offered_end}
use Rattle.sj_rules.specs.Opened.{smallest, smallest_from}
use Rattle.sj_rules.specs.Halts.{is_delegated_enough, is_empty, lacks_message}
use Rattle.sj_rules.specs.Mapped.{held_with, main_with}
use Rattle.sj_rules.specs.Node.{NodeAt, accept_offered, accept_session, close_act, delegate_act, is_free, put, send_act, take_act, take_from, with_main, with_old}
use Rattle.sj_node.specs.declared.node.Node.{Node}
use Rattle.sj_node.specs.declared.refusal.Halt.{Halt}
use Rattle.sj_node.specs.declared.refusal.Halt.TheVariants as halts
use Rattle.sj_node.specs.Halts.{hold_up, names_awaited, stop_by}
use Rattle.sj_node.specs.Node.{act_of, is_below_count, main_of, node_at, offers_of, play_here, steps_of, node_halt, wants_of}
use Rattle.sj_node.specs.Play.{awaited_place, names_known}
use Rattle.sj_node.specs.Slots.{mains_in}
use Rattle.sj_node.specs.Taking.{held_head}
use Rattle.sj_node.specs.Unfit.{Agrees, Misfit, full, is_held, is_offer_held, is_over, lets, misfit_at, misfit_by, misfit_of, misfit_on, taken, unknown, unwanted}
use Rattle.sj_node.proofs.ActLemmas.{act_at}
use Rattle.sj_node.proofs.UnfitLemmas.{step_of}

mapped : {X Y : Type 0} (g : X → Y) (o : Option X) → is_some o ≡ true → option_map g o ≡ None → ⊥
mapped g None there h = cc
mapped g (Some x) there h = cc

sent_some : (n : Node) (m : NodeAt Place Program) (e : EndId) (msg : Msg) (r : Option (MainAt Place)) → lets Out msg r ≡ true → send_act (play_here n) m e msg r ≡ None → ⊥
sent_some n m e msg (Some (Held h)) there none = mapped _ (after_place h.end.place Out msg) there none
sent_some n m e msg (Some (Closed c)) there none = cc
sent_some n m e msg (Some (Expected keeper place deferred)) there none = cc
sent_some n m e msg None there none = cc

not_full : (b : Bool) → ◌≡◌ {A = Option Misfit} (if b then None else Some full) None → b ≡ true
not_full true h = refl
not_full false h = cc

room : (f : Spot → Place) (r : Option (MainAt Spot)) → misfit_on r ≡ None → is_below_count (option_map (main_with f) r) ≡ true
room f (Some (Held h)) is = not_full (nat_lt h.end.sent 1000000) is
room f (Some (Closed c)) is = refl
room f (Some (Expected keeper place deferred)) is = refl
room f None is = refl

passed : {X : Type 0} (a : Bool) (o : Option X) → a ≡ true → (if a then o else None) ≡ None → o ≡ None
passed true o h none = none
passed false o h none = cc

is_below : (b : Bool) → not b ≡ false → b ≡ true
is_below true h = refl
is_below false h = cc

not_enough : (b : Bool) → ◌≡◌ {A = Option Halt} (if b then Some halts.AtLimit else None) None → b ≡ false
not_enough true h = cc
not_enough false h = refl

handed_some : (n : Node) (f : Spot → Place) (e y : EndId) (r : Option (MainAt Spot)) → is_held (option_map (main_with f) r) ≡ true
    → is_delegated_enough r ≡ false → is_same_end e y ≡ false
    → lets Out (msgs.Sess y.sess y.side n.party) ((node_at n).main e) ≡ true → delegate_act (play_here n) n.party (node_at n) e y (option_map (main_with f) r) ≡ None → ⊥
handed_some n f e y (Some (Held h)) held few other there none =
    let left : lets Out (msgs.Sess y.sess y.side n.party) (put y None (node_at n).main e) ≡ true = (λ i. lets Out (msgs.Sess y.sess y.side n.party) (if other i then None else (node_at n).main e)) ∙ there in
    let at : HeldAt Place = held_with f h in
    let mid : NodeAt Place Program = with_main y None (with_old y (Some (Parked (record at.end { hops = at.end.hops + 1 }))) (node_at n)) in
    sent_some n mid e (msgs.Sess y.sess y.side n.party) (put y None (node_at n).main e) left
    (passed (nat_lt h.end.hops 100) _ (is_below (nat_lt h.end.hops 100) few) none)
handed_some n f e y (Some (Closed c)) held few other there none = cc
handed_some n f e y (Some (Expected keeper place deferred)) held few other there none = cc
handed_some n f e y None held few other there none = cc

all_taken : (a b c : Bool) → ◌≡◌ {A = Option Misfit} (if a then (if b then (if c then None else Some taken) else Some unknown) else Some unwanted) None → (a ≡ true) × (((a && b) && c) ≡ true)
all_taken true true true h = (refl, refl)
all_taken true true false h = cc
all_taken true false c h = cc
all_taken false b c h = cc

not_lacking : (b : Bool) → ◌≡◌ {A = Option Halt} (if b then Some halts.Waits else None) None → b ≡ false
not_lacking true h = cc
not_lacking false h = refl

taken_some : (n : Node) (f : Spot → Place) (e : EndId) (place : Place) (r : Option (MainAt Spot)) → is_held (option_map (main_with f) r) ≡ true → lacks_message r ≡ false
    → ((m : Msg) → held_head r ≡ Some m → fits (program_at n.machine) m ≡ true → lets Into m (option_map (main_with f) r) ≡ true) → misfit_at n (held_head r) ≡ None
    → take_act (play_here n) (node_at n) e place (option_map (main_with f) r) ≡ None → ⊥
taken_some n f e place (Some (Held h)) held some agrees fit none = go h.untaken some agrees fit none
  where
    go : (ms : List Msg) → is_empty ms ≡ false → ((m : Msg) → slice_get ms 0 ≡ Some m → fits (program_at n.machine) m ≡ true → lets Into m (Some (Held (held_with f h))) ≡ true) → misfit_at n (slice_get ms 0) ≡ None → take_from (play_here n) (node_at n) e place (held_with f h) ms ≡ None → ⊥
    go [] some agrees fit none = cc
    go (m ∷ rest) some agrees fit none =
        let all = all_taken (fits (program_at n.machine) m) (names_known n.connects n.parties m) (is_free (node_at n) m) fit in
        mapped _ (after_place (f h.end.place) Into m) (agrees m refl all.0) (passed _ _ all.1 none)
taken_some n f e place (Some (Closed c)) held some agrees fit none = cc
taken_some n f e place (Some (Expected keeper q deferred)) held some agrees fit none = cc
taken_some n f e place None held some agrees fit none = cc

closed_some : (n : Node) (e : EndId) (r : Option (MainAt Place)) → is_over r ≡ true → close_act (play_here n) (node_at n) e r ≡ None → ⊥
closed_some n e (Some (Held h)) over none = Some_None _ (passed _ _ over none)
  where
    Some_None : {X : Type 0} (x : X) → Some x ≡ None → ⊥
    Some_None x h = cc
closed_some n e (Some (Closed c)) over none = cc
closed_some n e (Some (Expected keeper place deferred)) over none = cc
closed_some n e None over none = cc

goes : (a b : Bool) (o : Option Halt) → ◌≡◌ {A = Option Halt} (if a then (if b then Some halts.Waits else o) else Some halts.AtLimit) None → (a ≡ true) × (o ≡ None)
goes true false o h = (refl, h)
goes true true o h = cc
goes false b o h = cc

-- it isn't at its last step, and isn't held up
going : (main : EndId → Option (MainAt Spot)) (requests : ℕ) (offers : ℕ → List ℕ) (steps : ℕ) (w : Want) → stop_by main requests offers steps w ≡ None → (nat_lt steps 10000 ≡ true) × (hold_up main requests offers w ≡ None)
going main k o steps wants.Local h = goes (nat_lt steps 10000) (names_awaited main wants.Local) (hold_up main k o wants.Local) h
going main k o steps (wants.Send e m) h = goes (nat_lt steps 10000) (names_awaited main (wants.Send e m)) (hold_up main k o (wants.Send e m)) h
going main k o steps (wants.Delegate e y) h = goes (nat_lt steps 10000) (names_awaited main (wants.Delegate e y)) (hold_up main k o (wants.Delegate e y)) h
going main k o steps (wants.Take e a) h = goes (nat_lt steps 10000) (names_awaited main (wants.Take e a)) (hold_up main k o (wants.Take e a)) h
going main k o steps (wants.Close e) h = goes (nat_lt steps 10000) (names_awaited main (wants.Close e)) (hold_up main k o (wants.Close e)) h
going main k o steps (wants.Request p to) h = goes (nat_lt steps 10000) (names_awaited main (wants.Request p to)) (hold_up main k o (wants.Request p to)) h
going main k o steps (wants.Accept p from) h = goes (nat_lt steps 10000) (names_awaited main (wants.Accept p from)) (hold_up main k o (wants.Accept p from)) h
going main k o steps wants.Ended h = cc

-- what isn't held up, of this node
up : (n : Node) (w : Want) → stop_by (mains_in n.mains.items) n.requests (offers_of n) (steps_of n) w ≡ None → hold_up (mains_in n.mains.items) n.requests (offers_of n) w ≡ None
up n w stop = (going (mains_in n.mains.items) n.requests (offers_of n) (steps_of n) w stop).1

few_open : {X : Type 0} (b : Bool) (x : X) → ◌≡◌ {A = Option Halt} (if b then None else Some halts.AtLimit) None → ◌≡◌ {A = Option X} (if b then Some x else None) None → ⊥
few_open true x few none = cc
few_open false x few none = cc

accepted_some : (n : Node) (place : Place) (from sess : ℕ) (r : Option (MainAt Place)) → is_held r ≡ true → accept_session (play_here n) (node_at n) place from sess r ≡ None → ⊥
accepted_some n place from sess (Some (Held h)) held none = cc
accepted_some n place from sess (Some (Closed c)) held none = cc
accepted_some n place from sess (Some (Expected keeper q deferred)) held none = cc
accepted_some n place from sess None held none = cc

offered_some : (n : Node) (place : Place) (from : ℕ) (offers : List ℕ) → is_empty offers ≡ false → is_offer_held n (smallest offers) ≡ true → accept_offered (play_here n) (node_at n) place from (smallest offers) ≡ None → ⊥
offered_some n place from [] some held none = cc
offered_some n place from (s ∷ ss) some held none = accepted_some n place from (smallest_from s ss) ((node_at n).main (offered_end (smallest_from s ss))) held none

some_step : (n : Node) (w : Want) → stop_by (mains_in n.mains.items) n.requests (offers_of n) (steps_of n) w ≡ None → Agrees n w → misfit_by n w ≡ None → step_of n w ≡ None → ⊥
some_step n wants.Local stop agrees fit none = cc
some_step n (wants.Send e m) stop agrees fit none = sent_some n (node_at n) e m ((node_at n).main e) agrees (passed _ _ (room (place_in n.table) (main_of n e) fit) none)
some_step n (wants.Delegate e y) stop agrees fit none =
    handed_some n (place_in n.table) e y (main_of n y) agrees.1
    (not_enough (is_delegated_enough (main_of n y)) (up n (wants.Delegate e y) stop)) agrees.0 agrees.2
    (passed _ _ (room (place_in n.table) (main_of n e) fit) none)
some_step n (wants.Take e a) stop agrees fit none =
    taken_some n (place_in n.table) e (awaited_place (start_in n.table) a) (main_of n e) agrees.0 (not_lacking (lacks_message (main_of n e)) (up n (wants.Take e a) stop)) agrees.1 fit none
some_step n (wants.Close e) stop agrees fit none = closed_some n e ((node_at n).main e) agrees none
some_step n (wants.Request p to) stop agrees fit none = few_open (nat_lt n.requests 100) _ (up n (wants.Request p to) stop) none
some_step n (wants.Accept p from) stop agrees fit none =
    offered_some n (start_in n.table p) from (offers_of n from) (not_lacking (is_empty (offers_of n from)) (up n (wants.Accept p from) stop)) agrees none
some_step n wants.Ended stop agrees fit none = cc

-- a step that nothing holds up, and that its places let, has no act for one of the causes alone
pub only_misfits : (n : Node) → node_halt n ≡ None → Agrees n (wants_of n) → act_of n ≡ None → IsSome (misfit_of n)
only_misfits n stop agrees none = go (misfit_of n) refl
  where
    steps : steps_of n < 10000
    steps = let lt = (going (mains_in n.mains.items) n.requests (offers_of n) (steps_of n) (wants_of n) stop).0 in grind (arith, nat_tests)

    go : (o : Option Misfit) → misfit_of n ≡ o → IsSome o
    go (Some x) is = search rules
    go None is = absurd (some_step n (wants_of n) stop agrees is (sym (act_at n (wants_of n) refl steps) ∙ none))
