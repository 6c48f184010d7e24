-- A call of a node is a row of the rules, with its note, and is held up where they say so.
use Rattle.std.proofs.Common.{◌≡◌, ◌+◌, Bool, true, false, ◌||◌, if◌then◌else◌, List, [], ◌∷◌, slice_get, Option, Some, None, option_map, Result, Ok, Err, OnOk, refl, ap, sym, ◌∙◌}
use Rattle.sj_base.specs.declared.EndId.{EndId}
use Rattle.sj_base.specs.declared.Msg.{Msg}
use Rattle.sj_end.specs.Lines.{note_seen}
use Rattle.sj_end.specs.declared.note.Event.TheVariants as events
use Rattle.sj_end.specs.declared.note.Note.{Note}
use Rattle.sj_lang.specs.Place.{Place}
use Rattle.sj_semantics.specs.Program.{Program}
use Rattle.sj_table.specs.declared.table.Spot.{Spot}
use Rattle.sj_table.specs.Spots.{place_in}
use Rattle.sj_rules.specs.Halts as causes
use Rattle.sj_rules.specs.Halts.{halt_by, halt_if, is_delegated_enough, is_empty, is_expected, lacks_message}
use Rattle.sj_rules.specs.Log as logs
use Rattle.sj_rules.specs.Mapped.{held_with, main_with}
use Rattle.sj_rules.specs.Node as rules
use Rattle.sj_rules.specs.Node.{NodeAt, Play, act_by, take_act, take_from}
use Rattle.sj_rules.specs.Record.{Closed, Expected, Held, HeldAt, MainAt}
use Rattle.sj_rules.specs.Rows.{Worked}
use Rattle.sj_node.specs.declared.node.Node.{Node}
use Rattle.sj_node.specs.declared.refusal.Halt.{Halt}
use Rattle.sj_node.specs.declared.refusal.Halt.TheVariants as halts
use Rattle.sj_node.specs.declared.seats.Call.{Call}
use Rattle.sj_node.specs.declared.seats.Call.TheVariants as calls
use Rattle.sj_node.specs.Calls.{call_of, has_place_for, silent}
use Rattle.sj_node.specs.Node.{Does, clock_of, main_of, next_head, node_at, took_if}
use Rattle.sj_node.specs.Seats.{IsCalled, IsHead, IsRowOf, call_note, call_stop, halt_named, want_at}
use Rattle.sj_node.specs.Taking.{held_head}

-- ---- what holds a call up

module _ (f : Spot → Place) where
  expected_seen : (r : Option (MainAt Spot)) → is_expected (option_map (main_with f) r) ≡ is_expected r
  expected_seen None = refl
  expected_seen (Some (Held h)) = refl
  expected_seen (Some (Closed c)) = refl
  expected_seen (Some (Expected keeper place deferred)) = refl

  enough_seen : (r : Option (MainAt Spot)) → is_delegated_enough (option_map (main_with f) r) ≡ is_delegated_enough r
  enough_seen None = refl
  enough_seen (Some (Held h)) = refl
  enough_seen (Some (Closed c)) = refl
  enough_seen (Some (Expected keeper place deferred)) = refl

  lacks_seen : (r : Option (MainAt Spot)) → lacks_message (option_map (main_with f) r) ≡ lacks_message r
  lacks_seen None = refl
  lacks_seen (Some (Held h)) = refl
  lacks_seen (Some (Closed c)) = refl
  lacks_seen (Some (Expected keeper place deferred)) = refl

awaiting : (a : Bool) (e : EndId) → ◌≡◌ {A = Option Halt} (if a then Some halts.Waits else None) (option_map halt_named (halt_if a (causes.awaits e) None))
awaiting true e = refl
awaiting false e = refl

lacking : (a b : Bool) (e : EndId)
    → ◌≡◌ {A = Option Halt} (if a then Some halts.Waits else (if b then Some halts.Waits else None)) (option_map halt_named (halt_if a (causes.awaits e) (halt_if b (causes.no_message e) None)))
lacking true b e = refl
lacking false true e = refl
lacking false false e = refl

handing : (a b d : Bool) (c e : EndId)
    → ◌≡◌ {A = Option Halt} (if a || b then Some halts.Waits else (if d then Some halts.AtLimit else None))
    (option_map halt_named (halt_if a (causes.awaits c) (halt_if b (causes.awaits e) (halt_if d (causes.delegated_enough e) None))))
handing true b d c e = refl
handing false true d c e = refl
handing false false true c e = refl
handing false false false c e = refl

-- the cause is that of the rules
pub call_halts : (n : Node) (call : Call) → call_stop n call ≡ option_map halt_named (halt_by (node_at n) (want_at n call))
call_halts n (calls.Send e m) =
    let f = place_in n.table in
    awaiting (is_expected (main_of n e)) e ∙ (λ i. option_map halt_named (halt_if (sym (expected_seen f (main_of n e)) i) (causes.awaits e) None))
call_halts n (calls.Delegate c e) =
    let f = place_in n.table in
    handing (is_expected (main_of n c)) (is_expected (main_of n e)) (is_delegated_enough (main_of n e)) c e
    ∙ (λ i. option_map halt_named
    (halt_if (sym (expected_seen f (main_of n c)) i) (causes.awaits c)
    (halt_if (sym (expected_seen f (main_of n e)) i) (causes.awaits e) (halt_if (sym (enough_seen f (main_of n e)) i) (causes.delegated_enough e) None))))
call_halts n (calls.Take e spot) =
    let f = place_in n.table in
    lacking (is_expected (main_of n e)) (lacks_message (main_of n e)) e
    ∙ (λ i. option_map halt_named (halt_if (sym (expected_seen f (main_of n e)) i) (causes.awaits e) (halt_if (sym (lacks_seen f (main_of n e)) i) (causes.no_message e) None)))
call_halts n (calls.Close e) =
    let f = place_in n.table in
    awaiting (is_expected (main_of n e)) e ∙ (λ i. option_map halt_named (halt_if (sym (expected_seen f (main_of n e)) i) (causes.awaits e) None))

-- none of them is the end of a program
not_ended : (a : Bool) (o : Option Halt) → (o ≡ Some halts.Ended → ⊥) → ◌≡◌ {A = Option Halt} (if a then Some halts.Waits else o) (Some halts.Ended) → ⊥
not_ended true o none is = absurd (cc is)
not_ended false o none is = none is

not_up : (a : Bool) (h : Halt) → (h ≡ halts.Ended → ⊥) → ◌≡◌ {A = Option Halt} (if a then Some h else None) (Some halts.Ended) → ⊥
not_up true h other is = other (let e : h ≡ halts.Ended = cc in e)
not_up false h other is = absurd (cc is)

pub never_ends : (n : Node) (call : Call) → call_stop n call ≡ Some halts.Ended → ⊥
never_ends n (calls.Send e m) is = not_ended (is_expected (main_of n e)) None (λ k. absurd (cc k)) is
never_ends n (calls.Delegate c e) is =
    not_ended (is_expected (main_of n c) || is_expected (main_of n e)) _ (not_up (is_delegated_enough (main_of n e)) halts.AtLimit (λ k. absurd (cc k))) is
never_ends n (calls.Take e spot) is = not_ended (is_expected (main_of n e)) _ (not_up (lacks_message (main_of n e)) halts.Waits (λ k. absurd (cc k))) is
never_ends n (calls.Close e) is = not_ended (is_expected (main_of n e)) None (λ k. absurd (cc k)) is

-- what follows where a call was done
pub on_ok : {T E : Type 0} (r : Result T E) (P Q : Type 0) → (P → Q) → OnOk r P → OnOk r Q
on_ok (Ok x) P Q f h = f h
on_ok (Err e) P Q f h = tt

-- ---- its row, and its note

pub no_row : {X : Type 0} (x : X) → ◌≡◌ {A = Option X} None (Some x) → ⊥
no_row x h = absurd (cc h)

then_row : {X : Type 0} (b : Bool) (o : Option X) (x : X) → (if b then o else None) ≡ Some x → o ≡ Some x
then_row true o x h = h
then_row false o x h = absurd (no_row x h)

-- the message that is next, at places
pub head_there : (n : Node) (e : EndId) (m : Msg) → next_head n e ≡ Some m → IsHead n e m
head_there n e m is = by (main_of n e) refl is
  where
    first : (h : HeldAt Spot) → main_of n e ≡ Some (Held h) → (ms : List Msg) → h.untaken ≡ ms → slice_get ms 0 ≡ Some m → IsHead n e m
    first h there [] same k = absurd (no_row m k)
    first h there (x ∷ rest) same k = record {
      held = held_with (place_in n.table) h;
      rest = rest;
      there = ap (option_map (main_with (place_in n.table))) there;
      first = same ∙ (let it : x ≡ m = cc in ap (λ y. y ∷ rest) it);
    }

    by : (r : Option (MainAt Spot)) → main_of n e ≡ r → held_head r ≡ Some m → IsHead n e m
    by None there k = absurd (no_row m k)
    by (Some (Closed c)) there k = absurd (no_row m k)
    by (Some (Expected keeper place deferred)) there k = absurd (no_row m k)
    by (Some (Held h)) there k = first h there h.untaken refl k

take_noted : (play : Play Place Program) (n : NodeAt Place Program) (e : EndId) (place : Place) (f : Spot → Place) (r : Option (MainAt Spot)) (left : Worked Place (NodeAt Place Program))
    → take_act play n e place (option_map (main_with f) r) ≡ Some left → logs.take_note e (option_map (main_with f) r) ≡ Some (note_seen (took_if e (held_head r)))
take_noted play n e place f None left is = absurd (no_row left is)
take_noted play n e place f (Some (Closed c)) left is = absurd (no_row left is)
take_noted play n e place f (Some (Expected keeper p ds)) left is = absurd (no_row left is)
take_noted play n e place f (Some (Held h)) left is = go h.untaken is
  where
    go : (ms : List Msg) → take_from play n e place (held_with f h) ms ≡ Some left → logs.head_note e ms ≡ Some (note_seen (took_if e (slice_get ms 0)))
    go [] is = absurd (no_row left is)
    go (m ∷ ms) is = refl

noted : (n : Node) (call : Call) (left : Worked Place (NodeAt Place Program)) → act_by (silent n.parties) n.party (node_at n) (want_at n call) ≡ Some left
    → logs.act_note n.party (node_at n) (want_at n call) ≡ Some (note_seen (call_note n call))
noted n (calls.Send e m) left row = refl
noted n (calls.Delegate c e) left row = refl
noted n (calls.Take e spot) left row = take_noted (silent n.parties) (node_at n) e (place_in n.table spot) (place_in n.table) (main_of n e) left row
noted n (calls.Close e) left row = refl

-- a step that is done
pub row_done : (old new : Node) (want : rules.Want Place) (note : Note) → ((left : Worked Place (NodeAt Place Program)) → act_by (silent old.parties) old.party (node_at old) want ≡ Some left → logs.act_note old.party (node_at old) want ≡ Some (note_seen note))
    → Does old (call_of old want) (clock_of old + 1) events.Act note new → IsRowOf old want note new
row_done old new want note told does = by (call_of old want) refl does
  where
    by : (o : Option (Worked Place (NodeAt Place Program))) → call_of old want ≡ o → Does old o (clock_of old + 1) events.Act note new → IsRowOf old want note new
    by None is did = absurd did
    by (Some left) is did =
        let row : act_by (silent old.parties) old.party (node_at old) want ≡ Some left =
        then_row (has_place_for (node_at old).main want) (act_by (silent old.parties) old.party (node_at old) want) left is in
        record { left = left; row = row; note = told left row; did = did }

-- a call that is done
pub call_done : (old new : Node) (call : Call) → Does old (call_of old (want_at old call)) (clock_of old + 1) events.Act (call_note old call) new → IsCalled old call new
call_done old new call does = row_done old new (want_at old call) (call_note old call) (noted old call) does
