-- An act of a node is the call of its next step, beside which the program goes on.
use Rattle.std.proofs.Common.{◌≡◌, ℕ, ◌<◌, Bool, true, false, if◌then◌else◌, List, [], ◌∷◌, Option, Some, None, option_map, refl, ap, subst, sym, ◌∙◌, ◌+◌}
use Rattle.std.specs.Prelude.{nat_lt, slice_get, ◌&&◌}
use Rattle.sj_base.specs.declared.EndId.{EndId}
use Rattle.sj_base.specs.declared.Msg.{Msg}
use Rattle.sj_base.specs.declared.Msg.TheVariants as msgs
use Rattle.sj_end.specs.declared.note.Event.{Event}
use Rattle.sj_end.specs.declared.note.Note.{Note}
use Rattle.sj_lang.specs.Place.{Place}
use Rattle.sj_lang.specs.declared.proto.Way.TheVariants.{Into, Out}
use Rattle.sj_lang.specs.After.{after_place}
use Rattle.sj_lang.specs.ItemCount.{is_done}
use Rattle.sj_table.specs.declared.table.Spot.{Spot}
use Rattle.sj_table.specs.Spots.{place_in, start_in}
use Rattle.sj_semantics.specs.declared.Awaits.{Awaits}
use Rattle.sj_semantics.specs.declared.Want.TheVariants as wants
use Rattle.sj_semantics.specs.Program.{Program}
use Rattle.sj_semantics.specs.Steps.{closed_of, sent_of, took_of}
use Rattle.sj_machine.specs.Sound.{program_at}
use Rattle.sj_machine.specs.declared.machine.Machine.{Machine}
use Rattle.sj_rules.specs.Limits.{limit_of_hops}
use Rattle.sj_rules.specs.Mapped.{held_with, main_with}
use Rattle.sj_rules.specs.Node as rules
use Rattle.sj_rules.specs.Node.{NodeAt, close_act, delegate_act, held_behind_send, held_behind_take, is_free, put, send_act, take_act, take_from, with_main, with_old, work_of_take}
use Rattle.sj_rules.specs.Record.{Carry, Closed, Expected, Fin, Held, HeldAt, MainAt, Parked, other_end}
use Rattle.sj_rules.specs.Rows.{Worked}
use Rattle.sj_node.specs.Calls.{call_of, silent}
use Rattle.sj_node.specs.Node.{Does, act_of, is_below_count, main_of, next_head, node_at, note_for, play_here, steps_of, takes_in, wants_of}
use Rattle.sj_node.specs.Play.{awaited_place, done_by}
use Rattle.sj_node.specs.Taking.{held_head}
use Rattle.sj_node.specs.declared.node.Node.{Node}
use Rattle.sj_node.proofs.ActLemmas.{act_at}

-- the program goes on
abbrev pub with_program : Program → Worked Place (NodeAt Place Program) → Worked Place (NodeAt Place Program)
with_program g w = record w { state = record w.state { program = g } }

goes_on : (old mid : Node) (m : Machine) (o : Option (Worked Place (NodeAt Place Program))) (g : Program) (clock : ℕ) (event : Event) (note : Note)
    → Does old o clock event note mid → program_at m ≡ g → Does old (option_map (with_program g) o) clock event note (record mid { machine = m })
goes_on old mid m None g clock event note did is = absurd did
goes_on old mid m (Some left) g clock event note did is = record {
  node = λ i. record (did.node i) { program = is i };
  posts = did.posts;
  log = did.log;
  table = did.table;
  party = did.party;
  parties = did.parties;
  connects = did.connects;
}

-- a node that did a call, and whose machine goes on, acted
pub acted : (old mid : Node) (m : Machine) (o : Option (Worked Place (NodeAt Place Program))) (g : Program) (clock : ℕ) (event : Event) (note : Note)
    → act_of old ≡ option_map (with_program g) o → note_for old ≡ note → program_at m ≡ g
    → Does old o clock event note mid → Does old (act_of old) clock event (note_for old) (record mid { machine = m })
acted old mid m o g clock event note act noted is did =
    subst (λ (t : Option (Worked Place (NodeAt Place Program))). Does old t clock event (note_for old) (record mid { machine = m })) (sym act)
    (subst (λ (k : Note). Does old (option_map (with_program g) o) clock event k (record mid { machine = m })) (sym noted) (goes_on old mid m o g clock event note did is))

-- ---- what a row leaves, by its play

through : {A B C : Type 0} (f : A → C) (g : A → B) (h : B → C) (o : Option A) → ((x : A) → f x ≡ h (g x)) → option_map f o ≡ option_map h (option_map g o)
through f g h None same = refl
through f g h (Some x) same = ap (λ y. Some y) (same x)

-- where a message is sent, if anything lets it
sent_by : (n : Node) (at : NodeAt Place Program) (e : EndId) (msg : Msg) (r : Option (MainAt Place)) (b : Bool) (g : Program) → (play_here n).goes at.program None ≡ g
    → (if b then send_act (play_here n) at e msg r else None) ≡ option_map (with_program g) (if b then send_act (silent n.parties) at e msg r else None)
sent_by n at e msg r false g is = refl
sent_by n at e msg None true g is = refl
sent_by n at e msg (Some (Closed c)) true g is = refl
sent_by n at e msg (Some (Expected keeper place deferred)) true g is = refl
sent_by n at e msg (Some (Held h)) true g is =
    through _ _ (with_program g) (after_place h.end.place Out msg)
    (λ p i. record {
      state = with_main e (Some (Held (held_behind_send h msg p))) (record at { program = is i });
      posts = record { party = h.end.peer; body = Carry (other_end h.end.id) h.end.conn h.end.sent h.end.taken msg } ∷ [];
    })

-- where an end is delegated
delegated_by : (n : Node) (at : NodeAt Place Program) (c e : EndId) (r : Option (MainAt Place)) (b : Bool) (g : Program) → (play_here n).goes at.program None ≡ g
    → (if b then delegate_act (play_here n) n.party at c e r else None) ≡ option_map (with_program g) (if b then delegate_act (silent n.parties) n.party at c e r else None)
delegated_by n at c e r false g is = refl
delegated_by n at c e None true g is = refl
delegated_by n at c e (Some (Closed d)) true g is = refl
delegated_by n at c e (Some (Expected keeper place deferred)) true g is = refl
delegated_by n at c e (Some (Held h)) true g is =
    sent_by n (with_main e None (with_old e (Some (Parked (record h.end { hops = h.end.hops + 1 }))) at)) c (msgs.Sess e.sess e.side n.party) (put e None at.main c) (nat_lt h.end.hops limit_of_hops) g is

pub chosen : {X Y : Type 0} (b : Bool) (x : Y) (w : X) (h : X → Y) → x ≡ h w → (if b then Some x else None) ≡ option_map h (if b then Some w else None)
chosen true x w h same = ap (λ y. Some y) same
chosen false x w h same = refl

-- where an end is closed
closed_by : (n : Node) (at : NodeAt Place Program) (e : EndId) (r : Option (MainAt Place)) (g : Program) → (play_here n).goes at.program None ≡ g
    → close_act (play_here n) at e r ≡ option_map (with_program g) (close_act (silent n.parties) at e r)
closed_by n at e None g is = refl
closed_by n at e (Some (Closed c)) g is = refl
closed_by n at e (Some (Expected keeper place deferred)) g is = refl
closed_by n at e (Some (Held h)) g is =
    chosen (is_done h.end.place) _ _ (with_program g)
    (λ i. record {
      state = with_main e (if h.fin then None else Some (Closed h.end)) (record at { program = is i });
      posts = record { party = h.end.peer; body = Fin (other_end h.end.id) h.end.conn h.end.sent } ∷ [];
    })

brought : (place : Place) (m : Msg) (at : NodeAt Place Program) (g : Program) → work_of_take place m (record at { program = g }) ≡ with_program g (work_of_take place m at)
brought place (msgs.Int k) at g = refl
brought place (msgs.Bool b) at g = refl
brought place (msgs.Text k) at g = refl
brought place (msgs.Label k) at g = refl
brought place (msgs.More b) at g = refl
brought place (msgs.Sess s d k) at g = refl

fitting : {A B C : Type 0} (fit free : Bool) (f : A → C) (g : A → B) (h : B → C) (o : Option A) → fit ≡ true → ((x : A) → f x ≡ h (g x))
    → (if fit && free then option_map f o else None) ≡ option_map h (if free then option_map g o else None)
fitting true true f g h o fits same = through f g h o same
fitting true false f g h o fits same = refl
fitting false free f g h o fits same = cc

-- where a message is taken, which fits
taken_by : (n : Node) (e : EndId) (place : Place) (m : Msg) (r : Option (MainAt Spot)) → held_head r ≡ Some m → takes_in n m ≡ true
    → take_act (play_here n) (node_at n) e place (option_map (main_with (place_in n.table)) r)
    ≡ option_map (with_program (took_of (program_at n.machine) m)) (take_act (silent n.parties) (node_at n) e place (option_map (main_with (place_in n.table)) r))
taken_by n e place m None head fits = cc
taken_by n e place m (Some (Closed c)) head fits = cc
taken_by n e place m (Some (Expected keeper q deferred)) head fits = cc
taken_by n e place m (Some (Held held)) head fits = go held.untaken head
  where
    go : (ms : List Msg) → slice_get ms 0 ≡ Some m
        → take_from (play_here n) (node_at n) e place (held_with (place_in n.table) held) ms
        ≡ option_map (with_program (took_of (program_at n.machine) m)) (take_from (silent n.parties) (node_at n) e place (held_with (place_in n.table) held) ms)
    go [] head = cc
    go (x ∷ rest) head =
        let same : m ≡ x = cc in
        let h : HeldAt Place = held_with (place_in n.table) held in
        subst
        (λ (t : Msg). take_from (play_here n) (node_at n) e place h (t ∷ rest)
        ≡ option_map (with_program (took_of (program_at n.machine) m)) (take_from (silent n.parties) (node_at n) e place h (t ∷ rest)))
        same
        (fitting (takes_in n m) (is_free (node_at n) m) _ _ (with_program (took_of (program_at n.machine) m)) (after_place h.end.place Into m) fits
        (λ p. brought place m (with_main e (Some (Held (held_behind_take h rest p))) (node_at n)) (took_of (program_at n.machine) m)))

-- ---- each step is its call

pub sends_by : (n : Node) (e : EndId) (msg : Msg) → wants_of n ≡ wants.Send e msg → steps_of n < 10000
    → act_of n ≡ option_map (with_program (sent_of (program_at n.machine))) (call_of n (rules.sends e msg))
sends_by n e msg is steps =
    act_at n (wants.Send e msg) is steps
    ∙ sent_by n (node_at n) e msg ((node_at n).main e) (is_below_count ((node_at n).main e)) (sent_of (program_at n.machine)) (λ i. done_by (is i) (program_at n.machine))

pub delegates_by : (n : Node) (c e : EndId) → wants_of n ≡ wants.Delegate c e → steps_of n < 10000
    → act_of n ≡ option_map (with_program (sent_of (program_at n.machine))) (call_of n (rules.delegates c e))
delegates_by n c e is steps =
    act_at n (wants.Delegate c e) is steps
    ∙ delegated_by n (node_at n) c e ((node_at n).main e) (is_below_count ((node_at n).main c)) (sent_of (program_at n.machine)) (λ i. done_by (is i) (program_at n.machine))

pub closes_by : (n : Node) (e : EndId) → wants_of n ≡ wants.Close e → steps_of n < 10000
    → act_of n ≡ option_map (with_program (closed_of (program_at n.machine))) (call_of n (rules.closes e))
closes_by n e is steps =
    act_at n (wants.Close e) is steps
    ∙ closed_by n (node_at n) e ((node_at n).main e) (closed_of (program_at n.machine)) (λ i. done_by (is i) (program_at n.machine))

pub takes_by : (n : Node) (e : EndId) (a : Awaits) (m : Msg) → wants_of n ≡ wants.Take e a → steps_of n < 10000 → next_head n e ≡ Some m → takes_in n m ≡ true
    → act_of n ≡ option_map (with_program (took_of (program_at n.machine) m)) (call_of n (rules.takes e (awaited_place (start_in n.table) a)))
takes_by n e a m is steps head fits =
    act_at n (wants.Take e a) is steps ∙ taken_by n e (awaited_place (start_in n.table) a) m (main_of n e) head fits
