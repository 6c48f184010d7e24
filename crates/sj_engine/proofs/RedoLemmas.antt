-- A step of a node whose entry is the one that was noted.
use Rattle.std.proofs.Common.{◌≡◌, ◌+◌, ◌-◌, List, [], ◌∷◌, ◌++◌, length, map, get_or, inr, max, ℕ, sym, ap, ◌∙◌, arith}
use Rattle.std.specs.Prelude.{Option, Some, None, Result, Ok, Err, OnErr, OnOk}
use Rattle.std.specs.Result.{IfErr}
use Rattle.std.proofs.Math.Seq.{get_or-append_seam}
use Rattle.std.proofs.Math.ListN.{get_or-map}
use Rattle.std.proofs.lemmas.List.{length-append, length-map}
use Rattle.sj_lang.specs.Place.{Place}
use Rattle.sj_end.specs.declared.note.Entry.{Entry}
use Rattle.sj_end.specs.declared.note.Event as happened
use Rattle.sj_end.specs.declared.note.Event.TheVariants as events
use Rattle.sj_end.specs.declared.note.Note.{Note}
use Rattle.sj_end.specs.Lines.{entry_at}
use Rattle.sj_end.specs.Views.{note_at}
use Rattle.sj_rules.specs.Frames.{FrameAt}
use Rattle.sj_rules.specs.Log.{EntryAt}
use Rattle.sj_rules.specs.Node.{NodeAt}
use Rattle.sj_rules.specs.NodeRun.{Deed}
use Rattle.sj_rules.specs.Rows.{Worked}
use Rattle.sj_semantics.specs.Program.{Program}
use Rattle.sj_table.specs.declared.table.Spot.{Spot}
use Rattle.sj_node.specs.declared.node.Node.{Node}
use Rattle.sj_node.specs.declared.refusal.Halt.{Halt}
use Rattle.sj_node.specs.Node.{Does, act_of, clock_of, delivery, due_if, due_of, log_of, node_at, node_halt, note_for}
use Rattle.sj_engine.specs.declared.refusal.RedoRefusal.{RedoRefusal}
use Rattle.sj_engine.specs.declared.refusal.RedoRefusal.TheVariants as misfits
use Rattle.sj_work.specs.Laned.{entries_of}
use Rattle.sj_work.proofs.NodeLemmas.{Stepped}
use Rattle.sj_engine.specs.Redone.{IsLast, IsNoAct, IsNoDelivery, IsOther, Redone, came_entry}

-- the last of a list
last_is : (l : List Entry) (before : List EntryAt) (s : EntryAt) (e : Entry) → map entry_at l ≡ before ++ s ∷ [] → get_or l (length l - 1) e ≡ e → s ≡ entry_at e
last_is l before s e parts last =
    let count : length l ≡ length before + 1 = sym (length-map l entry_at) ∙ ap (λ (x : List EntryAt). length x) parts ∙ length-append before (s ∷ []) in
    let place : length l - 1 ≡ length before = omega (arith, count) in
    sym (get_or-append_seam before s [] (entry_at e)) ∙ ap (λ (x : List EntryAt). get_or x (length before) (entry_at e)) (sym parts)
    ∙ get_or-map entry_at l (length before) e ∙ ap (λ n. entry_at (get_or l n e)) (sym place) ∙ ap entry_at last

pub redone : (a b : Node) (deed : Deed Place) (e : Entry) → Stepped a b deed → IsLast b e → Redone a b deed e
redone a b deed e s last =
    let noted : s.step.entry ≡ entry_at e = last_is (log_of b) (entries_of (log_of a)) s.step.entry e s.log last in
    record {
      step = s.step;
      steps = s.steps;
      is = s.is;
      noted = noted;
      log = s.log ∙ ap (λ (x : EntryAt). entries_of (log_of a) ++ x ∷ []) noted;
      box = s.box;
      play = s.keeps.play;
      party = s.keeps.party;
      parties = s.keeps.parties;
    }

-- what follows where an answer is Ok
pub ok_then : {A E : Type 0} → (P Q : Type 0) (r : Result A E) → (P → Q) → OnOk r P → OnOk r Q
ok_then P Q (Ok x) f p = f p
ok_then P Q (Err e) f p = tt

-- what follows where it is Err
pub err_then : {A E : Type 0} → (P : Type 0) (Q : E → Type 0) (r : Result A E) → (P → (e : E) → Q e) → OnErr r P → IfErr r Q
err_then P Q (Ok x) f p = tt
err_then P Q (Err e) f p = f p e

-- the last of what the node noted is the event's
did_note : (a b : Node) (o : Option (Worked Place (NodeAt Place Program))) (clock : ℕ) (event : happened.Event) (note : Note) → Does a o clock event note b
    → log_of b ≡ log_of a ++ record { clock = clock; event = event; note = note } ∷ []
did_note a b None clock event note d = absurd d
did_note a b (Some left) clock event note d = d.log

due_is : (h : Option Halt) (d e : Entry) → due_if h d ≡ Some e → d ≡ e
due_is None d e is = cc
due_is (Some h) d e is = absurd cc

-- an act that noted something else than the entry that is due
pub no_act : (a b : Node) (e : Entry) → Does a (act_of a) (clock_of a + 1) events.Act (note_for a) b → IsOther b e → (r : RedoRefusal) → r ≡ misfits.Misfit → IsNoAct a e
no_act a b e does other r misfit =
    inr (λ due. other (log_of a) (record { clock = clock_of a + 1; event = events.Act; note = note_for a })
    (did_note a b (act_of a) (clock_of a + 1) events.Act (note_for a) does)
    (due_is (node_halt a) (record { clock = clock_of a + 1; event = events.Act; note = note_for a }) e due))

-- a delivery that did
pub no_delivery : (a b : Node) (from : ℕ) (f : FrameAt Spot) (e : Entry) → Does a (delivery a from f) (max (clock_of a) f.clock + 1) (events.Deliver from) (note_at f.body) b
    → IsOther b e → (r : RedoRefusal) → r ≡ misfits.Misfit → IsNoDelivery a from f e
no_delivery a b from f e does other r misfit =
    inr (other (log_of a) (came_entry a from f) (did_note a b (delivery a from f) (max (clock_of a) f.clock + 1) (events.Deliver from) (note_at f.body) does))

-- the last of a list with one more
pub last_here : (l before : List Entry) (d e : Entry) → l ≡ before ++ d ∷ [] → get_or l (length l - 1) e ≡ d
last_here l before d e is =
    let count : length l ≡ length before + 1 = ap (λ (x : List Entry). length x) is ∙ length-append before (d ∷ []) in
    let place : length l - 1 ≡ length before = omega (arith, count) in
    ap (λ n. get_or l n e) place ∙ ap (λ (x : List Entry). get_or x (length before) e) is ∙ get_or-append_seam before d [] e
