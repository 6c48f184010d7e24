-- Where joined logs are a history, the world to which they lead has each party's node, but for what
-- no entry reports.
use Rattle.std.proofs.Common.{◌≡◌, ◌∙◌, ℕ, ◌==◌, ◌+◌, ◌&&◌, max, Bool, true, false, if◌then◌else◌, List, [], ◌∷◌, map, Some, refl, sym, ap, subst, arith}
use Rattle.std.specs.Prelude.{nat_lt}
use Rattle.std.proofs.lemmas.Bool.Decides.{nat_tests}
use Rattle.std.proofs.lemmas.Bool.{eq-eqb}
use Rattle.sj_rules.specs.Limits.{clock_end}
use Rattle.sj_rules.specs.Frames.{FrameAt, is_proper, is_within}
use Rattle.sj_rules.specs.History.{IsLog, due, event_note, front_note}
use Rattle.sj_rules.specs.Log.{EntryAt, LineAt, body_note, part_of}
use Rattle.sj_rules.specs.Node.{NodeAt, Play, acts, arrives}
use Rattle.sj_rules.specs.NodeRun.{Acted, Came, Deed, NodeRun, StepAt, Steps, deed_done, deed_note, event_of}
use Rattle.sj_rules.specs.Rows.{Worked}
use Rattle.sj_rules.specs.World.{Event, WorldAt, after_event, happens, with_lane}
use Rattle.sj_run.proofs.BareActLemmas.{acts_alike, acts_fit}
use Rattle.sj_run.proofs.BareHeldLemmas.{if_some}
use Rattle.sj_run.proofs.BareArrivalLemmas.{arrives_alike}
use Rattle.sj_run.proofs.BareNodeLemmas.{bare_node, node_by}
use Rattle.sj_run.proofs.EventLemmas.{DueSo, acted, came, due_so, others_stay, own_node}

pub same_some : {X : Type 0} (x y : X) → Some x ≡ Some y → x ≡ y
same_some x y e = cc e

pub first_true : (a b : Bool) → (a && b) ≡ true → a ≡ true
first_true true b e = refl
first_true false b e = absurd (cc e)

part_own : (p : ℕ) (l : LineAt) (ls : List LineAt) → (p == l.party) ≡ true → part_of p (l ∷ ls) ≡ l.entry ∷ part_of p ls
part_own p l ls e = rw e refl

part_other : (p : ℕ) (l : LineAt) (ls : List LineAt) → (p == l.party) ≡ false → part_of p (l ∷ ls) ≡ part_of p ls
part_other p l ls e = rw e refl

-- a party that plays as the world does at each world that is seen
module _ {P Q : Type 0} (play own : Play P Q) (blank : own.blank ≡ play.blank) (parties : own.parties ≡ play.parties) (pick : ℕ → ℕ → ℕ) (p : ℕ) (Seen : WorldAt P Q → Type 0)
    (on : (w v : WorldAt P Q) (q : ℕ) (event : Event) → Seen w → happens own pick w q event ≡ Some v → Seen v) (agree : (w : WorldAt P Q) → Seen w → acts play p (w.nodes p) ≡ acts own p (w.nodes p)) where
  step_alike : (w v : WorldAt P Q) (m n : NodeAt P Q) (s : StepAt P) (l : LineAt) → Seen w → bare_node m ≡ bare_node (w.nodes p) → Steps play pick p m s n → s.entry ≡ l.entry
      → happens own pick w p l.entry.event ≡ Some v → due own pick w p l.entry.event ≡ Some l → bare_node n ≡ bare_node (v.nodes p)
  step_alike w v m n s l seen same st entry h d = by s.deed refl
    where
      so : DueSo own pick w p l.entry.event l
      so = due_so own pick w p l.entry.event l d

      clock_is : s.entry.clock ≡ (v.nodes p).clock
      clock_is = ap (λ (k : EntryAt). k.clock) entry ∙ sym so.clock ∙ ap (λ (x : WorldAt P Q). (x.nodes p).clock) (same_some so.next v (sym so.happened ∙ h))

      event_is : (d : Deed P) → s.deed ≡ d → l.entry.event ≡ event_of d
      event_is d is = ap (λ (k : EntryAt). k.event) (sym entry) ∙ st.event ∙ ap event_of is

      -- the same state, and the clock of the entry
      after_alike : (clock : ℕ) (lanes : ℕ → ℕ → List (FrameAt P)) (left : Worked P (NodeAt P Q)) → after_event w p clock lanes left ≡ v → bare_node st.done.state ≡ bare_node left.state → bare_node n ≡ bare_node (v.nodes p)
      after_alike clock lanes left is state =
          let here : v.nodes p ≡ record left.state { clock = clock } = ap (λ (x : WorldAt P Q). x.nodes p) (sym is) ∙ own_node own pick w p p clock lanes left (eq-eqb p p refl) in
          let clocks : s.entry.clock ≡ clock = clock_is ∙ ap (λ (x : NodeAt P Q). x.clock) here in
          ap bare_node st.after ∙ (λ i. record (state i) { clock = clocks i }) ∙ ap bare_node (sym here)

      by : (d : Deed P) → s.deed ≡ d → bare_node n ≡ bare_node (v.nodes p)
      by Acted is =
          let a = acted own pick w p v (subst (λ (k : Event). happens own pick w p k ≡ Some v) (event_is Acted is) h) in
          let row : acts play p m ≡ Some st.done = ap (deed_done play pick p m) (sym is) ∙ st.row in
          let own_row : acts play p (w.nodes p) ≡ Some a.left = agree w seen ∙ a.row in
          let alike = acts_alike play p m (w.nodes p) same (acts_fit play p m st.done row) (acts_fit play p (w.nodes p) a.left own_row) in
          after_alike ((w.nodes p).clock + 1) w.lanes a.left a.after (same_some _ _ (ap node_by (sym row) ∙ alike ∙ ap node_by own_row))
      by (Came q f) is =
          let c = came own pick w p q v (subst (λ (k : Event). happens own pick w p k ≡ Some v) (event_is (Came q f) is) h) in
          let row : arrives play.blank play.parties pick m q f ≡ Some st.done = ap (deed_done play pick p m) (sym is) ∙ st.row in
          let own_row : arrives play.blank play.parties pick (w.nodes p) q c.frame ≡ Some c.left = (λ i. arrives (sym blank i) (sym parties i) pick (w.nodes p) q c.frame) ∙ c.row in
          let here : Some (body_note f.body) ≡ Some s.entry.note = ap (deed_note play p m) (sym is) ∙ st.note in
          let there : Some (body_note c.frame.body) ≡ Some l.entry.note = ap front_note (sym c.front) ∙ ap (event_note own w p) (sym (event_is (Came q f) is)) ∙ so.note in
          let note : body_note f.body ≡ body_note c.frame.body = same_some _ _ (here ∙ ap (λ (k : EntryAt). Some k.note) entry ∙ sym there) in
          let low : nat_lt f.clock clock_end ≡ true = first_true _ (is_within play.parties f.body) (if_some (is_proper play.parties f) _ st.done row) in
          let own_low : nat_lt c.frame.clock clock_end ≡ true = first_true _ (is_within play.parties c.frame.body) (if_some (is_proper play.parties c.frame) _ c.left own_row) in
          let alike = arrives_alike play.blank pick play.parties m (w.nodes p) same q f c.frame note (low ∙ sym own_low) in
          after_alike (max (w.nodes p).clock c.frame.clock + 1) (with_lane q p c.rest w.lanes) c.left c.after (same_some _ _ (ap node_by (sym row) ∙ alike ∙ ap node_by own_row))

  -- so the world to which lines lead has the party's node, where the party's part of them is what
  -- its steps logged
  pub nodes_alike : (lines : List LineAt) (w v : WorldAt P Q) (m n : NodeAt P Q) (steps : List (StepAt P)) → Seen w → bare_node m ≡ bare_node (w.nodes p) → NodeRun play pick p m steps n
      → map (λ (s : StepAt P). s.entry) steps ≡ part_of p lines → IsLog own pick w lines v → bare_node n ≡ bare_node (v.nodes p)
  nodes_alike [] w v m n [] seen same run is log = ap bare_node (sym run) ∙ same ∙ ap (λ (x : WorldAt P Q). bare_node (x.nodes p)) log
  nodes_alike [] w v m n (s ∷ ss) seen same run is log = absurd (cc is)
  nodes_alike (l ∷ ls) w v m n steps seen same run is log = by (p == l.party) refl (nodes_alike ls)
    where
      by : (b : Bool) → (p == l.party) ≡ b
          → ((w v : WorldAt P Q) (m n : NodeAt P Q) (steps : List (StepAt P)) → Seen w → bare_node m ≡ bare_node (w.nodes p) → NodeRun play pick p m steps n
          → map (λ (s : StepAt P). s.entry) steps ≡ part_of p ls → IsLog own pick w ls v → bare_node n ≡ bare_node (v.nodes p))
          → bare_node n ≡ bare_node (v.nodes p)
      by false other rest =
          rest log.0 v m n steps (on w log.0 l.party l.entry.event seen log.1)
          (same ∙ ap bare_node (sym (others_stay own pick w l.party p l.entry.event log.0 other log.1))) run (is ∙ part_other p l ls other) log.3
      by true own_line rest = took steps run (is ∙ part_own p l ls own_line)
        where
          party : p ≡ l.party
          party = grind (arith, nat_tests)

          took : (steps : List (StepAt P)) → NodeRun play pick p m steps n → map (λ (s : StepAt P). s.entry) steps ≡ l.entry ∷ part_of p ls → bare_node n ≡ bare_node (v.nodes p)
          took [] run parts = absurd (cc parts)
          took (s ∷ ss) run parts =
              let entry : s.entry ≡ l.entry = cc parts in
              let more : map (λ (s : StepAt P). s.entry) ss ≡ part_of p ls = cc parts in
              let h : happens own pick w p l.entry.event ≡ Some log.0 = subst (λ k. happens own pick w k l.entry.event ≡ Some log.0) (sym party) log.1 in
              let d : due own pick w p l.entry.event ≡ Some l = subst (λ k. due own pick w k l.entry.event ≡ Some l) (sym party) log.2 in
              rest log.0 v run.0 n ss (on w log.0 p l.entry.event seen h) (step_alike w log.0 m run.0 s l seen same run.1 entry h d) run.2 more log.3
