-- Each step has a line, and a run that was replayed is a log: so two runs with the same lines are
-- the same run.
use Rattle.std.proofs.Common.{◌≡◌, ℕ, List, [], ◌∷◌, refl, sym, ap, subst, ◌∙◌}
use Rattle.std.specs.Prelude.{Bool, true, false, Option, Some, None, map, option_map, option_and_then}
use Rattle.sj_base.specs.declared.EndId.{EndId}
use Rattle.sj_base.specs.declared.Msg.{Msg}
use Rattle.sj_rules.specs.Record.{MainAt, Held, Closed, Expected, HeldAt}
use Rattle.sj_rules.specs.Rows.{Worked}
use Rattle.sj_rules.specs.Node.{Play, NodeAt, Want, ended, local, sends, delegates, takes, closes, requests, accepts, acts, accept_offered, act_by, take_act, take_from}
use Rattle.sj_rules.specs.Frames.{FrameAt}
use Rattle.sj_rules.specs.World.{WorldAt, Event, Act, Deliver, Turn, happens, delivery_of}
use Rattle.sj_rules.specs.Opened.{opened_number, smallest}
use Rattle.sj_rules.specs.Log.{NoteAt, LineAt, Took, Local, Request, Accept, act_note, take_note, body_note, head_note}
use Rattle.sj_rules.specs.History.{IsLog, due, line_after, turn_of, Replay, replay, with_line, event_note, front_note}
use Rattle.sj_joined_lemmas.proofs.HistoryLemmas.{some_same, same_world}

module _ {P Q : Type 0} (play : Play P Q) (pick : ℕ → ℕ → ℕ) where
  -- a take has a head
  head_noted : (n : NodeAt P Q) (e : EndId) (place : P) (h : HeldAt P) (ms : List Msg) (done : Worked P (NodeAt P Q)) →
      take_from play n e place h ms ≡ Some done → (note : NoteAt) × (head_note e ms ≡ Some note)
  head_noted n e place h [] done row = absurd (cc row)
  head_noted n e place h (m ∷ ms) done row = (Took e m, refl)

  -- the end is Held
  take_noted : (n : NodeAt P Q) (e : EndId) (place : P) (m : Option (MainAt P)) (done : Worked P (NodeAt P Q)) →
      take_act play n e place m ≡ Some done → (note : NoteAt) × (take_note e m ≡ Some note)
  take_noted n e place None done row = absurd (cc row)
  take_noted n e place (Some (Held h)) done row = head_noted n e place h h.untaken done row
  take_noted n e place (Some (Closed c)) done row = absurd (cc row)
  take_noted n e place (Some (Expected keeper at ds)) done row = absurd (cc row)

  -- what is accepted was offered
  accept_noted : (n : NodeAt P Q) (place : P) (from : ℕ) (o : Option ℕ) (done : Worked P (NodeAt P Q)) →
      accept_offered play n place from o ≡ Some done → (note : NoteAt) × (option_map (λ sess. Accept sess from) o ≡ Some note)
  accept_noted n place from None done row = absurd (cc row)
  accept_noted n place from (Some sess) done row = (Accept sess from, refl)

  -- an act has a note
  act_noted : (party : ℕ) (n : NodeAt P Q) (want : Want P) (done : Worked P (NodeAt P Q)) → act_by play party n want ≡ Some done → (note : NoteAt) × (act_note party n want ≡ Some note)
  act_noted party n ended done row = absurd (cc row)
  act_noted party n local done row = (Local, refl)
  act_noted party n (sends e msg) done row = (_, refl)
  act_noted party n (delegates carrier e) done row = (_, refl)
  act_noted party n (takes e place) done row = take_noted n e place (n.main e) done row
  act_noted party n (closes e) done row = (_, refl)
  act_noted party n (requests place to) done row = (Request (opened_number party n.requests) to, refl)
  act_noted party n (accepts place from) done row = accept_noted n place from (smallest (n.offers from)) done row

  -- so has the next step of a program
  acts_noted : (party : ℕ) (n : NodeAt P Q) (worn : Bool) (done : Worked P (NodeAt P Q)) → play.is_worn n.program ≡ worn → acts play party n ≡ Some done →
      (note : NoteAt) × (act_note party n (play.wants n.program) ≡ Some note)
  acts_noted party n true done is row = absurd (cc (rw is at row))
  acts_noted party n false done is row = act_noted party n (play.wants n.program) done (rw is at row)

  -- a delivery has a frame
  came_noted : (w : WorldAt P Q) (p q : ℕ) (lane : List (FrameAt P)) (v : WorldAt P Q) → delivery_of play pick w p q lane ≡ Some v → (note : NoteAt) × (front_note lane ≡ Some note)
  came_noted w p q [] v e = absurd (cc e)
  came_noted w p q (f ∷ rest) v e = (body_note f.body, refl)

  -- a mapped value comes from a value
  done_of : {X Y : Type 0} → (f : X → Y) (o : Option X) (y : Y) → option_map f o ≡ Some y → (x : X) × (o ≡ Some x)
  done_of f None y e = absurd (cc e)
  done_of f (Some x) y e = (x, refl)

  -- a step has a note
  pub step_noted : (w : WorldAt P Q) (p : ℕ) (event : Event) (v : WorldAt P Q) → happens play pick w p event ≡ Some v → (note : NoteAt) × (event_note play w p event ≡ Some note)
  step_noted w p Act v e =
      let d : (done : Worked P (NodeAt P Q)) × (acts play p (w.nodes p) ≡ Some done) = done_of _ (acts play p (w.nodes p)) v e in
      acts_noted p (w.nodes p) (play.is_worn (w.nodes p).program) d.0 refl d.1
  step_noted w p (Deliver q) v e = came_noted w p q (w.lanes q p) v e

  -- so it has a line
  pub step_lined : (w : WorldAt P Q) (p : ℕ) (event : Event) (v : WorldAt P Q) → happens play pick w p event ≡ Some v →
      (note : NoteAt) × (due play pick w p event ≡ Some (record { party = p; entry = record { clock = (v.nodes p).clock; event = event; note = note } }))
  step_lined w p event v e = let n = step_noted w p event v e in (n.0, rw (e, n.1))

  -- what was replayed is a log of these turns
  pub record Logged (ts : List Turn) (w : WorldAt P Q) (r : Replay P Q) : Type 0 where
    pub log : IsLog play pick w r.lines r.world
    pub turns : map turn_of r.lines ≡ ts

  -- it has these turns
  pub replay_logs : (ts : List Turn) (w : WorldAt P Q) (r : Replay P Q) → replay play pick ts w ≡ Some r → Logged ts w r
  replay_logs [] w r e =
      let same : ◌≡◌ {A = Replay P Q} (record { lines = []; world = w }) r = some_same _ r e in
      subst (λ (s : Replay P Q). Logged [] w s) same (record { log = refl; turns = refl })
  replay_logs (t ∷ ts) w r e = by (replay_logs ts) (happens play pick w t.party t.event) refl e
    where
      by : ((u : WorldAt P Q) (s : Replay P Q) → replay play pick ts u ≡ Some s → Logged ts u s) → (h : Option (WorldAt P Q)) →
          happens play pick w t.party t.event ≡ h →
          with_line (option_and_then (line_after play w t.party t.event) h) (option_and_then (replay play pick ts) h) ≡ Some r → Logged (t ∷ ts) w r
      by others None is e = absurd (cc e)
      by others (Some v) is e = let n = step_noted w t.party t.event v is in more n.0 n.1 (replay play pick ts v) refl (rw n.1 at e)
        where
          more : (note : NoteAt) → event_note play w t.party t.event ≡ Some note → (s : Option (Replay P Q)) → replay play pick ts v ≡ s →
              with_line (Some (record { party = t.party; entry = record { clock = (v.nodes t.party).clock; event = t.event; note = note } })) s ≡ Some r → Logged (t ∷ ts) w r
          more note n None is_none e = absurd (cc e)
          more note n (Some s) is_some e =
              let k : Logged ts v s = others v s is_some in
              let l : LineAt = record { party = t.party; entry = record { clock = (v.nodes t.party).clock; event = t.event; note = note } } in
              let d : due play pick w t.party t.event ≡ Some (record { party = t.party; entry = record { clock = (v.nodes t.party).clock; event = t.event; note = note } }) = rw (is, n) in
              let same : ◌≡◌ {A = Replay P Q} (record { lines = l ∷ s.lines; world = s.world }) r = some_same _ r e in
              subst (λ (u : Replay P Q). Logged (t ∷ ts) w u) same (record { log = (v, is, d, k.log); turns = ap (λ (l : List Turn). t ∷ l) k.turns })

  -- two runs with the same lines are the same run
  pub same_run : (ts us : List Turn) (w : WorldAt P Q) (r s : Replay P Q) → replay play pick ts w ≡ Some r → replay play pick us w ≡ Some s → r.lines ≡ s.lines →
      (ts ≡ us) × (r.world ≡ s.world)
  same_run ts us w r s a b same =
      let k : Logged ts w r = replay_logs ts w r a in
      let m : Logged us w s = replay_logs us w s b in (
        sym k.turns ∙ ap (map turn_of) same ∙ m.turns,
        same_world play pick r.lines w r.world s.world k.log (subst (λ (l : List LineAt). IsLog play pick w l s.world) (sym same) m.log),
      )
