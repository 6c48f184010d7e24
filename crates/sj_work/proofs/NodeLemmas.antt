-- An event of a node is a step of the rules, with the entry and the frames that they ask for.
use Rattle.std.proofs.Common.{◌≡◌, ℕ, ◌+◌, ◌<◌, ◌≤◌, max, [], ◌∷◌, ◌++◌, Option, Some, None, refl, ap, sym, ◌∙◌, arith, subst, if◌then◌else◌}
use Rattle.std.proofs.lemmas.List.{map-append}
use Rattle.sj_lang.specs.Place.{Place, done}
use Rattle.sj_table.specs.declared.table.Spot.{Spot}
use Rattle.sj_table.specs.Spots.{place_in, start_in}
use Rattle.sj_semantics.specs.Program.{Program}
use Rattle.sj_machine.specs.Sound.{program_at}
use Rattle.sj_end.specs.declared.note.Event as happened
use Rattle.sj_end.specs.declared.note.Event.TheVariants as events
use Rattle.sj_end.specs.declared.note.Note.{Note}
use Rattle.sj_end.specs.Views.{note_at}
use Rattle.sj_rules.specs.Frames.{FrameAt, frames_for}
use Rattle.sj_rules.specs.Mapped.{body_with, frame_with}
use Rattle.sj_rules.specs.Node.{NodeAt, acts, act_by, arrives, comes_or_opens}
use Rattle.sj_rules.proofs.FrameLemmas.{proper-with}
use Rattle.sj_rules.specs.Rows.{Worked}
use Rattle.sj_rules.specs.NodeRun.{Deed, Acted, Came, StepAt, Steps, frame_told, told_frames}
use Rattle.sj_node.specs.declared.node.Node.{Node}
use Rattle.sj_node.specs.Node.{Did, Does, Stays, act_of, clock_of, connect_count, delivery, has_room, log_of, node_at, note_for, outbox_of, play_here}
use Rattle.sj_node.specs.Play.{next_want, play_with}
use Rattle.sj_node.specs.Reading.{parties_of, party_of, table_of, TakesOut}
use Rattle.sj_end.specs.Lines.{entry_at}
use Rattle.sj_work.specs.Laned.{entries_of}
use Rattle.sj_work.proofs.NoteLemmas.{act_noted, body_noted, then_some, else_some}

-- all that stays of a node whatever it does
pub record Keeps (a b : Node) : Type 0 where
  pub play : play_here b ≡ play_here a
  pub party : party_of b ≡ party_of a
  pub parties : parties_of b ≡ parties_of a
  pub table : table_of b ≡ table_of a
  pub connects : connect_count b ≡ connect_count a
  pub clock : clock_of a ≤ clock_of b

-- the node did that, by a step of the rules
pub record Stepped (a b : Node) (deed : Deed Place) : Type 0 where
  pub step : StepAt Place
  pub steps : Steps (play_here a) max (party_of a) (node_at a) step (node_at b)
  pub is : step.deed ≡ deed
  pub log : entries_of (log_of b) ≡ entries_of (log_of a) ++ step.entry ∷ []
  pub box : (q : ℕ) → told_frames done (outbox_of b q) ≡ told_frames done (outbox_of a q) ++ told_frames done (frames_for q step.entry.clock step.posts)
  pub keeps : Keeps a b
  pub rises : clock_of a < clock_of b

-- what was done, where something was
did_of : (a b : Node) (o : Option (Worked Place (NodeAt Place Program))) (clock : ℕ) (event : happened.Event) (note : Note) → Does a o clock event note b
    → (left : Worked Place (NodeAt Place Program)) × (o ≡ Some left) × Did a left clock event note b
did_of a b None clock event note d = absurd d
did_of a b (Some left) clock event note d = (left, refl, d)

-- the clock is that of the event
did_clock : (a b : Node) (left : Worked Place (NodeAt Place Program)) (clock : ℕ) (event : happened.Event) (note : Note) → Did a left clock event note b → clock_of b ≡ clock
did_clock a b left clock event note d = ap (λ (n : NodeAt Place Program). n.clock) d.node

did_keeps : (a b : Node) (left : Worked Place (NodeAt Place Program)) (clock : ℕ) (event : happened.Event) (note : Note) → Did a left clock event note b → clock_of a < clock → Keeps a b
did_keeps a b left clock event note d rises = record {
  play = λ i. play_with (start_in (d.table i)) (d.connects i) (d.parties i);
  party = d.party;
  parties = d.parties;
  table = d.table;
  connects = d.connects;
  clock = let e = did_clock a b left clock event note d in omega arith;
}

did_log : (a b : Node) (left : Worked Place (NodeAt Place Program)) (clock : ℕ) (event : happened.Event) (note : Note) → Did a left clock event note b
    → entries_of (log_of b) ≡ entries_of (log_of a) ++ entry_at (record { clock = clock; event = event; note = note }) ∷ []
did_log a b left clock event note d = ap entries_of d.log ∙ map-append entry_at (log_of a) (record { clock = clock; event = event; note = note } ∷ [])

did_box : (a b : Node) (left : Worked Place (NodeAt Place Program)) (clock : ℕ) (event : happened.Event) (note : Note) → Did a left clock event note b
    → (q : ℕ) → told_frames done (outbox_of b q) ≡ told_frames done (outbox_of a q) ++ told_frames done (frames_for q clock left.posts)
did_box a b left clock event note d q = ap (told_frames done) (d.posts q) ∙ map-append (frame_told done) (outbox_of a q) (frames_for q clock left.posts)

-- an act
pub act_stepped : (a b : Node) → Does a (act_of a) (clock_of a + 1) events.Act (note_for a) b → Stepped a b Acted
act_stepped a b does =
    let d = did_of a b (act_of a) (clock_of a + 1) events.Act (note_for a) does in
    let row : acts (play_here a) a.party (node_at a) ≡ Some d.0 = then_some (has_room (node_at a).main (next_want (program_at a.machine))) (acts (play_here a) a.party (node_at a)) d.0 d.1 in
    let own : act_by (play_here a) a.party (node_at a) ((play_here a).wants (node_at a).program) ≡ Some d.0 =
    else_some ((play_here a).is_worn (node_at a).program) (act_by (play_here a) a.party (node_at a) ((play_here a).wants (node_at a).program)) d.0 row in
    let rises : clock_of a < clock_of a + 1 = omega arith in
    record {
      step = record { deed = Acted; entry = entry_at (record { clock = clock_of a + 1; event = events.Act; note = note_for a }); posts = d.0.posts };
      steps = record {
        done = d.0;
        row = row;
        posts = refl;
        clock = refl;
        event = refl;
        note = act_noted (play_here a) (start_in a.table) a.party (node_at a) (next_want (program_at a.machine)) d.0 own;
        after = d.2.node;
      };
      is = refl;
      log = did_log a b d.0 (clock_of a + 1) events.Act (note_for a) d.2;
      box = did_box a b d.0 (clock_of a + 1) events.Act (note_for a) d.2;
      keeps = did_keeps a b d.0 (clock_of a + 1) events.Act (note_for a) d.2 rises;
      rises = let e = did_clock a b d.0 (clock_of a + 1) events.Act (note_for a) d.2 in omega arith;
    }

-- what the rules make of a frame that comes to the node
pub arrives_so : (n : Node) (from : ℕ) (f : FrameAt Spot) → arrives done n.parties max (node_at n) from (frame_with (place_in n.table) f) ≡ delivery n from f
arrives_so n from f = ap (λ b. if b then comes_or_opens done max (node_at n) from (body_with (place_in n.table) f.body) else None) (proper-with (place_in n.table) n.parties f)

above : (m k : ℕ) → m < max m k + 1
above m k = omega arith

-- a frame that was delivered
pub came_stepped : (a b : Node) (from : ℕ) (f : FrameAt Spot) → Does a (delivery a from f) (max (clock_of a) f.clock + 1) (events.Deliver from) (note_at f.body) b
    → Stepped a b (Came from (frame_with (place_in a.table) f))
came_stepped a b from f does =
    let clock = max (clock_of a) f.clock + 1 in
    let note = note_at f.body in
    let d = did_of a b (delivery a from f) clock (events.Deliver from) note does in
    let row : arrives done a.parties max (node_at a) from (frame_with (place_in a.table) f) ≡ Some d.0 = arrives_so a from f ∙ d.1 in
    let rises : clock_of a < clock = above (clock_of a) f.clock in
    record {
      step = record { deed = Came from (frame_with (place_in a.table) f); entry = entry_at (record { clock = clock; event = events.Deliver from; note = note }); posts = d.0.posts };
      steps = record {
        done = d.0;
        row = row;
        posts = refl;
        clock = refl;
        event = refl;
        note = ap Some (body_noted (place_in a.table) f.body);
        after = d.2.node;
      };
      is = refl;
      log = did_log a b d.0 clock (events.Deliver from) note d.2;
      box = did_box a b d.0 clock (events.Deliver from) note d.2;
      keeps = did_keeps a b d.0 clock (events.Deliver from) note d.2 rises;
      rises = subst (λ c. clock_of a < c) (sym (did_clock a b d.0 clock (events.Deliver from) note d.2)) rises;
    }

-- nothing happened
pub record Quiet (a b : Node) : Type 0 where
  pub node : node_at a ≡ node_at b
  pub log : entries_of (log_of b) ≡ entries_of (log_of a)
  pub keeps : Keeps a b

pub quiet_itself : (n : Node) → Quiet n n
quiet_itself n = record { node = refl; log = refl; keeps = record { play = refl; party = refl; parties = refl; table = refl; connects = refl; clock = omega arith } }

-- a refusal
pub stays_quiet : (a b : Node) → Stays a b → Quiet a b
stays_quiet a b s = record {
  node = sym s.node;
  log = ap entries_of s.log;
  keeps = record {
    play = λ i. play_with (start_in (s.table i)) (s.connects i) (s.parties i);
    party = s.party;
    parties = s.parties;
    table = s.table;
    connects = s.connects;
    clock = let e : clock_of b ≡ clock_of a = ap (λ (n : NodeAt Place Program). n.clock) s.node in omega arith;
  };
}

-- frames that leave an outbox or come back
pub out_quiet : (a b : Node) → TakesOut a b → Quiet a b
out_quiet a b s = record {
  node = sym s.node;
  log = ap entries_of s.log;
  keeps = record {
    play = λ i. play_with (start_in (s.table i)) (s.connects i) (s.parties i);
    party = s.party;
    parties = s.parties;
    table = s.table;
    connects = s.connects;
    clock = let e : clock_of b ≡ clock_of a = ap (λ (n : NodeAt Place Program). n.clock) s.node in omega arith;
  };
}

pub quiet_later : (a b c : Node) → Quiet a b → Quiet b c → Quiet a c
quiet_later a b c x y = record {
  node = x.node ∙ y.node;
  log = y.log ∙ x.log;
  keeps = record {
    play = y.keeps.play ∙ x.keeps.play;
    party = y.keeps.party ∙ x.keeps.party;
    parties = y.keeps.parties ∙ x.keeps.parties;
    table = y.keeps.table ∙ x.keeps.table;
    connects = y.keeps.connects ∙ x.keeps.connects;
    clock = let p = x.keeps.clock in let q = y.keeps.clock in omega arith;
  };
}
