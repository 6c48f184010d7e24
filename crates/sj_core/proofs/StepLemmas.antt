-- One event at one of the nodes is a step of their world.
use Rattle.std.proofs.Common.{◌≡◌, ◌↔◌, ℕ, ◌+◌, max, List, [], ◌∷◌, ◌++◌, length, slice_get, Option, Some, None, Result, Ok, Err, option_map, option_and_then, refl, ap, sym, ◌∙◌, subst}
use Rattle.std.proofs.Math.ListN.{set}
use Rattle.sj_lang.specs.Place.{Place}
use Rattle.sj_lang.specs.FileAt.{FileAt}
use Rattle.sj_semantics.specs.Program.{Program}
use Rattle.sj_end.specs.declared.note.Entry.{Entry}
use Rattle.sj_end.specs.declared.note.Event.{Event}
use Rattle.sj_end.specs.declared.note.Event.TheVariants as events
use Rattle.sj_rules.specs.Frames.{frames_for}
use Rattle.sj_rules.specs.Log.{NoteAt}
use Rattle.sj_rules.specs.Node.{NodeAt, acts}
use Rattle.sj_rules.specs.Party.{play_for, play_of}
use Rattle.sj_rules.specs.Rows.{Worked}
use Rattle.sj_rules.specs.Start.{first_node}
use Rattle.sj_rules.specs.History.{due, event_note, line_after}
use Rattle.sj_rules.specs.World as world
use Rattle.sj_rules.specs.World.{WorldAt, after_event, happens}
use Rattle.sj_node.specs.declared.node.Node.{Node}
use Rattle.sj_node.specs.Node.{Does, Stays, act_of, clock_of, log_of, node_at, note_for}
use Rattle.sj_node.specs.Reading.{TakesEntry}
use Rattle.sj_core.specs.Nodes.{AreSeated, IsSeated, Moves, NodesStay, box_or, node_or, world_by}
use Rattle.sj_core.specs.Views.{event_at, note_seen}
use Rattle.sj_core.specs.declared.refusal.StepRefusal.{StepRefusal}
use Rattle.sj_core.specs.declared.refusal.StepRefusal.TheVariants as refusals
use Rattle.sj_core.proofs.PlayLemmas.{act_is}
use Rattle.sj_core.proofs.NoteLemmas.{act_noted}
use Rattle.sj_core.proofs.NodesLemmas.{node_here, seen_after, seen_same, still_seated}
use Rattle.sj_core.proofs.TakenLemmas.{DidUnlogged, did_unlogged, entry_is}

module _ (file : FileAt) where
  -- the line of a step with that note, after which the party has that clock
  pub lined : (w v : WorldAt Place Program) (p clock : ℕ) (event : world.Event) (note : NoteAt) → happens (play_of file) max w p event ≡ Some v → event_note (play_of file) w p event ≡ Some note
      → (v.nodes p).clock ≡ clock → due (play_of file) max w p event ≡ Some (record { party = p; entry = record { clock = clock; event = event; note = note } })
  lined w v p clock event note step noted time =
      ap (option_and_then (line_after (play_of file) w p event)) step
      ∙ ap (option_map (λ (t : NoteAt). record { party = p; entry = record { clock = (v.nodes p).clock; event = event; note = t } })) noted
      ∙ (λ i. Some (record { party = p; entry = record { clock = time i; event = event; note = note } }))

module _ (file : FileAt) (nodes : List Node) (p : ℕ) (old new : Node) (seats : AreSeated file nodes) (there : slice_get nodes p ≡ Some old) where
  here : (world_by file nodes).nodes p ≡ node_at old
  here = ap (node_or (first_node file p)) there

  own : IsSeated file seats.table p old
  own = seats.each p old there

  -- the act by the rules of the world
  act_here : (left : Worked Place (NodeAt Place Program)) → act_of old ≡ Some left → acts (play_of file) p ((world_by file nodes).nodes p) ≡ Some left
  act_here left row =
      ap (acts (play_of file) p) here
      ∙ ap (λ t. acts (play_of file) t (node_at old)) (sym own.party)
      ∙ ap (λ n. acts (play_for n file.protocols) old.party (node_at old)) (sym own.parties)
      ∙ act_is old file.protocols left (λ q. ap (λ t. Rattle.sj_table.specs.Spots.start_in t q) own.table ∙ seats.starts q) row

  did_act : (left : Worked Place (NodeAt Place Program)) → act_of old ≡ Some left → DidUnlogged old left (clock_of old + 1) new
      → Moves file nodes p events.Act (record { clock = clock_of old + 1; event = events.Act; note = note_for old }) (set nodes p new)
  did_act left row did =
      let w = world_by file nodes in
      let play = play_of file in
      let acted = act_here left row in
      let step : happens play max w p world.Act ≡ Some (world_by file (set nodes p new)) =
      ap (option_map (after_event w p ((w.nodes p).clock + 1) w.lanes)) acted
      ∙ (λ i. Some (after_event w p ((here i).clock + 1) w.lanes left))
      ∙ ap Some (seen_after file nodes p old new there (clock_of old + 1) w.lanes left did.node
      (λ to. did.posts to ∙ sym (ap (λ o. box_or o to ++ frames_for to (clock_of old + 1) left.posts) there)) (λ from to apart. refl)) in
      record {
        step = step;
        line = lined file w (world_by file (set nodes p new)) p (clock_of old + 1) world.Act (note_seen (note_for old)) step
            (act_noted (length file.parties) file.protocols p (w.nodes p) left acted ∙ (λ i. Some (note_seen (Rattle.sj_node.specs.Node.act_note (sym own.party i) (here i).main (here i).requests (here i).offers (Rattle.sj_node.specs.Play.next_want (here i).program)))))
            (ap (λ n. n.clock) (node_here file nodes p old new there ∙ did.node));
        seats = still_seated file nodes p old new there seats did.party did.parties did.table did.connects did.log;
      }

  -- a refusal
  pub rests : Stays old new → NodesStay file nodes (set nodes p new)
  rests stays = record {
    world = seen_same file nodes p old new there stays.node stays.posts;
    seats = still_seated file nodes p old new there seats stays.party stays.parties stays.table stays.connects stays.log;
  }

  -- an act, whose entry was taken out of the log
  module _ (mid : Node) (e : Entry) (took : TakesEntry mid new) (taken : log_of mid ≡ log_of new ++ e ∷ []) where
    by_row : (o : Option (Worked Place (NodeAt Place Program))) → act_of old ≡ o → Does old o (clock_of old + 1) events.Act (note_for old) mid → Moves file nodes p events.Act e (set nodes p new)
    by_row None row does = absurd does
    by_row (Some left) row did =
        subst (λ (x : Entry). Moves file nodes p events.Act x (set nodes p new)) (sym (entry_is old mid new left (clock_of old + 1) events.Act (note_for old) e did took taken))
        (did_act left row (did_unlogged old mid new left (clock_of old + 1) events.Act (note_for old) e did took taken))

    pub acted_as : Does old (act_of old) (clock_of old + 1) events.Act (note_for old) mid → Moves file nodes p events.Act e (set nodes p new)
    acted_as does = by_row (act_of old) refl does

-- what was a step is no refusal
pub is_a_step : (file : FileAt) (nodes : List Node) (p : ℕ) (event : Event) (e : Entry) (after : List Node) → Moves file nodes p event e after
    → (◌≡◌ {A = Result Entry StepRefusal} (Ok e) (Err refusals.NoStep)) ↔ (happens (play_of file) max (world_by file nodes) p (event_at event) ≡ None)
is_a_step file nodes p event e after moves = (λ no. absurd (cc no), λ none. absurd (let it : Some (world_by file after) ≡ None = sym moves.step ∙ none in cc it))
