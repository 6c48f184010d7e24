-- What a party refused isn't due after a history that has its log. An entry reports of a frame, and
-- of an act, all that decides whether it fits.
use Rattle.std.proofs.Common.{◌≡◌, ◌∙◌, ℕ, ◌+◌, ◌<◌, ◌≤◌, max, min, nat_lt, true, if◌then◌else◌, List, [], ◌∷◌, ◌++◌, map, length, Option, Some, None, option_map, refl, sym, ap, subst, arith}
use Rattle.std.specs.Prelude.{unwrap_or}
use Rattle.std.proofs.lemmas.Bool.{lt-ltb, ltb-true}
use Rattle.std.proofs.lemmas.Bool.Decides.{nat_tests}
use Rattle.sj_base.specs.declared.EndId.{EndId}
use Rattle.sj_lang.specs.Place.{Place, done}
use Rattle.sj_lang.specs.FileAt.{FileAt, body_named}
use Rattle.sj_acceptance.specs.Accepted.{IsAccepted}
use Rattle.sj_semantics.specs.declared.Want.{Want}
use Rattle.sj_semantics.specs.declared.Want.TheVariants as wants
use Rattle.sj_semantics.specs.Program.{Program}
use Rattle.sj_end.specs.declared.note.Entry.{Entry}
use Rattle.sj_end.specs.declared.note.Event.TheVariants as events
use Rattle.sj_end.specs.declared.note.Line.{Line}
use Rattle.sj_end.specs.Lines.{event_at, line_at}
use Rattle.sj_rules.specs.Frames.{is_proper, is_within}
use Rattle.sj_rules.specs.History.{IsCoreRun, IsHistory, due, front_note, turn_of}
use Rattle.sj_rules.specs.Limits.{clock_end}
use Rattle.sj_rules.specs.Log.{IsJoined, LineAt, body_note, part_of}
use Rattle.sj_rules.specs.Node.{NodeAt, Play, acts, arrives}
use Rattle.sj_rules.specs.NodeRun.{NodeRun}
use Rattle.sj_rules.specs.Party.{play_of}
use Rattle.sj_rules.specs.Record.{HeldAt, MainAt, Held, Closed, Expected}
use Rattle.sj_rules.specs.Start.{core_start, first_node}
use Rattle.sj_rules.specs.Work.{LostAt}
use Rattle.sj_rules.specs.World.{Act, Deliver, Event, Turn, WorldAt, happens}
use Rattle.sj_joined_lemmas.proofs.HistoryLemmas.{log_runs}
use Rattle.sj_rules_laws.proofs.DrainRunLemmas.{run_goes_on}
use Rattle.sj_rules_laws.proofs.LimitLemmas.{core_run_clocks, core_run_few}
use Rattle.sj_rules_laws.proofs.PlayLemmas.{acts_same}
use Rattle.sj_rules_laws.proofs.ShortRunLemmas.{runs_are_short}
use Rattle.sj_node.specs.declared.node.Node.{Node}
use Rattle.sj_node.specs.Node.{act_of, clock_of, due_if, has_room, is_below_count, log_of, node_at, note_for, play_here, node_halt, wants_of}
use Rattle.sj_node.specs.Reading.{party_of}
use Rattle.sj_core.proofs.LawLemmas.{max_picks}
use Rattle.sj_work.specs.Causes.{IsUnfit, lost_line, own_line}
use Rattle.sj_work.specs.Laned.{entries_of}
use Rattle.sj_work.specs.declared.worker.Stop.TheVariants as stops
use Rattle.sj_run.specs.Damage.{IsLowestUnfit}
use Rattle.sj_run.specs.Left.{AllWent, HasWent, LeftAt, logs_left}
use Rattle.sj_run.proofs.BareActLemmas.{acts_alike, acts_fit}
use Rattle.sj_run.proofs.BareHeldLemmas.{if_some}
use Rattle.sj_run.proofs.BareLemmas.{bare_held, bare_main}
use Rattle.sj_run.proofs.BareArrivalLemmas.{arrives_alike}
use Rattle.sj_run.proofs.BareNodeLemmas.{bare_node, node_by}
use Rattle.sj_run.proofs.FitLemmas.{file_play, plays_file}
use Rattle.sj_run.proofs.EventLemmas.{acted, came, came_clock, due_so, map_some}
use Rattle.sj_run.proofs.FreeLemmas.{hops_fit, low_side, note_is, room_if}
use Rattle.sj_run.proofs.LoggedNodeLemmas.{first_true, nodes_alike, same_some}

-- a frame's clock is below 2^62 where the entry that it would make has the clock of one whose
-- frame's is
low_by : (a b c d end : ℕ) → a < end → b < end → c ≡ a → max a b + 1 ≡ max c (min d end) + 1 → nat_lt d end ≡ true
low_by a b c d end low less is same = grind (arith, nat_tests)

module _ (file : FileAt) (accepted : IsAccepted file) (p : ℕ) (left : LeftAt) (went : HasWent file p left) (lines : List LineAt) (core : WorldAt Place Program) (history : IsHistory max file lines core)
    (part : part_of p lines ≡ entries_of (log_of left.node)) where
  abbrev n : Node
  n = left.node

  abbrev own : Play Place Program
  own = play_of file

  abbrev Seen : WorldAt Place Program → Type 0
  Seen w = (turns : List Turn) × IsCoreRun file turns w

  seen_on : (w v : WorldAt Place Program) (q : ℕ) (event : Event) → Seen w → happens own max w q event ≡ Some v → Seen v
  seen_on w v q event seen h =
      let more : List Turn = record { party = q; event = event } ∷ [] in
      (seen.0 ++ more, run_goes_on file w v seen.0 more seen.1 (v, (max, max_picks, h), refl))

  agree : (w : WorldAt Place Program) → Seen w → acts (file_play file) p (w.nodes p) ≡ acts own p (w.nodes p)
  agree w seen = acts_same file accepted (file_play file) (plays_file file) seen.0 w seen.1 p

  run : IsCoreRun file (map turn_of lines) core
  run = log_runs own max max_picks lines (core_start file) core history

  -- the world has the party's node, but for what no entry reports
  alike : bare_node (node_at n) ≡ bare_node (core.nodes p)
  alike =
      nodes_alike (file_play file) own refl refl max p Seen seen_on agree lines (core_start file) core (first_node file p) (node_at n) went.logged.steps ([], refl) refl
      (subst (λ (m : NodeAt Place Program). NodeRun (file_play file) max p (first_node file p) went.logged.steps m) went.node went.logged.run) (sym went.logged.entries ∙ sym part) history

  room_at : (e : EndId) → is_below_count ((node_at n).main e) ≡ true
  room_at e = by ((node_at n).main e) refl ((core.nodes p).main e) refl (ap (λ (m : NodeAt Place Program). m.main e) alike)
    where
      by : (r : Option (MainAt Place)) → (node_at n).main e ≡ r → (s : Option (MainAt Place)) → (core.nodes p).main e ≡ s → option_map bare_main r ≡ option_map bare_main s → is_below_count r ≡ true
      by None at s there t = refl
      by (Some (Closed c)) at s there t = refl
      by (Some (Expected k to ds)) at s there t = refl
      by (Some (Held h)) at None there t = absurd (cc t)
      by (Some (Held h)) at (Some (Closed c)) there t = absurd (cc t)
      by (Some (Held h)) at (Some (Expected k to ds)) there t = absurd (cc t)
      by (Some (Held h)) at (Some (Held k)) there t =
          let same : bare_held h ≡ bare_held k = cc t in
          let few = (core_run_few file accepted (map turn_of lines) core run p e k (low_side n e h at) there).0 in
          lt-ltb h.end.sent 1000000 (subst (λ (x : HeldAt Place). x.end.sent < 1000000) (sym same) few)

  room : (want : Want) → has_room (node_at n).main want ≡ true
  room wants.Local = refl
  room (wants.Send e m) = room_at e
  room (wants.Delegate e y) = room_at e
  room (wants.Take e a) = refl
  room (wants.Close e) = refl
  room (wants.Request q to) = refl
  room (wants.Accept q from) = refl
  room wants.Ended = refl

  -- an act that the rules don't have isn't one there
  no_act : node_halt n ≡ None → act_of n ≡ None → (v : WorldAt Place Program) → happens own max core p Act ≡ Some v → ⊥
  no_act free none v h =
      let a = acted own max core p v h in
      let there : acts (file_play file) p (core.nodes p) ≡ Some a.left = agree core (map turn_of lines, run) ∙ a.row in
      let here : acts (file_play file) p (node_at n) ≡ None =
      (λ i. acts (sym went.play i) (sym went.party i) (node_at n)) ∙ room_if (has_room (node_at n).main (wants_of n)) (acts (play_here n) n.party (node_at n)) (room (wants_of n)) none in
      let same = acts_alike (file_play file) p (node_at n) (core.nodes p) alike (hops_fit n (body_named file.protocols) free) (acts_fit (file_play file) p (core.nodes p) a.left there) in
      let no : None ≡ Some (bare_node a.left.state) = ap node_by (sym here) ∙ same ∙ ap node_by there in
      cc no

  -- nor is a frame that fits no row
  no_frame : (l : LostAt Place) → arrives done (length file.parties) max (node_at n) l.party l.frame ≡ None → (line : LineAt) → line.entry.clock ≡ max (clock_of n) (min l.frame.clock clock_end) + 1
      → line.entry.note ≡ body_note l.frame.body → due own max core p (Deliver l.party) ≡ Some line → ⊥
  no_frame l none line clock note is =
      let d = due_so own max core p (Deliver l.party) line is in
      let c = came own max core p l.party d.next d.happened in
      let there : nat_lt c.frame.clock clock_end ≡ true = first_true _ (is_within own.parties c.frame.body) (if_some (is_proper own.parties c.frame) _ c.left c.row) in
      let few : length (map turn_of lines) ≤ 51200960000 = runs_are_short file accepted (map turn_of lines) core run in
      let within = (core_run_clocks file (map turn_of lines) core run).nodes p in
      let clocks : clock_of n ≡ (core.nodes p).clock = ap (λ (m : NodeAt Place Program). m.clock) alike in
      let same : max (core.nodes p).clock c.frame.clock + 1 ≡ max (clock_of n) (min l.frame.clock clock_end) + 1 = sym (came_clock own max core p l.party d.next c) ∙ d.clock ∙ clock in
      let below : (core.nodes p).clock < clock_end = omega (arith, few, within) in
      let here : nat_lt l.frame.clock clock_end ≡ true = low_by (core.nodes p).clock c.frame.clock (clock_of n) l.frame.clock clock_end below (ltb-true c.frame.clock clock_end there) clocks same in
      let noted : Some (body_note c.frame.body) ≡ Some line.entry.note = ap front_note (sym c.front) ∙ d.note in
      let notes : body_note l.frame.body ≡ body_note c.frame.body = sym note ∙ sym (same_some (body_note c.frame.body) line.entry.note noted) in
      let fits = arrives_alike done max (length file.parties) (node_at n) (core.nodes p) alike l.party l.frame c.frame notes (here ∙ sym there) in
      let no : None ≡ Some (bare_node c.left.state) = ap node_by (sym none) ∙ fits ∙ ap node_by c.row in
      cc no

  -- so what the party refused isn't what is due there
  pub refused_not_due : (line : Line) → left.unfit ≡ Some line → left.stop ≡ Some stops.Unfit → due own max core line.party (event_at line.entry.event) ≡ Some (line_at line) → ⊥
  refused_not_due line at stopped d = by went.lost (went.refused stopped)
    where
      -- the line of the party's own
      moved : (k : Line) → line ≡ k → k.party ≡ party_of n → due own max core p (event_at k.entry.event) ≡ Some (line_at k)
      moved k is party =
          let d = subst (λ (x : Line). due own max core x.party (event_at x.entry.event) ≡ Some (line_at x)) is d in
          subst (λ (q : ℕ). due own max core q (event_at k.entry.event) ≡ Some (line_at k)) (party ∙ went.party) d

      by : (o : Option (LostAt Place)) → IsUnfit o n left.unfit → ⊥
      by None (free, none, u) =
          let entry : Entry = record { clock = n.clock + 1; event = events.Act; note = note_for n } in
          let d = due_so own max core p Act (line_at (own_line n entry)) (moved (own_line n entry) (same_some line (own_line n entry) (sym at ∙ u ∙ ap (λ h. option_map (own_line n) (due_if h entry)) free)) refl) in
          no_act free none d.next d.happened
      by (Some l) (below, none, u) =
          no_frame l (subst (λ (k : ℕ). arrives done k max (node_at n) l.party l.frame ≡ None) went.parties none) (line_at (lost_line n l)) refl (note_is l.frame.body)
          (moved (lost_line n l) (same_some line (lost_line n l) (sym at ∙ u)) refl)

-- what the lowest unfit party refused isn't what is due after all lines
pub lowest_not_due : (file : FileAt) → IsAccepted file → (left : List LeftAt) → AllWent file left → (lines : List LineAt) → IsJoined (logs_left left) lines → (core : WorldAt Place Program) → IsHistory max file lines core
    → (line : LineAt) → IsLowestUnfit left line → due (play_of file) max core line.party line.entry.event ≡ Some line → ⊥
lowest_not_due file accepted left went lines joins core history line u is =
    let x = map_some line_at u.own.unfit line u.refused in
    refused_not_due file accepted u.party u.own (went.each u.party u.own u.there) lines core history
    (joins.parts u.party ∙ ap (λ o. unwrap_or (option_map (λ (l : LeftAt). entries_of (log_of l.node)) o) []) u.there) x.0 x.1 u.stopped
    (subst (λ (k : LineAt). due (play_of file) max core k.party k.entry.event ≡ Some k) (sym x.2) is)
