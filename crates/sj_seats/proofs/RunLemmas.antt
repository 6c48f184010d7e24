-- What the laws of core runs with seats say of a world to which lines lead.
use Rattle.std.proofs.Common.{◌≡◌, ℕ, ◌<◌, ◌≤◌, max, List, ◌∷◌, map, length, slice_get, Option, Some, None, option_map, refl, ap, sym, ◌∙◌, subst, arith}
use Rattle.std.proofs.lemmas.List.{length-map}
use Rattle.sj_core.proofs.LawLemmas.{max_picks}
use Rattle.sj_core.specs.Nodes.{node_or, world_by}
use Rattle.sj_joined_lemmas.proofs.HistoryLemmas.{log_runs}
use Rattle.sj_lang.specs.FileAt.{FileAt}
use Rattle.sj_lang.specs.Place.{Place, done}
use Rattle.sj_node.specs.declared.node.Node.{Node}
use Rattle.sj_node.specs.Node.{clock_of}
use Rattle.sj_rules.specs.Frames.{FrameAt}
use Rattle.sj_rules.specs.History.{turn_of}
use Rattle.sj_rules.specs.Node.{NodeAt, arrives}
use Rattle.sj_rules.specs.Rows.{Worked}
use Rattle.sj_rules.specs.Start.{first_node}
use Rattle.sj_seat_laws.specs.SeatedPlay.{Player, seated_play}
use Rattle.sj_seat_laws.specs.SeatsStart.{Callers, IsSeatsCoreRun, seats_core}
use Rattle.sj_seat_laws.proofs.SeatsRunLemmas.{run_front_arrives}
use Rattle.sj_seat_told_laws.specs.SeatsHistory.{IsSeatsHistory}
use Rattle.sj_seat_laws.specs.SeatRows.{worked_player}
use Rattle.sj_seat_laws.specs.SeatsWorld.{player_by}
use Rattle.sj_seat_laws.proofs.PlayedLemmas.{arrives_played}
use Rattle.sj_semantics.specs.Program.{Program}
use Rattle.sj_seats.specs.Calls.{no_calls}
use Rattle.sj_seats.specs.Core.{seats_by}
use Rattle.sj_seats.specs.Played.{IsLedBy, callers_in, chairs_in, core_in, file_in, nodes_in}
use Rattle.sj_seats.specs.declared.played.PlayedWorld.{PlayedWorld}
use Rattle.sj_seats.proofs.ShortLemmas.{seats_run_is_short, seats_run_low}

module _ (c : PlayedWorld) (past : List Rattle.sj_rules.specs.Log.LineAt) (led : IsLedBy c past) where
  abbrev file : FileAt
  file = led.accepted.file

  abbrev callers : Callers
  callers = callers_in c past no_calls

  -- the lines are of a run of the file
  pub run_of : IsSeatsCoreRun file callers (map turn_of past) (core_in c no_calls)
  run_of =
      log_runs (seated_play file) max max_picks past (seats_core file callers) (core_in c no_calls)
      (subst (λ (f : FileAt). IsSeatsHistory max f callers past (core_in c no_calls)) led.accepted.same (led.run no_calls))

  -- it is short
  pub short : length past ≤ 57801020000
  short = let few = seats_run_is_short file callers led.accepted.accepted (map turn_of past) (core_in c no_calls) run_of in omega (arith, few, length-map past turn_of)

  -- clocks stay below their end
  pub low_clock : (p : ℕ) → ((core_in c no_calls).nodes p).clock < 4611686018427387904
  low_clock p = seats_run_low file callers led.accepted.accepted (map turn_of past) (core_in c no_calls) run_of p

  pub low_node : (p : ℕ) (n : Node) → slice_get (nodes_in c) p ≡ Some n → clock_of n < 4611686018427387904
  low_node p n there =
      let same : ((core_in c no_calls).nodes p).clock ≡ clock_of n = ap (λ o. (node_or (first_node (file_in c) p) o).clock) there in
      let low = low_clock p in omega (arith, same, low)

  -- the first frame of a lane arrives
  pub front_arrives : (p q : ℕ) (f : FrameAt Place) (rest : List (FrameAt Place)) → (core_in c no_calls).lanes q p ≡ f ∷ rest
      → (worked : Worked Place (NodeAt Place Player)) × (arrives done (length (file_in c).parties) max ((core_in c no_calls).nodes p) q f ≡ Some worked)
  front_arrives p q f rest is =
      let a = run_front_arrives file callers led.accepted.accepted (map turn_of past) (core_in c no_calls) run_of max p q f rest max_picks is in
      (a.0, (λ i. arrives done (length (led.accepted.same i).parties) max ((core_in c no_calls).nodes p) q f) ∙ a.1)

  -- so it does at the node, whatever its program is
  pub front_comes : (p q : ℕ) (f : FrameAt Place) (rest : List (FrameAt Place)) → (world_by (file_in c) (nodes_in c)).lanes q p ≡ f ∷ rest
      → (worked : Worked Place (NodeAt Place Program)) × (arrives done (length (file_in c).parties) max ((world_by (file_in c) (nodes_in c)).nodes p) q f ≡ Some worked)
  front_comes p q f rest is =
      let a = front_arrives p q f rest is in
      let n = (world_by (file_in c) (nodes_in c)).nodes p in
      by (arrives done (length (file_in c).parties) max n q f) refl a.0
      (sym (arrives_played (player_by (seats_by c.table (chairs_in c) no_calls p) n.program) max n q done (length (file_in c).parties) f) ∙ a.1)
    where
      by : (o : Option (Worked Place (NodeAt Place Program))) → arrives done (length (file_in c).parties) max ((world_by (file_in c) (nodes_in c)).nodes p) q f ≡ o → (x : Worked Place (NodeAt Place Player))
          → option_map (worked_player (player_by (seats_by c.table (chairs_in c) no_calls p) ((world_by (file_in c) (nodes_in c)).nodes p).program)) (arrives done (length (file_in c).parties) max ((world_by (file_in c) (nodes_in c)).nodes p) q f) ≡ Some x
          → (worked : Worked Place (NodeAt Place Program)) × (arrives done (length (file_in c).parties) max ((world_by (file_in c) (nodes_in c)).nodes p) q f ≡ Some worked)
      by None same x h =
          absurd (let e = sym (ap (option_map (worked_player (player_by (seats_by c.table (chairs_in c) no_calls p) ((world_by (file_in c) (nodes_in c)).nodes p).program))) same) ∙ h in cc e)
      by (Some worked) same x h = (worked, same)
