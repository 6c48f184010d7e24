-- An act of a node in a world to which lines lead is never unfit: where nothing stops the node, the
-- rules have its act.
use Rattle.std.proofs.Common.{◌≡◌, ℕ, ◌<◌, nat_lt, ◌||◌, List, Bool, true, false, if◌then◌else◌, map, length, slice_get, Option, Some, None, option_map, refl, ap, sym, ◌∙◌, inl, inr}
use Rattle.std.proofs.lemmas.Bool.{le-leb, lt-ltb, ltb-true}
use Rattle.sj_base.specs.declared.EndId.{EndId}
use Rattle.sj_base.specs.declared.Msg.{Msg}
use Rattle.sj_base.specs.declared.Msg.TheVariants as msgs
use Rattle.sj_lang.specs.Place.{Place}
use Rattle.sj_lang.specs.FileAt.{FileAt, body_named}
use Rattle.sj_acceptance.specs.Accepted.{IsAccepted}
use Rattle.sj_semantics.specs.declared.Want.{Want}
use Rattle.sj_semantics.specs.declared.Want.TheVariants as wants
use Rattle.sj_semantics.specs.Program.{Program}
use Rattle.sj_table.specs.Spots.{place_in, start_in}
use Rattle.sj_rules.specs.History.{IsCoreRun, turn_of}
use Rattle.sj_rules.specs.Mapped.{main_with}
use Rattle.sj_rules.specs.Node.{NodeAt, acts}
use Rattle.sj_rules.specs.Party.{play_for}
use Rattle.sj_rules.specs.Party.{play_of as play_of_file}
use Rattle.sj_rules.specs.Binding.{IsSession, NamesKnown}
use Rattle.sj_rules.specs.Opened.{opened_number}
use Rattle.sj_rules.specs.Record.{HeldAt, MainAt, Held, Closed, Expected}
use Rattle.sj_rules.specs.Rows.{Worked}
use Rattle.sj_rules.specs.Start.{first_node}
use Rattle.sj_rules.specs.World.{Turn, WorldAt}
use Rattle.sj_rules_laws.proofs.LimitLemmas.{core_run_few, core_run_known}
use Rattle.sj_node.specs.declared.node.Node.{Node}
use Rattle.sj_node.specs.declared.slots.Main.{Main}
use Rattle.sj_node.specs.Node.{act_of, has_room, is_below_count, node_at, play_here, spot_node, node_halt, wants_of}
use Rattle.sj_node.specs.Reading.{party_of}
use Rattle.sj_node.specs.Play.{HeadsAre, is_number, names_known, play_with}
use Rattle.sj_node.specs.Slots.{look, main_at}
use Rattle.sj_node.proofs.PlayLemmas.{acts_known, plays_file}
use Rattle.sj_core.specs.declared.node_world.NodeWorld.{NodeWorld}
use Rattle.sj_core.specs.NodeWorld.{IsLed, file_in, nodes_in, world_in}
use Rattle.sj_core.specs.Nodes.{IsSeated, node_or}
use Rattle.sj_core.proofs.ActLemmas.{acts_freely}
use Rattle.sj_core.proofs.LawLemmas.{run_of}

-- what a message names is there
number_so : (parties connects sess : ℕ) → IsSession parties connects sess → is_number connects parties sess ≡ true
number_so parties connects sess (inl lt) = rw (lt-ltb sess connects lt) refl
number_so parties connects sess (inr opened) = rw (le-leb 64 sess opened.0, lt-ltb sess (opened_number parties 0) opened.1) (or_so (nat_lt sess connects))
  where
    or_so : (b : Bool) → (b || true) ≡ true
    or_so true = refl
    or_so false = refl

known_so : (parties connects : ℕ) (m : Msg) → NamesKnown parties connects m → names_known connects parties m ≡ true
known_so parties connects (msgs.Sess sess side keeper) named =
    rw (number_so parties connects sess named.0, lt-ltb side 2 named.1, lt-ltb keeper parties named.2) refl
known_so parties connects (msgs.Int n) named = refl
known_so parties connects (msgs.Bool b) named = refl
known_so parties connects (msgs.Text n) named = refl
known_so parties connects (msgs.Label n) named = refl
known_so parties connects (msgs.More b) named = refl

-- an end with a record is of side 0 or 1
two_sides : {A B : Type 0} → (f : A → B) (b : Bool) (o : Option A) (x : B) → option_map f (if b then o else None) ≡ Some x → b ≡ true
two_sides f true o x k = refl
two_sides f false o x k = absurd (cc k)

below_count : (o : Option (MainAt Place)) → ((h : HeldAt Place) → o ≡ Some (Held h) → h.end.sent < 1000000) → is_below_count o ≡ true
below_count None few = refl
below_count (Some (Held h)) few = lt-ltb h.end.sent 1000000 (few h refl)
below_count (Some (Closed e)) few = refl
below_count (Some (Expected keeper place ds)) few = refl

room_for : (main : EndId → Option (MainAt Place)) → ((e : EndId) (h : HeldAt Place) → main e ≡ Some (Held h) → h.end.sent < 1000000) → (want : Want) → has_room main want ≡ true
room_for main few wants.Local = refl
room_for main few (wants.Send e m) = below_count (main e) (few e)
room_for main few (wants.Delegate e y) = below_count (main e) (few e)
room_for main few (wants.Take e a) = refl
room_for main few (wants.Close e) = refl
room_for main few (wants.Request q to) = refl
room_for main few (wants.Accept q from) = refl
room_for main few wants.Ended = refl

if_so : {A : Type 0} → (b : Bool) (x : Option A) → b ≡ true → (if b then x else None) ≡ x
if_so true x k = refl
if_so false x k = absurd (cc k)

-- a node that a core run of an accepted file leads to, which plays by the file's protocols
module _ (file : FileAt) (accepted : IsAccepted file) (turns : List Turn) (core : WorldAt Place Program) (run : IsCoreRun file turns core) (p : ℕ) (n : Node)
    (here : core.nodes p ≡ node_at n) (party : party_of n ≡ p)
    (play : play_here n ≡ play_with (body_named file.protocols) (length file.connects) (length file.parties)) where
  side_of : (e : EndId) (h : HeldAt Place) → (node_at n).main e ≡ Some (Held h) → e.side < 2
  side_of e h is =
      ltb-true e.side 2 (two_sides {A = Main} (λ x. main_with (place_in n.table) (main_at x)) (nat_lt e.side 2) _ (Held h) (merged ∙ is))
    where
      merged : option_map (λ x. main_with (place_in n.table) (main_at x)) (look n.mains.items e) ≡ (node_at n).main e
      merged = twice (look n.mains.items e)
        where
          twice : (o : Option Main) → option_map (λ x. main_with (place_in n.table) (main_at x)) o ≡ option_map (main_with (place_in n.table)) (option_map main_at o)
          twice None = refl
          twice (Some x) = refl

  in_world : (e : EndId) (h : HeldAt Place) → (node_at n).main e ≡ Some (Held h) → (core.nodes p).main e ≡ Some (Held h)
  in_world e h is = ap (λ m. m.main e) here ∙ is

  few : (e : EndId) (h : HeldAt Place) → (node_at n).main e ≡ Some (Held h) → h.end.sent < 1000000
  few e h is = (core_run_few file accepted turns core run p e h (side_of e h is) (in_world e h is)).0

  heads : HeadsAre (names_known (length file.connects) (length file.parties)) (node_at n)
  heads e h m rest is head =
      known_so (length file.parties) (length file.connects) m
      (core_run_known file accepted turns core run p e h 0 m (side_of e h is) (in_world e h is) (ap (λ ms. slice_get ms 0) head))

  -- its act by the rules of its own play is its act by the rules of the file
  pub own_act : act_of n ≡ acts (play_of_file file) p (core.nodes p)
  own_act =
      let ps = file.protocols in
      if_so (has_room (node_at n).main (wants_of n)) _ (room_for (node_at n).main few (wants_of n))
      ∙ ap (λ play. acts play n.party (node_at n)) (play ∙ plays_file ps (length file.connects) (length file.parties))
      ∙ acts_known (play_for (length file.parties) ps) (names_known (length file.connects) (length file.parties)) (node_at n) n.party heads
      ∙ (λ i. acts (play_for (length file.parties) ps) (party i) (sym here i))

  -- where nothing stops it
  pub own_acts : node_halt n ≡ None → (done : Worked Place (NodeAt Place Program)) × (acts (play_of_file file) p (core.nodes p) ≡ Some done)
  own_acts free = acts_freely file accepted turns core run p (place_in n.table) (spot_node n) here free

  -- an act of it is never unfit
  pub own_never_unfit : node_halt n ≡ None → act_of n ≡ None → ⊥
  own_never_unfit free none =
      let done = own_acts free in
      let e : Some done.0 ≡ None = sym done.1 ∙ sym own_act ∙ none in
      cc e

-- a node of such a world is one
module _ (c : NodeWorld) (led : IsLed c) (p : ℕ) (n : Node) (there : slice_get (nodes_in c) p ≡ Some n) where
  abbrev file : FileAt
  file = led.accepted.file

  pub here : (world_in c).nodes p ≡ node_at n
  here = ap (node_or (first_node (file_in c) p)) there

  abbrev run : IsCoreRun file (map turn_of led.past) (world_in c)
  run = run_of c led

  abbrev seat : IsSeated (file_in c) led.seats.table p n
  seat = led.seats.each p n there

  -- it plays by the file's protocols
  pub own_play : play_here n ≡ play_with (body_named file.protocols) (length file.connects) (length file.parties)
  own_play =
      (λ i. play_with (start_in (seat.table i)) (seat.connects i) (seat.parties i))
      ∙ (λ i. play_with (λ q. led.seats.starts q i) (length (file_in c).connects) (length (file_in c).parties))
      ∙ ap (λ (f : FileAt). play_with (body_named f.protocols) (length f.connects) (length f.parties)) led.accepted.same

  -- where nothing stops it
  pub acts_here : node_halt n ≡ None → (done : Worked Place (NodeAt Place Program)) × (acts (play_of_file (file_in c)) p ((world_in c).nodes p) ≡ Some done)
  acts_here free =
      let done = own_acts file led.accepted.accepted (map turn_of led.past) (world_in c) run p n here seat.party own_play free in
      (done.0, (λ i. acts (play_of_file (led.accepted.same i)) p ((world_in c).nodes p)) ∙ done.1)

  -- an act is never unfit
  pub never_unfit : node_halt n ≡ None → act_of n ≡ None → ⊥
  never_unfit = own_never_unfit file led.accepted.accepted (map turn_of led.past) (world_in c) run p n here seat.party own_play
