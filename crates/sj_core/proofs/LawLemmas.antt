-- What the laws of core runs say of a world to which lines lead.
use Rattle.std.proofs.Common.{◌≡◌, ℕ, ◌≤◌, ◌<◌, max, List, [], ◌∷◌, map, length, slice_get, Bool, true, false, if◌then◌else◌, Option, Some, None, inl, inr, ◌⊎◌, refl, ap, sym, ◌∙◌, subst, arith}
use Rattle.std.proofs.lemmas.Bool.{cases_lt}
use Rattle.std.proofs.lemmas.List.{length-map}
use Rattle.sj_lang.specs.Place.{Place, done}
use Rattle.sj_lang.specs.FileAt.{FileAt}
use Rattle.sj_semantics.specs.Program.{Program}
use Rattle.sj_rules.specs.Drain.{IsDrained}
use Rattle.sj_rules.specs.Frames.{FrameAt}
use Rattle.sj_rules.specs.History.{IsCoreRun, IsHistory, IsQuietAmong, IsQuiescent, turn_of}
use Rattle.sj_rules.specs.Node.{NodeAt, act_by, acts, arrives}
use Rattle.sj_rules.specs.Party.{play_of}
use Rattle.sj_rules.specs.Rows.{IsPick, Worked}
use Rattle.sj_rules.specs.Start.{core_start, first_node}
use Rattle.sj_rules.specs.World.{Deliver, Turn, WorldAt, happens}
use Rattle.sj_rules.specs.Within.{NoneAbove}
use Rattle.sj_rules.specs.Events.{acts_in}
use Rattle.sj_joined_lemmas.proofs.HistoryLemmas.{log_runs}
use Rattle.sj_rules_laws.specs.Limits.{limit_of_events}
use Rattle.sj_rules_laws.proofs.CoreRunLemmas.{runs_stand}
use Rattle.sj_rules_laws.proofs.DrainRunLemmas.{run_drains}
use Rattle.sj_rules_laws.proofs.LawfulLemmas.{run_is_lawful}
use Rattle.sj_rules_laws.proofs.LimitLemmas.{core_run_clocks, run_front_fits, run_front_arrives}
use Rattle.sj_rules_laws.proofs.ShortRunLemmas.{runs_are_short}
use Rattle.sj_core.specs.declared.node_world.NodeWorld.{NodeWorld}
use Rattle.sj_core.specs.NodeWorld.{IsLed, file_in, nodes_in, world_in}
use Rattle.sj_core.specs.Nodes.{node_or}
use Rattle.sj_node.specs.declared.node.Node.{Node}
use Rattle.sj_node.specs.Node.{clock_of}

pub max_picks : IsPick max
max_picks old told = (omega arith, omega arith)

none_either : {X : Type 0} (b : Bool) → ◌≡◌ {A = Option X} (if b then None else None) None
none_either true = refl
none_either false = refl

module _ (c : NodeWorld) (led : IsLed c) where
  abbrev file : FileAt
  file = led.accepted.file

  -- the history is of a run of the file
  pub run_of : IsCoreRun file (map turn_of led.past) (world_in c)
  run_of =
      log_runs (play_of file) max max_picks led.past (core_start file) (world_in c)
      (subst (λ (f : FileAt). IsHistory max f led.past (world_in c)) led.accepted.same led.run)

  -- it is short
  pub short : length led.past ≤ limit_of_events
  short = let few = runs_are_short file led.accepted.accepted (map turn_of led.past) (world_in c) run_of in omega (arith, few, length-map led.past turn_of)

  -- it can be drained
  pub drains : (more : List Turn) × (last : WorldAt Place Program) × IsDrained (play_of (file_in c)) max (length (nodes_in c)) (world_in c) more last
  drains =
      let d = run_drains file led.accepted.accepted max max_picks (map turn_of led.past) (world_in c) run_of in
      let parties : length (nodes_in c) ≡ length file.parties = led.seats.count ∙ ap (λ f. length f.parties) led.accepted.same in (
        d.0,
        d.1,
        subst (λ (f : FileAt). IsDrained (play_of f) max (length (nodes_in c)) (world_in c) d.0 d.1) (sym led.accepted.same)
            (subst (λ (n : ℕ). IsDrained (play_of file) max n (world_in c) d.0 d.1) (sym parties) d.2),
      )

  no_front : (p q : ℕ) (l : List (FrameAt Place)) → (world_in c).lanes q p ≡ l → happens (play_of file) max (world_in c) p (Deliver q) ≡ None → l ≡ []
  no_front p q [] is none = refl
  no_front p q (f ∷ rest) is none =
      let fits = run_front_fits file led.accepted.accepted (map turn_of led.past) (world_in c) run_of max p q f rest max_picks is in
      let e : Some fits.0 ≡ None = sym fits.1 ∙ none in
      absurd (cc e)

  -- where nothing can be delivered the lane is empty
  pub empty_there : (p q : ℕ) → happens (play_of (file_in c)) max (world_in c) p (Deliver q) ≡ None → (world_in c).lanes q p ≡ []
  empty_there p q none = no_front p q ((world_in c).lanes q p) refl ((λ i. happens (play_of (sym led.accepted.same i)) max (world_in c) p (Deliver q)) ∙ none)

  -- the first frame of a lane fits
  pub front_fits : (p q : ℕ) (f : FrameAt Place) (rest : List (FrameAt Place)) → (world_in c).lanes q p ≡ f ∷ rest
      → (after : WorldAt Place Program) × (happens (play_of (file_in c)) max (world_in c) p (Deliver q) ≡ Some after)
  front_fits p q f rest is =
      let fits = run_front_fits file led.accepted.accepted (map turn_of led.past) (world_in c) run_of max p q f rest max_picks is in
      (fits.0, (λ i. happens (play_of (led.accepted.same i)) max (world_in c) p (Deliver q)) ∙ fits.1)

  -- its clock is below 2^62
  pub low_front : (p q : ℕ) (f : FrameAt Place) (rest : List (FrameAt Place)) → (world_in c).lanes q p ≡ f ∷ rest → f.clock < 4611686018427387904
  low_front p q f rest is =
      let above = (core_run_clocks file (map turn_of led.past) (world_in c) run_of).lanes q p in
      let front : NoneAbove (length (map turn_of led.past)) (f ∷ rest) = subst (NoneAbove (length (map turn_of led.past))) is above in
      let few : length (map turn_of led.past) ≤ 51200960000 = runs_are_short file led.accepted.accepted (map turn_of led.past) (world_in c) run_of in
      omega (arith, few, front.0)

  -- a party that the file hasn't has nothing to do, and no lane leads to or from it
  pub idle_outside : (p : ℕ) → length (nodes_in c) ≤ p → acts (play_of (file_in c)) p ((world_in c).nodes p) ≡ None
  idle_outside p le =
      let s = runs_stand file led.accepted.accepted (map turn_of led.past) (world_in c) run_of in
      let lawful = run_is_lawful file (acts_in (map turn_of led.past)) s.plain led.accepted.accepted s.run in
      let parties : length (nodes_in c) ≡ length file.parties = led.seats.count ∙ ap (λ f. length f.parties) led.accepted.same in
      let play = play_of file in
      let ended = ap play.wants (s.kept.kept.programs p) ∙ lawful.idle p (omega (arith, parties, le)) in
      (λ i. acts (play_of (led.accepted.same i)) p ((world_in c).nodes p))
      ∙ ap (λ t. if play.is_worn ((world_in c).nodes p).program then None else act_by play p ((world_in c).nodes p) t) ended
      ∙ none_either (play.is_worn ((world_in c).nodes p).program)

  pub empty_outside : (p q : ℕ) → (length (nodes_in c) ≤ p) ⊎ (length (nodes_in c) ≤ q) → (world_in c).lanes p q ≡ []
  empty_outside p q out =
      let s = runs_stand file led.accepted.accepted (map turn_of led.past) (world_in c) run_of in
      let parties : length (nodes_in c) ≡ length file.parties = led.seats.count ∙ ap (λ f. length f.parties) led.accepted.same in
      s.within.outside p q (elim out [ inl le ↦ inl (omega (arith, parties, le)) | inr le ↦ inr (omega (arith, parties, le)) ])

  -- where nothing is left to do for its parties nobody has anything to do
  pub quiescent : IsQuietAmong (play_of (file_in c)) (length (nodes_in c)) (world_in c) → IsQuiescent (play_of (file_in c)) (world_in c)
  quiescent quiet = record {
    empty = λ from to.
        elim (cases_lt from (length (nodes_in c))) [
          | inl lf ↦ elim (cases_lt to (length (nodes_in c))) [ inl lt ↦ quiet.empty from to lf lt | inr le ↦ empty_outside from to (inr le) ]
          | inr le ↦ empty_outside from to (inl le)
        ];
    still = λ p. elim (cases_lt p (length (nodes_in c))) [ inl lt ↦ quiet.still p lt | inr le ↦ idle_outside p le ];
  }

  -- the first frame of a lane arrives
  pub front_arrives : (p q : ℕ) (f : FrameAt Place) (rest : List (FrameAt Place)) → (world_in c).lanes q p ≡ f ∷ rest
      → (worked : Worked Place (NodeAt Place Program)) × (arrives done (length (file_in c).parties) max ((world_in c).nodes p) q f ≡ Some worked)
  front_arrives p q f rest is =
      let a = run_front_arrives file led.accepted.accepted (map turn_of led.past) (world_in c) run_of max p q f rest max_picks is in
      (a.0, (λ i. arrives done (length (led.accepted.same i).parties) max ((world_in c).nodes p) q f) ∙ a.1)

  -- clocks stay below their end
  pub low_clock : (p : ℕ) → ((world_in c).nodes p).clock < 4611686018427387904
  low_clock p =
      let few : length (map turn_of led.past) ≤ 51200960000 = runs_are_short file led.accepted.accepted (map turn_of led.past) (world_in c) run_of in
      let low = (core_run_clocks file (map turn_of led.past) (world_in c) run_of).nodes p in
      omega (arith, few, low)

-- so does that of a node
pub low_node : (c : NodeWorld) → IsLed c → (p : ℕ) (n : Node) → slice_get (nodes_in c) p ≡ Some n → clock_of n < 4611686018427387904
low_node c led p n there =
    let same : ((world_in c).nodes p).clock ≡ clock_of n = ap (λ o. (node_or (first_node (file_in c) p) o).clock) there in
    let low = low_clock c led p in omega (arith, same, low)
