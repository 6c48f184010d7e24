-- Core runs of any play whose plain worlds are lawful: what holds in each of them.
use Rattle.std.proofs.Common.{◌≡◌, ℕ, ◌+◌, ◌*◌, ◌<◌, ◌≤◌, Bool, true, false, cond, max, List, [], ◌∷◌, ◌++◌, length, Option, Some, None, refl, ap, sym, ◌∙◌, subst, arith, append-nil, append_assoc, length-append, inl, inr, ◌⊎◌}
use Rattle.std.specs.List.{AllByRecursion}
use Rattle.std.proofs.lemmas.Bool.{false_from_ne_true, both_ways, cases_lt}
use Rattle.sj_base.specs.declared.EndId.{EndId}
use Rattle.sj_rules.specs.Rows.{Worked, IsPick}
use Rattle.sj_rules.specs.Node.{Play, NodeAt, act_by, acts, arrives, ended}
use Rattle.sj_rules.specs.Frames.{FrameAt, is_proper}
use Rattle.sj_rules.specs.World.{WorldAt, Event, Act, Deliver, Turn, Run, happens, after_event, delivery_of, with_lane}
use Rattle.sj_rules.specs.PlainSide.{PlainAt}
use Rattle.sj_rules.specs.Moves.{plain_act}
use Rattle.sj_rules.specs.Premises.{IsLawful}
use Rattle.sj_rules.specs.Reading.{IsOpenKept}
use Rattle.sj_rules.specs.StandsFor.{StandsFor}
use Rattle.sj_rules.specs.Halts.{halt_of}
use Rattle.sj_rules.specs.Spots.{LiesOnce}
use Rattle.sj_rules.specs.Events.{acts_by, acts_in}
use Rattle.sj_rules.specs.History.{IsQuiescent, IsQuietAmong}
use Rattle.sj_rules.specs.Within.{IsWithin, ClocksWithin}
use Rattle.sj_rules.proofs.ArrivalLemmas.{proper_comes, arrived_proper}
use Rattle.sj_joined_lemmas.proofs.LimitLemmas.{run_clocks}
use Rattle.sj_opened_lemmas.proofs.OpenRunLemmas.{each_front_fits}
use Rattle.sj_opened_lemmas.proofs.OpenStandsLemmas.{open_kept_stands_for}
use Rattle.sj_rules_laws.proofs.CoreActLemmas.{map_has}
use Rattle.sj_rules_laws.proofs.CoreRunLemmas.{kept_act_is_plain}
use Rattle.sj_rules_laws.proofs.CoverLemmas.{Covers, act_covered, delivery_covered}
use Rattle.sj_rules_laws.proofs.EventsLemmas.{acts_keep, deliveries_keep}
use Rattle.sj_rules_laws.proofs.FewCachedLemmas.{open_front_meets_few}
use Rattle.sj_rules_laws.proofs.HaltLemmas.{acts_unless_halted}
use Rattle.sj_rules_laws.proofs.KeyLemmas.{Credits}
use Rattle.sj_rules_laws.proofs.LedgerLemmas.{total}
use Rattle.sj_rules_laws.proofs.LimitLemmas.{frames_are_proper}
use Rattle.sj_rules_laws.proofs.NodeWeightLemmas.{late_of}
use Rattle.sj_rules_laws.proofs.PlainActsLemmas.{counts_hold}
use Rattle.sj_rules_laws.proofs.QuietActLemmas.{no_core_act_no_plain_act}
use Rattle.sj_rules_laws.proofs.QuietWorldLemmas.{open_bound_is_whole, same_offers, held_offer}
use Rattle.sj_rules_laws.proofs.SpotLemmas.{open_lies_once}
use Rattle.sj_rules_laws.proofs.WithinRowLemmas.{by_map}
use Rattle.sj_rules_laws.proofs.WithinWorldLemmas.{happens_within}

-- a party that has ended doesn't act
idle_acts : {P Q : Type 0} → (play : Play P Q) (p : ℕ) (n : NodeAt P Q) → play.wants n.program ≡ ended → acts play p n ≡ None
idle_acts play p n want = ap (λ t. cond (play.is_worn n.program) None (act_by play p n t)) want ∙ by (play.is_worn n.program)
  where
    by : {X : Type 0} (b : Bool) → ◌≡◌ {A = Option X} (cond b None None) None
    by true = refl
    by false = refl

-- plain worlds with the acts that lead to them: all are lawful, and each act leads to a further one
pub record IsCourse {P Q : Type 0} (IsOver : P → Type 0) (play : Play P Q) (binds : Q → EndId → Bool) (reached : List ℕ → PlainAt P Q → Type 0) : Type 0 where
  pub lawful : (ps : List ℕ) (plain : PlainAt P Q) → reached ps plain → IsLawful IsOver play binds play.parties plain
  pub goes : (ps : List ℕ) (plain next : PlainAt P Q) (p : ℕ) → reached ps plain → plain_act play plain p ≡ Some next → reached (ps ++ p ∷ []) next
  pub few_sent : (ps : List ℕ) (plain : PlainAt P Q) → reached ps plain → (e : EndId) → e.side < 2 → length (plain.sides e).sent ≤ 170000
  pub few_acts : (ps : List ℕ) (plain : PlainAt P Q) → reached ps plain → length ps ≤ 170000

-- a plain world that is reached, for which the core world stands
pub record CourseStands {P Q : Type 0} (IsOver : P → Type 0) (play : Play P Q) (binds : Q → EndId → Bool) (reached : List ℕ → PlainAt P Q → Type 0) (ps : List ℕ) (core : WorldAt P Q) : Type 0 where
  pub plain : PlainAt P Q
  pub at : reached ps plain
  pub kept : IsOpenKept IsOver binds play.blank core plain
  pub within : IsWithin play.parties core

-- a core world in which nothing was deferred and no clock ran
pub record IsFresh {P Q : Type 0} (core : WorldAt P Q) : Type 0 where
  pub lates : (n p : ℕ) (e : EndId) → late_of n ((core.nodes p).main e) ≡ 0
  pub lanes : (from to : ℕ) → core.lanes from to ≡ []
  pub clocks : ClocksWithin 0 core

-- a ledger for the world after an event, which is lower by one but for an act
record Goes {P Q : Type 0} (after : WorldAt P Q) (l : Credits) (acted : ℕ) : Type 0 where
  ledger : Credits
  covers : Covers 170000 ledger after
  few : total ledger + 1 ≤ total l + 340006 * acted

module _ {P Q : Type 0} (IsOver : P → Type 0) (play : Play P Q) (binds : Q → EndId → Bool) (reached : List ℕ → PlainAt P Q → Type 0) (course : IsCourse IsOver play binds reached) where
  abbrev Stands : List ℕ → WorldAt P Q → Type 0
  Stands ps core = CourseStands IsOver play binds reached ps core

  -- ---- events

  act_stands : (pick : ℕ → ℕ → ℕ) → IsPick pick → (core after : WorldAt P Q) (ps : List ℕ) (p : ℕ) → Stands ps core → happens play pick core p Act ≡ Some after → Stands (ps ++ p ∷ []) after
  act_stands pick picks core after ps p s h =
      let lawful = course.lawful ps s.plain s.at in
      let worked = map_has (after_event core p ((core.nodes p).clock + 1) core.lanes) (acts play p (core.nodes p)) after h in
      let plain = kept_act_is_plain IsOver play binds play.parties core s.plain p worked.some s.kept lawful worked.is in
      let at = course.goes ps s.plain plain.some p s.at plain.is in
      record {
        plain = plain.some;
        at = at;
        kept = acts_keep IsOver play binds play.parties pick core after s.plain plain.some p s.kept lawful (course.lawful (ps ++ p ∷ []) plain.some at) plain.is h;
        within = happens_within play.parties IsOver play binds pick picks core s.plain s.kept lawful refl after p Act s.within h;
      }

  event_stands : (pick : ℕ → ℕ → ℕ) → IsPick pick → (core after : WorldAt P Q) (ps : List ℕ) (p : ℕ) (event : Event) → Stands ps core → happens play pick core p event ≡ Some after
      → Stands (ps ++ acts_by event p) after
  event_stands pick picks core after ps p Act s h = act_stands pick picks core after ps p s h
  event_stands pick picks core after ps p (Deliver q) s h =
      let lawful = course.lawful ps s.plain s.at in
      subst (λ (acts : List ℕ). Stands acts after) (sym (append-nil ps))
      (record {
        plain = s.plain;
        at = s.at;
        kept = deliveries_keep IsOver play binds play.parties pick picks core after s.plain p q s.kept lawful h;
        within = happens_within play.parties IsOver play binds pick picks core s.plain s.kept lawful refl after p (Deliver q) s.within h;
      })

  run_stands : (core after : WorldAt P Q) (ps : List ℕ) (turns : List Turn) → Stands ps core → Run play core turns after → Stands (ps ++ acts_in turns) after
  run_stands core after ps [] s run = subst (λ (acts : List ℕ). Stands acts after) (sym (append-nil ps)) (subst (λ (w : WorldAt P Q). Stands ps w) run s)
  run_stands core after ps (t ∷ ts) s run =
      let step = run.1 in
      let next = event_stands step.0 step.1 core run.0 ps t.party t.event s step.2 in
      subst (λ (acts : List ℕ). Stands acts after) (append_assoc ps (acts_by t.event t.party) (acts_in ts))
      (run_stands run.0 after (ps ++ acts_by t.event t.party) ts next run.2)

  -- ---- runs are short

  module _ (pick : ℕ → ℕ → ℕ) (ps : List ℕ) (core : WorldAt P Q) (s : Stands ps core) (l : Credits) (c : Covers 170000 l core) where
    delivery_goes : (p q : ℕ) (after : WorldAt P Q) (frames : List (FrameAt P)) → core.lanes q p ≡ frames → delivery_of play pick core p q frames ≡ Some after → Goes after l 0
    delivery_goes p q after [] front h = cc
    delivery_goes p q after (f ∷ rest) front h =
        let clock : ℕ = max (core.nodes p).clock f.clock + 1 in
        by_map (λ (v : WorldAt P Q). Goes v l 0) (after_event core p clock (with_lane q p rest core.lanes)) (arrives play.blank play.parties pick (core.nodes p) q f) after h (λ left came.
        let meets = open_front_meets_few IsOver binds play.blank core s.plain s.kept 170000 (course.few_sent ps s.plain s.at) p q f rest front in
        let d = delivery_covered 170000 play.blank pick core p q clock f rest l left c front meets (sym (proper_comes play.blank play.parties pick (core.nodes p) q f (arrived_proper play.blank play.parties pick (core.nodes p) q f left came)) ∙ came) in
        record { ledger = d.0.ledger; covers = d.0.covers; few = omega (arith, d.1) })

    act_goes : (p : ℕ) (after : WorldAt P Q) → happens play pick core p Act ≡ Some after → Goes after l 1
    act_goes p after h =
        by_map (λ (v : WorldAt P Q). Goes v l 1) (after_event core p ((core.nodes p).clock + 1) core.lanes) (acts play p (core.nodes p)) after h (λ done acted.
        let d = act_covered 170000 play core p l done c acted in
        record { ledger = d.ledger; covers = d.covers; few = omega (arith, d.few) })

    event_goes : (p : ℕ) (event : Event) (after : WorldAt P Q) → happens play pick core p event ≡ Some after → Goes after l (length (acts_by event p))
    event_goes p Act after h = act_goes p after h
    event_goes p (Deliver q) after h = delivery_goes p q after (core.lanes q p) refl h

  short_from : (ps : List ℕ) (core after : WorldAt P Q) (turns : List Turn) (l : Credits) → Stands ps core → Covers 170000 l core → Run play core turns after
      → length turns ≤ total l + 340006 * length (acts_in turns)
  short_from ps core after [] l s c run = omega arith
  short_from ps core after (t ∷ ts) l s c run =
      let step = run.1 in
      let g = event_goes step.0 ps core s l c t.party t.event run.0 step.2 in
      let next = event_stands step.0 step.1 core run.0 ps t.party t.event s step.2 in
      let rest = short_from (ps ++ acts_by t.event t.party) run.0 after ts g.ledger next g.covers run.2 in
      omega (arith, g.few, rest, length-append (acts_by t.event t.party) (acts_in ts))

  -- ---- of a run from a fresh start

  module _ (start : WorldAt P Q) (begun : Stands [] start) (fresh : IsFresh start) (turns : List Turn) (core : WorldAt P Q) (run : Run play start turns core) where
    -- the acts lead to a plain world for which the core stands
    pub runs_stand : Stands (acts_in turns) core
    runs_stand = run_stands start core [] turns begun run

    abbrev plain : PlainAt P Q
    plain = runs_stand.plain

    pub plain_lawful : IsLawful IsOver play binds play.parties plain
    plain_lawful = course.lawful (acts_in turns) plain runs_stand.at

    pub run_stands_for : StandsFor IsOver play.blank core plain
    run_stands_for = open_kept_stands_for IsOver binds play.blank core plain runs_stand.kept

    start_covered : Covers 170000 [] start
    start_covered = record {
      lanes = λ from to. rw (fresh.lanes from to) (omega arith);
      lates = λ p e. omega (arith, fresh.lates 170000 p e);
    }

    pub runs_are_short : length turns ≤ 57801020000
    runs_are_short = omega (arith, short_from [] start core turns [] begun start_covered run, course.few_acts (acts_in turns) plain runs_stand.at)

    clocks : ClocksWithin (length turns) core
    clocks =
        let same : 0 + length turns ≡ length turns = omega arith in
        subst (λ k. ClocksWithin k core) same (run_clocks play turns 0 start core fresh.clocks run)

    pub frames_proper : (from to : ℕ) → AllByRecursion (λ f. is_proper play.parties f ≡ true) (core.lanes from to)
    frames_proper from to = frames_are_proper play.parties (length turns) (core.lanes from to) (omega (arith, runs_are_short)) (runs_stand.within.frames from to) (clocks.lanes from to)

    -- the first frame of a lane fits its row
    pub front_fits : (pick : ℕ → ℕ → ℕ) (p q : ℕ) (f : FrameAt P) (rest : List (FrameAt P)) → IsPick pick → core.lanes q p ≡ f ∷ rest
        → (after : WorldAt P Q) × (happens play pick core p (Deliver q) ≡ Some after)
    front_fits pick p q f rest picks front =
        let proper : AllByRecursion (λ f. is_proper play.parties f ≡ true) (f ∷ rest) = subst (λ (l : List (FrameAt P)). AllByRecursion (λ f. is_proper play.parties f ≡ true) l) front (frames_proper q p) in
        let d = each_front_fits IsOver binds play core plain runs_stand.kept pick picks (counts_hold IsOver play binds play.parties plain plain_lawful) q p f rest front proper.0 in
        (d.0, d.1)

    row_of : (pick : ℕ → ℕ → ℕ) (p q : ℕ) (f : FrameAt P) (rest : List (FrameAt P)) (after : WorldAt P Q) → (l : List (FrameAt P)) → l ≡ f ∷ rest
        → delivery_of play pick core p q l ≡ Some after → (worked : Worked P (NodeAt P Q)) × (arrives play.blank play.parties pick (core.nodes p) q f ≡ Some worked)
    row_of pick p q f rest after l front h =
        let there : delivery_of play pick core p q (f ∷ rest) ≡ Some after = subst (λ (l : List (FrameAt P)). delivery_of play pick core p q l ≡ Some after) front h in
        let m = map_has (after_event core p (max (core.nodes p).clock f.clock + 1) (with_lane q p rest core.lanes)) (arrives play.blank play.parties pick (core.nodes p) q f) after there in
        (m.some, m.is)

    pub front_arrives : (pick : ℕ → ℕ → ℕ) (p q : ℕ) (f : FrameAt P) (rest : List (FrameAt P)) → IsPick pick → core.lanes q p ≡ f ∷ rest
        → (worked : Worked P (NodeAt P Q)) × (arrives play.blank play.parties pick (core.nodes p) q f ≡ Some worked)
    front_arrives pick p q f rest picks front = let d = front_fits pick p q f rest picks front in row_of pick p q f rest d.0 (core.lanes q p) front d.1

    -- a party acts where no cause keeps it from it
    pub acts_unless : (p : ℕ) → halt_of play (core.nodes p) ≡ None → (done : Worked P (NodeAt P Q)) × (acts play p (core.nodes p) ≡ Some done)
    acts_unless p free =
        let a = acts_unless_halted IsOver play binds play.parties core plain runs_stand.kept plain_lawful p free in
        (a.some, a.is)

    -- each end lies once
    pub lies_once : (e : EndId) → e.side < 2 → LiesOnce core e
    lies_once e low = open_lies_once IsOver binds play.blank core plain runs_stand.kept e low

    -- where the parties have nothing to do, nobody has
    pub quiet_is_quiescent : IsQuietAmong play play.parties core → IsQuiescent play core
    quiet_is_quiescent quiet = record {
      empty = λ from to. empty_by from to (cases_lt from play.parties) (cases_lt to play.parties);
      still = λ p. still_by p (cases_lt p play.parties);
    }
      where
        n : ℕ
        n = play.parties

        empty_by : (from to : ℕ) → (from < play.parties) ⊎ (play.parties ≤ from) → (to < play.parties) ⊎ (play.parties ≤ to) → core.lanes from to ≡ []
        empty_by from to (inl lf) (inl lt) = quiet.empty from to lf lt
        empty_by from to (inl lf) (inr le) = runs_stand.within.outside from to (inr le)
        empty_by from to (inr le) b = runs_stand.within.outside from to (inl le)

        still_by : (p : ℕ) → (p < play.parties) ⊎ (play.parties ≤ p) → acts play p (core.nodes p) ≡ None
        still_by p (inl lt) = quiet.still p lt
        still_by p (inr le) = idle_acts play p (core.nodes p) (ap play.wants (runs_stand.kept.kept.programs p) ∙ plain_lawful.idle p le)

    -- and no party has an act in the plain world
    pub quiet_has_no_act : IsQuietAmong play play.parties core → (p : ℕ) → plain_act play plain p ≡ None
    quiet_has_no_act among p =
        let quiet = quiet_is_quiescent among in
        let kept = runs_stand.kept in
        let lawful = plain_lawful in
        no_core_act_no_plain_act IsOver play binds plain p (core.nodes p) (kept.kept.programs p)
        (λ e b. open_bound_is_whole IsOver binds play.blank core plain kept quiet.empty p e (lawful.proper p e b).0 (false_from_ne_true (plain.sides e).offered (λ o. both_ways (binds (plain.programs p) e) (lawful.unbound p e o) b)) b)
        (kept.requests p) (λ from. same_offers IsOver binds play.blank core plain kept quiet.empty from p) (λ from. kept.rising from p)
        (λ from sess c. held_offer IsOver binds play.blank core plain kept quiet.empty p from sess c)
        (lawful.steps p) (quiet.still p)
