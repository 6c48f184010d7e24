-- The acts of a core run are a plain run, and the core world stands for the plain world that they
-- reach.
use Rattle.std.proofs.Common.{◌≡◌, ℕ, ◌+◌, ◌<◌, ◌≤◌, Bool, true, false, cond, List, [], ◌∷◌, ◌++◌, length, Option, Some, None, option_map, option_and_then, refl, ap, sym, ◌∙◌, subst, append-nil, append_assoc, inl, inr, ◌⊎◌}
use Rattle.std.proofs.lemmas.Bool.{false_from_ne_true, both_ways, cases_lt}
use Rattle.sj_base.specs.declared.EndId.{EndId}
use Rattle.sj_lang.specs.Place.{Place, done}
use Rattle.sj_lang.specs.FileAt.{FileAt}
use Rattle.sj_acceptance.specs.Accepted.{IsAccepted}
use Rattle.sj_semantics.specs.Program.{Program}
use Rattle.sj_semantics.specs.World.{start_of, World, act_of}
use Rattle.sj_semantics.specs.Run.{IsRun, after_acts}
use Rattle.sj_semantics_laws.proofs.RunLemmas.{between}
use Rattle.sj_rules.specs.Record.{HeldAt, Held}
use Rattle.sj_rules.specs.Rows.{Worked, IsPick}
use Rattle.sj_rules.specs.Node.{Want, ended, local, sends, delegates, takes, closes, requests, accepts, Play, NodeAt, act_by, acts}
use Rattle.sj_rules.specs.World.{WorldAt, Event, Act, Deliver, Turn, Run, happens, after_event}
use Rattle.sj_rules.specs.PlainSide.{PlainAt}
use Rattle.sj_rules.specs.Opened.{opened_in}
use Rattle.sj_rules.specs.Shown.{bodies}
use Rattle.sj_rules.specs.Frames.{FrameAt, is_proper}
use Rattle.sj_rules.specs.StandsFor.{StandsFor}
use Rattle.sj_rules.specs.Reading.{IsOpenKept}
use Rattle.sj_opened_lemmas.proofs.OpenRunLemmas.{each_front_fits}
use Rattle.sj_opened_lemmas.proofs.OpenStandsLemmas.{open_kept_stands_for}
use Rattle.sj_rules.specs.Party.{IsDone, play_of, binds}
use Rattle.sj_rules.specs.Plain.{plain_at}
use Rattle.sj_rules.specs.Moves.{plain_act}
use Rattle.sj_rules.specs.Premises.{IsLawful, FitsStep}
use Rattle.sj_rules.specs.HeldStands.{HeldStands}
use Rattle.sj_rules.specs.Events.{acts_by, acts_in}
use Rattle.sj_rules.specs.Start.{core_start}
use Rattle.sj_rules.specs.History.{IsCoreRun, IsQuiescent, IsQuietAmong}
use Rattle.sj_rules_laws.proofs.CoreActLemmas.{Has, map_has, StepSides, core_act_is_plain}
use Rattle.sj_rules_laws.proofs.EventsLemmas.{acts_keep, deliveries_keep}
use Rattle.sj_rules_laws.proofs.KeptLemmas.{open_kept_stands}
use Rattle.sj_rules_laws.proofs.PlainActsLemmas.{counts_hold}
use Rattle.sj_rules_laws.proofs.LawfulLemmas.{run_is_lawful, run_acts_are_seen}
use Rattle.sj_rules.specs.Within.{IsWithin}
use Rattle.sj_rules_laws.proofs.WithinWorldLemmas.{happens_within}
use Rattle.sj_rules_laws.proofs.WithinStartLemmas.{start_is_within}
use Rattle.sj_rules_laws.proofs.StartKeptLemmas.{start_is_open_kept}

-- one act more
after_one_more : (w u v : World) (ps : List ℕ) (p : ℕ) → after_acts w ps ≡ Some u → act_of u p ≡ Some v → after_acts w (ps ++ p ∷ []) ≡ Some v
after_one_more w u v [] p run acted =
    let it : w ≡ u = cc in
    ap (option_and_then (λ (x : World). after_acts x [])) (ap (λ (x : World). act_of x p) it ∙ acted)
after_one_more w u v (q ∷ ps) p run acted =
    let m = between (λ x. after_acts x ps) (act_of w q) u run in
    ap (option_and_then (λ (x : World). after_acts x (ps ++ p ∷ []))) m.before ∙ after_one_more m.world u v ps p m.afterwards acted

-- ---- an act of the core is one of the plain world

-- the ends that a lawful step names are of sides 0 and 1
step_sides : {P Q : Type 0} → (IsOver : P → Type 0) (play : Play P Q) (binds : Q → EndId → Bool) (plain : PlainAt P Q) (p : ℕ) (n : NodeAt P Q)
    (stands : (e : EndId) (h : HeldAt P) → e.side < 2 → (plain.sides e).offered ≡ false → n.main e ≡ Some (Held h) → HeldStands plain e h)
    (counted : n.requests ≡ plain.requests p) (offered : (from : ℕ) → (rest : List ℕ) × (n.offers from ++ rest ≡ plain.offers from p))
    → ((e : EndId) → binds (plain.programs p) e ≡ true → (e.side < 2) × ((plain.sides e).offered ≡ false))
    → (want : Want P) → FitsStep IsOver play binds plain p (plain.programs p) want → StepSides play plain p n stands counted offered want
step_sides IsOver play binds plain p n stands counted offered below ended fit = tt
step_sides IsOver play binds plain p n stands counted offered below local fit = tt
step_sides IsOver play binds plain p n stands counted offered below (sends e m) fit = below e fit.bound
step_sides IsOver play binds plain p n stands counted offered below (delegates carrier e) fit = (below carrier fit.bound, below e fit.handed)
step_sides IsOver play binds plain p n stands counted offered below (takes e place) fit = below e fit.bound
step_sides IsOver play binds plain p n stands counted offered below (closes e) fit = below e fit.bound
step_sides IsOver play binds plain p n stands counted offered below (requests place to) fit = tt
step_sides IsOver play binds plain p n stands counted offered below (accepts place from) fit = tt

pub kept_act_is_plain : {P Q : Type 0} → (IsOver : P → Type 0) (play : Play P Q) (binds : Q → EndId → Bool) (parties : ℕ) (core : WorldAt P Q) (plain : PlainAt P Q) (p : ℕ) (w : Worked P (NodeAt P Q))
    → IsOpenKept IsOver binds play.blank core plain → IsLawful IsOver play binds parties plain → acts play p (core.nodes p) ≡ Some w → Has (plain_act play plain p)
kept_act_is_plain IsOver play binds parties core plain p w kept lawful acted =
    core_act_is_plain play plain p (core.nodes p) (λ e h lt o at. open_kept_stands IsOver binds play.blank core plain kept p e h lt o at) (kept.requests p)
    (λ from. (opened_in (bodies (core.lanes from p)), kept.offers from p)) (kept.kept.programs p)
    (step_sides IsOver play binds plain p (core.nodes p) (λ e h lt o at. open_kept_stands IsOver binds play.blank core plain kept p e h lt o at) (kept.requests p)
    (λ from. (opened_in (bodies (core.lanes from p)), kept.offers from p))
    (λ e b. ((lawful.proper p e b).0, false_from_ne_true (plain.sides e).offered (λ o. both_ways (binds (plain.programs p) e) (lawful.unbound p e o) b)))
    (play.wants (plain.programs p)) (lawful.steps p)) w acted

-- a party that has ended doesn't act
idle_acts : {P Q : Type 0} → (play : Play P Q) (p : ℕ) (n : NodeAt P Q) → play.wants n.program ≡ ended → acts play p n ≡ None
idle_acts play p n want = ap (λ t. cond (play.is_worn n.program) None (act_by play p n t)) want ∙ by (play.is_worn n.program)
  where
    by : {X : Type 0} (b : Bool) → ◌≡◌ {A = Option X} (cond b None None) None
    by true = refl
    by false = refl

-- ---- runs

-- a plain run with its world, for which the core world stands
pub record StandsAfter (file : FileAt) (ps : List ℕ) (core : WorldAt Place Program) : Type 0 where
  pub plain : World
  pub run : IsRun file ps plain
  pub kept : IsOpenKept IsDone binds done core (plain_at plain)
  pub within : IsWithin (length file.parties) core

record Acted (w : World) (p : ℕ) (next : PlainAt Place Program) : Type 0 where
  after : World
  is : act_of w p ≡ Some after
  seen : next ≡ plain_at after

acted_by : (w : World) (p : ℕ) (next : PlainAt Place Program) (o : Option World) → act_of w p ≡ o → option_map plain_at o ≡ Some next → Acted w p next
acted_by w p next None is h = cc
acted_by w p next (Some v) is h = record { after = v; is = is; seen = let it : plain_at v ≡ next = cc in sym it }

module _ (file : FileAt) (accepted : IsAccepted file) where
  act_stands : (pick : ℕ → ℕ → ℕ) → IsPick pick → (core after : WorldAt Place Program) (ps : List ℕ) (p : ℕ) → StandsAfter file ps core → happens (play_of file) pick core p Act ≡ Some after → StandsAfter file (ps ++ p ∷ []) after
  act_stands pick picks core after ps p s h =
      let lawful = run_is_lawful file ps s.plain accepted s.run in
      let worked = map_has (after_event core p ((core.nodes p).clock + 1) core.lanes) (acts (play_of file) p (core.nodes p)) after h in
      let plain = kept_act_is_plain IsDone (play_of file) binds (length file.parties) core (plain_at s.plain) p worked.some s.kept lawful worked.is in
      let acted = acted_by s.plain p plain.some (act_of s.plain p) refl (sym (run_acts_are_seen file ps s.plain p accepted s.run) ∙ plain.is) in
      record {
        plain = acted.after;
        run = after_one_more (start_of file) s.plain acted.after ps p s.run acted.is;
        kept = acts_keep IsDone (play_of file) binds (length file.parties) pick core after (plain_at s.plain) (plain_at acted.after) p s.kept lawful
            (run_is_lawful file (ps ++ p ∷ []) acted.after accepted (after_one_more (start_of file) s.plain acted.after ps p s.run acted.is)) (plain.is ∙ ap Some acted.seen) h;
        within = happens_within (length file.parties) IsDone (play_of file) binds pick picks core (plain_at s.plain) s.kept lawful refl after p Act s.within h;
      }

  event_stands : (pick : ℕ → ℕ → ℕ) → IsPick pick → (core after : WorldAt Place Program) (ps : List ℕ) (p : ℕ) (event : Event) → StandsAfter file ps core
      → happens (play_of file) pick core p event ≡ Some after → StandsAfter file (ps ++ acts_by event p) after
  event_stands pick picks core after ps p Act s h = act_stands pick picks core after ps p s h
  event_stands pick picks core after ps p (Deliver q) s h =
      let lawful = run_is_lawful file ps s.plain accepted s.run in
      subst (λ (acts : List ℕ). StandsAfter file acts after) (sym (append-nil ps))
      (record {
        plain = s.plain;
        run = s.run;
        kept = deliveries_keep IsDone (play_of file) binds (length file.parties) pick picks core after (plain_at s.plain) p q s.kept lawful h;
        within = happens_within (length file.parties) IsDone (play_of file) binds pick picks core (plain_at s.plain) s.kept lawful refl after p (Deliver q) s.within h;
      })

  pub run_stands : (core after : WorldAt Place Program) (ps : List ℕ) (turns : List Turn) → StandsAfter file ps core → Run (play_of file) core turns after → StandsAfter file (ps ++ acts_in turns) after
  run_stands core after ps [] s run =
      subst (λ (acts : List ℕ). StandsAfter file acts after) (sym (append-nil ps)) (subst (StandsAfter file ps) run s)
  run_stands core after ps (t ∷ ts) s run =
      let step = run.1 in
      let next = event_stands step.0 step.1 core run.0 ps t.party t.event s step.2 in
      subst (λ (acts : List ℕ). StandsAfter file acts after) (append_assoc ps (acts_by t.event t.party) (acts_in ts))
      (run_stands run.0 after (ps ++ acts_by t.event t.party) ts next run.2)

  -- the acts of a core run are a plain run, and the core stands for the world that they reach
  pub runs_stand : (turns : List Turn) (core : WorldAt Place Program) → IsCoreRun file turns core → StandsAfter file (acts_in turns) core
  runs_stand turns core run = run_stands (core_start file) core [] turns (record { plain = start_of file; run = refl; kept = start_is_open_kept file accepted; within = start_is_within file accepted }) run

  -- so the front frame of each lane fits, limits aside
  pub run_fronts_fit : (turns : List Turn) (core : WorldAt Place Program) → IsCoreRun file turns core → (pick : ℕ → ℕ → ℕ) → IsPick pick → (q p : ℕ) (f : FrameAt Place) (rest : List (FrameAt Place))
      → core.lanes q p ≡ f ∷ rest → is_proper (length file.parties) f ≡ true → (after : WorldAt Place Program) × (happens (play_of file) pick core p (Deliver q) ≡ Some after)
  run_fronts_fit turns core run pick picks q p f rest front proper =
      let s = runs_stand turns core run in
      let d = each_front_fits IsDone binds (play_of file) core (plain_at s.plain) s.kept pick picks
      (counts_hold IsDone (play_of file) binds (length file.parties) (plain_at s.plain) (run_is_lawful file (acts_in turns) s.plain accepted s.run)) q p f rest front proper in
      (d.0, d.1)

  -- and the core world stands for the plain one
  pub run_stands_for : (turns : List Turn) (core : WorldAt Place Program) → IsCoreRun file turns core → (w : World) × IsRun file (acts_in turns) w × IsOpenKept IsDone binds done core (plain_at w) × StandsFor IsDone done core (plain_at w)
  run_stands_for turns core run =
      let s = runs_stand turns core run in
      (s.plain, s.run, s.kept, open_kept_stands_for IsDone binds done core (plain_at s.plain) s.kept)

  -- where it ends with nothing to do for the file's parties, nobody has anything to do
  pub quiet_is_quiescent : (ps : List ℕ) (core : WorldAt Place Program) → StandsAfter file ps core → IsQuietAmong (play_of file) (length file.parties) core → IsQuiescent (play_of file) core
  quiet_is_quiescent ps core s quiet = record {
    empty = λ from to. empty_by from to (cases_lt from n) (cases_lt to n);
    still = λ p. still_by p (cases_lt p n);
  }
    where
      n : ℕ
      n = length file.parties

      empty_by : (from to : ℕ) → (from < n) ⊎ (n ≤ from) → (to < n) ⊎ (n ≤ to) → core.lanes from to ≡ []
      empty_by from to (inl lf) (inl lt) = quiet.empty from to lf lt
      empty_by from to (inl lf) (inr le) = s.within.outside from to (inr le)
      empty_by from to (inr le) b = s.within.outside from to (inl le)

      still_by : (p : ℕ) → (p < n) ⊎ (n ≤ p) → acts (play_of file) p (core.nodes p) ≡ None
      still_by p (inl lt) = quiet.still p lt
      still_by p (inr le) =
          idle_acts (play_of file) p (core.nodes p)
          (ap (λ (g : Program). (play_of file).wants g) (s.kept.kept.programs p) ∙ (run_is_lawful file ps s.plain accepted s.run).idle p le)
