-- The acts of a run are a plain run, and the world keeps the invariant beside the plain world that
-- they reach.
use Rattle.sj_forward_laws.proofs.StepLemmas.{IsDone, IsIdle, party_acts}
use Rattle.sj_forward_laws.proofs.FrontLemmas.{delivery_keeps}
use Rattle.sj_rules.specs.Moves.{plain_act, plain_act_by}
use Rattle.std.proofs.Common.{◌≡◌, ℕ, arith, List, [], ◌∷◌, ◌++◌, length, Option, Some, None, option_map, option_and_then, refl}
use Rattle.std.proofs.Common.{ap, sym, ◌∙◌, subst, append-nil, append_assoc, inl, inr}
use Rattle.std.specs.Prelude.{◌⊎◌, ◌≤◌, Bool, true, false, if◌then◌else◌}
use Rattle.std.proofs.lemmas.Bool.{cases_lt}
use Rattle.sj_lang.specs.Place.{Place}
use Rattle.sj_lang.specs.FileAt.{FileAt}
use Rattle.sj_acceptance.specs.Accepted.{IsAccepted}
use Rattle.sj_semantics.specs.Program.{Program}
use Rattle.sj_semantics.specs.World.{start_of, World, act_of}
use Rattle.sj_semantics.specs.State.{IsSettled}
use Rattle.sj_semantics.specs.Run.{IsRun, after_acts}
use Rattle.sj_semantics_laws.proofs.RunLemmas.{between}
use Rattle.sj_rules.specs.World.{Event, Act, Deliver, Turn}
use Rattle.sj_rules.specs.PlainSide.{PlainAt}
use Rattle.sj_rules.specs.Party.{IsDone as IsOver, play_of, binds}
use Rattle.sj_rules.specs.Plain.{plain_at}
use Rattle.sj_rules.specs.Events.{acts_by, acts_in}
use Rattle.sj_rules_laws.proofs.LawfulLemmas.{run_is_lawful, run_acts_are_seen}
use Rattle.sj_forward_rules.specs.World.{WorldAt, after_event, happens, Run, IsQuietAmong}
use Rattle.sj_forward_laws.specs.Kept.{IsOpenKept}
use Rattle.sj_forward_rules.specs.Start.{forward_start, IsForwardRun}
use Rattle.sj_forward_laws.proofs.StartLemmas.{start_is_open_kept}
use Rattle.std.specs.Prelude.{◌<◌}
use Rattle.sj_semantics.specs.Run.{end_of}
use Rattle.sj_semantics_laws.proofs.FinishLemmas.{end_is_settled, end_is_reached}
use Rattle.sj_semantics_laws.proofs.RunLemmas.{same_end}
use Rattle.sj_semantics_laws.proofs.StartLemmas.{start_is_unshared}

-- one act more
after_one_more : (w u v : World) (ps : List ℕ) (p : ℕ) → after_acts w ps ≡ Some u → act_of u p ≡ Some v → after_acts w (ps ++ p ∷ []) ≡ Some v
after_one_more w u v [] p run acted =
    let it : w ≡ u = cc in
    ap (option_and_then (λ (x : World). after_acts x [])) (ap (λ (x : World). act_of x p) it ∙ acted)
after_one_more w u v (q ∷ ps) p run acted =
    let m = between (λ x. after_acts x ps) (act_of w q) u run in
    ap (option_and_then (λ (x : World). after_acts x (ps ++ p ∷ []))) m.before ∙ after_one_more m.world u v ps p m.afterwards acted

-- a plain run with its world, beside which the forwarding world keeps the invariant
pub record StandsAfter (file : FileAt) (ps : List ℕ) (w : WorldAt Program) : Type 0 where
  pub plain : World
  pub run : IsRun file ps plain
  pub kept : IsOpenKept IsOver binds (length file.parties) w (plain_at plain)

-- the act of the plain world
pub record Acted (w : World) (p : ℕ) (next : PlainAt Place Program) : Type 0 where
  pub after : World
  pub is : act_of w p ≡ Some after
  pub seen : next ≡ plain_at after

pub acted_by : (w : World) (p : ℕ) (next : PlainAt Place Program) (o : Option World) → act_of w p ≡ o → option_map plain_at o ≡ Some next
    → Acted w p next
acted_by w p next None is h = cc
acted_by w p next (Some v) is h = record { after = v; is = is; seen = let it : plain_at v ≡ next = cc in sym it }

none_seen : (o : Option World) → option_map plain_at o ≡ None → o ≡ None
none_seen None h = refl
none_seen (Some v) h = cc

pub same_world : (a b : WorldAt Program) → ◌≡◌ {A = Option (WorldAt Program)} (Some a) (Some b) → a ≡ b
same_world a b e = cc e

module _ (file : FileAt) (accepted : IsAccepted file) where
  act_stands : (w v : WorldAt Program) (ps : List ℕ) (p : ℕ) → StandsAfter file ps w → happens (play_of file) w p Act ≡ Some v
      → StandsAfter file (ps ++ p ∷ []) v
  act_stands w v ps p s h =
      by (party_acts IsOver (play_of file) binds (length file.parties) refl w (plain_at s.plain) s.kept
      (run_is_lawful file ps s.plain accepted s.run) p)
    where
      by : IsDone IsOver (play_of file) binds (length file.parties) w (plain_at s.plain) p
          ⊎ IsIdle (play_of file) (length file.parties) w (plain_at s.plain) p → StandsAfter file (ps ++ p ∷ []) v
      by (inl d) =
          let acted = acted_by s.plain p d.next (act_of s.plain p) refl (sym (run_acts_are_seen file ps s.plain p accepted s.run) ∙ d.plain_is) in
          let same : after_event w p w.lanes d.done ≡ v =
          same_world (after_event w p w.lanes d.done) v (sym (ap (option_map (after_event w p w.lanes)) d.is) ∙ h) in
          record {
            plain = acted.after;
            run = after_one_more (start_of file) s.plain acted.after ps p s.run acted.is;
            kept = subst (λ x. IsOpenKept IsOver binds (length file.parties) x (plain_at acted.after)) same
                (subst (λ x. IsOpenKept IsOver binds (length file.parties) (after_event w p w.lanes d.done) x) acted.seen d.kept);
          }
      by (inr i) = absurd (let none : happens (play_of file) w p Act ≡ None = ap (option_map (after_event w p w.lanes)) i.is in cc (h, none))

  event_stands : (w v : WorldAt Program) (ps : List ℕ) (p : ℕ) (event : Event) → StandsAfter file ps w → happens (play_of file) w p event ≡ Some v
      → StandsAfter file (ps ++ acts_by event p) v
  event_stands w v ps p Act s h = act_stands w v ps p s h
  event_stands w v ps p (Deliver q) s h =
      subst (λ (acts : List ℕ). StandsAfter file acts v) (sym (append-nil ps))
      (record {
        plain = s.plain;
        run = s.run;
        kept = delivery_keeps IsOver (play_of file) binds (length file.parties) w (plain_at s.plain) s.kept q
            p v h;
      })

  pub run_stands : (w v : WorldAt Program) (ps : List ℕ) (turns : List Turn) → StandsAfter file ps w → Run (play_of file) w turns v
      → StandsAfter file (ps ++ acts_in turns) v
  run_stands w v ps [] s run = subst (λ (acts : List ℕ). StandsAfter file acts v) (sym (append-nil ps)) (subst (StandsAfter file ps) run s)
  run_stands w v ps (t ∷ ts) s run =
      let next = event_stands w run.0 ps t.party t.event s run.1 in
      subst (λ (acts : List ℕ). StandsAfter file acts v) (append_assoc ps (acts_by t.event t.party) (acts_in ts))
      (run_stands run.0 v (ps ++ acts_by t.event t.party) ts next run.2)

  -- the acts of a run are a plain run
  pub runs_stand : (turns : List Turn) (w : WorldAt Program) → IsForwardRun file turns w → StandsAfter file (acts_in turns) w
  runs_stand turns w run =
      run_stands (forward_start file) w [] turns (record { plain = start_of file; run = refl; kept = start_is_open_kept file accepted }) run

  -- where nothing is left to do the plain world is settled
  pub quiet_is_settled : (ps : List ℕ) (w : WorldAt Program) → (s : StandsAfter file ps w) → IsQuietAmong (play_of file) (length file.parties) w
      → IsSettled s.plain
  quiet_is_settled ps w s quiet p =
      by (cases_lt p (length file.parties)) (party_acts IsOver (play_of file) binds (length file.parties) refl w (plain_at s.plain) s.kept
      (run_is_lawful file ps s.plain accepted s.run) p)
    where
      idle : length file.parties ≤ p → plain_act (play_of file) (plain_at s.plain) p ≡ None
      idle le =
          ap (λ want. if (play_of file).is_worn ((plain_at s.plain).programs p) then None else plain_act_by (play_of file) (plain_at s.plain) p want)
          ((run_is_lawful file ps s.plain accepted s.run).idle p le) ∙ either_none ((play_of file).is_worn ((plain_at s.plain).programs p))
        where
          either_none : {X : Type 0} (b : Bool) → ◌≡◌ {A = Option X} (if b then None else None) None
          either_none true = refl
          either_none false = refl

      by : (p < length file.parties) ⊎ (length file.parties ≤ p)
          → IsDone IsOver (play_of file) binds (length file.parties) w (plain_at s.plain) p
          ⊎ IsIdle (play_of file) (length file.parties) w (plain_at s.plain) p → act_of s.plain p ≡ None
      by (inl lt) (inl d) = absurd (let none = quiet.still p lt in let some = d.is in cc (none, some))
      by (inl lt) (inr i) = none_seen (act_of s.plain p) (sym (run_acts_are_seen file ps s.plain p accepted s.run) ∙ i.plain_is quiet.empty)
      by (inr le) either = none_seen (act_of s.plain p) (sym (run_acts_are_seen file ps s.plain p accepted s.run) ∙ idle le)

  -- and it is the end of the file
  pub quiet_run_ends : (turns : List Turn) (w : WorldAt Program) → IsForwardRun file turns w → IsQuietAmong (play_of file) (length file.parties) w
      → IsRun file (acts_in turns) (end_of file) × IsOpenKept IsOver binds (length file.parties) w (plain_at (end_of file))
  quiet_run_ends turns w run quiet =
      let s = runs_stand turns w run in
      let l = end_is_reached file in
      let same : s.plain ≡ end_of file =
      same_end (start_of file) s.plain (end_of file) (acts_in turns) l.acts (start_is_unshared file (omega (arith, accepted.within.connects)))
      s.run l.leads
      (quiet_is_settled (acts_in turns) w s quiet) (end_is_settled file) in
      (subst (λ v. IsRun file (acts_in turns) v) same s.run, subst (λ v. IsOpenKept IsOver binds (length file.parties) w (plain_at v)) same s.kept)
