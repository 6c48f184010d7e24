-- What the laws of forwarding runs say of a world to which turns lead.
use Rattle.std.proofs.Common.{◌≡◌, ℕ, ◌<◌, ◌^◌, ◌++◌, List, [], ◌∷◌, length, slice_get, unwrap_or, true, false, Option, Some, None, option_map, ◌≤◌, refl, ap, sym, ◌∙◌, arith}
use Rattle.sj_lang.specs.FileAt.{FileAt}
use Rattle.sj_acceptance.specs.Accepted.{IsAccepted}
use Rattle.sj_lang.specs.Place.{Place}
use Rattle.sj_semantics.specs.Program.{Program}
use Rattle.sj_semantics.specs.Run.{IsRun, end_of}
use Rattle.sj_semantics.specs.State.{state_of}
use Rattle.sj_semantics.specs.declared.State.TheVariants as states
use Rattle.sj_semantics.specs.World.{World}
use Rattle.sj_rules.specs.Events.{acts_in}
use Rattle.sj_rules.specs.Party.{nobody, play_of}
use Rattle.sj_rules.specs.Play.{Play}
use Rattle.sj_rules.specs.World.{Act, Turn}
use Rattle.sj_forward_rules.specs.Acts.{acts}
use Rattle.sj_forward_rules.specs.Arrivals.{comes}
use Rattle.sj_forward_rules.specs.Drain.{IsDrained}
use Rattle.sj_forward_rules.specs.Node.{Worked}
use Rattle.sj_forward_rules.specs.Ready.{is_ready, state_at}
use Rattle.sj_forward_rules.specs.Record.{FrameAt}
use Rattle.sj_forward_rules.specs.Start.{IsForwardRun}
use Rattle.sj_forward_rules.specs.World.{IsQuietAmong, WorldAt, after_event}
use Rattle.sj_forward_laws.proofs.DrainEndLemmas.{drained_is_quiet}
use Rattle.sj_forward_laws.proofs.RunLawsLemmas.{drain_is_at_the_end, run_front, run_ready, run_ready_plain, run_steps_not}
use Rattle.sj_forward_laws.proofs.RunLemmas.{runs_stand}
use Rattle.sj_forward_laws.proofs.ShortRunLemmas.{run_drains, runs_are_short}

none_before : {A B : Type 0} (f : A → B) (o : Option A) → option_map f o ≡ None → o ≡ None
none_before f None h = refl
none_before f (Some x) h = absurd (cc h)

one_end : (v u : World) → ◌≡◌ {A = Option World} (Some v) (Some u) → v ≡ u
one_end v u e = cc e

module _ (file : FileAt) (accepted : IsAccepted file) (turns : List Turn) (w : WorldAt Program) (run : IsForwardRun file turns w) where
  -- the acts are a plain run
  pub plain_run : (v : World) × IsRun file (acts_in turns) v
  plain_run = let s = runs_stand file accepted turns w run in (s.plain, s.run)

  -- after which the programs are the same
  pub same_programs : (v : World) → IsRun file (acts_in turns) v → (p : ℕ) → (w.nodes p).program ≡ unwrap_or (slice_get v.parties p) nobody
  same_programs v plain p =
      let s = runs_stand file accepted turns w run in
      let same : s.plain ≡ v = one_end s.plain v (sym s.run ∙ plain) in
      s.kept.kept.programs p ∙ ap (λ (x : World). unwrap_or (slice_get x.parties p) nobody) same

  -- a party acts exactly where it is ready
  pub ready_acts : (p : ℕ) → is_ready (state_at (play_of file) (w.nodes p)) ≡ true → (done : Worked Program) × (acts (play_of file) p (w.nodes p) ≡ Some done)
  ready_acts p ready = (run_ready file accepted turns w p run).1 ready

  pub ready_plainly : (v : World) (p : ℕ) → IsRun file (acts_in turns) v → is_ready (state_at (play_of file) (w.nodes p)) ≡ true → state_of v p ≡ states.Ready
  ready_plainly v p plain ready = run_ready_plain file accepted turns w v p run plain ready

  pub unready_rests : (p : ℕ) → is_ready (state_at (play_of file) (w.nodes p)) ≡ false → acts (play_of file) p (w.nodes p) ≡ None
  unready_rests p unready = none_before (after_event w p w.lanes) (acts (play_of file) p (w.nodes p)) (run_steps_not file accepted turns w p run Act unready)

  -- the front frame of a lane fits
  pub front_fits : (p q : ℕ) (f : FrameAt) (rest : List FrameAt) → w.lanes q p ≡ f ∷ rest → (done : Worked Program) × (comes (w.nodes p) q f ≡ Some done)
  front_fits p q f rest front = let d = run_front file accepted turns w p q f rest run front in (d.1.done, d.1.is)

  -- the turns are few
  pub few_turns : length turns < 2 ^ 63
  few_turns = let few : length turns ≤ 32320064640000 = runs_are_short file accepted turns w run in omega (arith, few)

  -- there is a drain
  pub a_drain : (more : List Turn) × (last : WorldAt Program) × IsDrained (play_of file) (length file.parties) w more last
  a_drain = run_drains file accepted turns w run

  -- which leaves nothing to do, at the end of the file
  pub drain_ends : (more : List Turn) (last : WorldAt Program) → IsDrained (play_of file) (length file.parties) w more last
      → IsQuietAmong (play_of file) (length file.parties) last × IsRun file (acts_in (turns ++ more)) (end_of file)
  drain_ends more last drained = let d = drain_is_at_the_end file accepted turns more w last run drained in (d.1, d.2)

-- a drain leaves nothing to do
pub drained_quiet : (play : Play Place Program) (n : ℕ) (w v : WorldAt Program) (ts : List Turn) → IsDrained play n w ts v → IsQuietAmong play n v
drained_quiet play n w v ts drained = drained_is_quiet play n w v ts drained
