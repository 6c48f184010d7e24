-- What comes of workers that have worked, over any links, and over links that report.
use Rattle.std.proofs.Common.{◌≡◌, ◌∙◌, ℕ, ◌<◌, ◌≤◌, nat_lt, max, if◌then◌else◌, Bool, true, false, List, [], ◌++◌, map, length, Option, Some, None, inl, inr, refl, sym, ap, subst, arith}
use Rattle.std.specs.Prelude.{slice_get}
use Rattle.std.proofs.lemmas.Bool.Decides.{nat_tests}
use Rattle.sj_lang.specs.Place.{Place}
use Rattle.sj_lang.specs.FileAt.{FileAt}
use Rattle.sj_acceptance.specs.Accepted.{IsAccepted}
use Rattle.sj_semantics.specs.Program.{Program}
use Rattle.sj_rules.specs.History.{IsHistory}
use Rattle.sj_rules.specs.Log.{EntryAt, IsJoined, IsRising, LineAt, logs_below}
use Rattle.sj_rules.specs.NodeRun.{StepAt}
use Rattle.sj_rules.specs.Party.{play_of}
use Rattle.sj_rules.specs.Start.{core_start}
use Rattle.sj_rules.specs.World.{WorldAt}
use Rattle.sj_joined_lemmas.proofs.HistoryLemmas.{same_world}
use Rattle.sj_joined_lemmas.proofs.WorkerLemmas.{clocks_rise}
use Rattle.sj_lane.specs.declared.lane.OutLane.{Ghosts as OutLane}
use Rattle.sj_lane.specs.declared.lane.InLane.{Ghosts as InLane}
use Rattle.sj_lane.specs.Square.{HasFault, KeepsLists, in_in, out_in}
use Rattle.sj_lane.specs.Told.{Rose}
use Rattle.sj_node.specs.Node.{log_of, node_at}
use Rattle.sj_work.specs.declared.worker.Stop.{Stop}
use Rattle.sj_work.specs.declared.worker.Stop.TheVariants as stops
use Rattle.sj_work.specs.declared.worker.Worker.{Worker}
use Rattle.sj_work.specs.Causes.{Cause, MetFault}
use Rattle.sj_work.specs.Laned.{entries_of}
use Rattle.sj_work.specs.Views.{lanes_of, node_of}
use Rattle.sj_run.specs.Shown.{IsShown, LinksAt}
use Rattle.sj_run.specs.Workers.{AllRising, AllWorked, NoneStopped, SomeStopped, log_or, logs_in}
use Rattle.sj_run.proofs.JoinLemmas.{core, joined_history, none_unfit, team, team_shown}
use Rattle.sj_run.proofs.TeamLemmas.{mapped_at, new_or, none_there, team_play, team_work, turned}

-- ---- counts of faults

pub rose_from : (a b c : ℕ) → a ≤ b → Rose b c → Rose a c
rose_from a b c le rose = omega (arith, le, rose)

rose_some : (a b : ℕ) → Rose a b → 0 < b
rose_some a b rose = omega (arith, rose)

module _ {O I : Type 0} (outward : OutLane O) (inward : InLane I) (joined : O → I → Type 0) (file : FileAt) (looks : ℕ) (tells : Bool)
    (workers : List (Worker O I)) (all : AllWorked outward inward joined file looks tells workers) where
  -- the clocks of each log rise
  pub all_rising : AllRising workers
  all_rising p w there =
      let h = all.each p w there in
      let work = team_work outward inward joined file looks tells workers all p w there in
      let rises = clocks_rise (team_play outward inward joined file looks tells workers all) max Rattle.sj_lang.specs.Place.done p work.steps (node_at (node_of h.old)) (node_at (node_of w)) work.run in
      let own : entries_of (log_of (node_of w)) ≡ map (λ (s : StepAt Place). s.entry) work.steps = work.log ∙ ap (λ es. entries_of es ++ map (λ (s : StepAt Place). s.entry) work.steps) h.first.log in
      subst (λ (es : List EntryAt). IsRising 0 es) (sym own)
      (subst (λ (n : Rattle.sj_rules.specs.Node.NodeAt Place Program). IsRising n.clock (map (λ (s : StepAt Place). s.entry) work.steps)) h.first.node rises)

  met_fault : (p : ℕ) (w : Worker O I) → slice_get workers p ≡ Some w → (old : Worker O I) → MetFault outward.faults inward.faults old w → HasFault outward.faults inward.faults (map lanes_of workers)
  met_fault p w there old (inl (q, a, b, before, now, rose)) =
      inl (p, q, b, ap (λ l. out_in l q) (mapped_at lanes_of workers p w there) ∙ now, rose_some (outward.faults a) (outward.faults b) rose)
  met_fault p w there old (inr (q, a, b, before, now, rose)) =
      inr (q, p, b, ap (λ l. in_in l q) (mapped_at lanes_of workers p w there) ∙ now, rose_some (inward.faults a) (inward.faults b) rose)

  -- a worker that stopped at a fault has a lane that counted one
  pub has_fault : SomeStopped workers stops.Fault → HasFault outward.faults inward.faults (map lanes_of workers)
  has_fault s =
      let t = turned outward inward joined file looks tells workers all s.party s.worker s.there in
      let old = (all.each s.party s.worker s.there).old in
      met_fault s.party s.worker s.there old (subst (λ (x : Option Stop). Cause outward inward x looks t.lost old s.worker) s.stopped t.cause)

-- ---- links that report

module _ {O I : Type 0} (outward : OutLane O) (inward : InLane I) (joined : O → I → Type 0) (file : FileAt) (accepted : IsAccepted file)
    (looks : ℕ) (workers : List (Worker O I)) (all : AllWorked outward inward joined file looks true workers) (links : LinksAt)
    (keeps : KeepsLists outward.pushed inward.popped outward.vain inward.vain (map lanes_of workers) links.sent links.got links.vain_out links.vain_in)
    (lines : List LineAt) (joins : IsJoined (logs_in workers) lines) where
  abbrev party : ℕ → Rattle.sj_rules.specs.Joined.WorkerAt Place Program
  party = team outward inward joined file accepted looks workers all links keeps

  log_is : (p : ℕ) (o : Option (Worker O I)) → (new_or outward inward joined file looks true workers all p o).log ≡ log_or o
  log_is p None = refl
  log_is p (Some w) = refl

  below_is : (p : ℕ) → logs_in workers p ≡ logs_below (λ p. (party p).log) (length file.parties) p
  below_is p = by (nat_lt p (length file.parties)) refl
    where
      by : (b : Bool) → nat_lt p (length file.parties) ≡ b → logs_in workers p ≡ (if b then (party p).log else [])
      by true e = sym (log_is p (slice_get workers p))
      by false e =
          let le : length file.parties ≤ p = grind (arith, nat_tests) in
          ap log_or (none_there workers p (omega (arith, le, all.count)))

  pub joins_below : IsJoined (logs_below (λ p. (party p).log) (length file.parties)) lines
  joins_below = record { order = joins.order; parts = λ p. joins.parts p ∙ below_is p }

  -- the lines are a history
  pub told_history : IsHistory max file lines
      (core outward inward joined file accepted looks workers all links keeps lines joins_below)
  told_history = joined_history outward inward joined file accepted looks workers all links keeps lines joins_below

  -- no worker stopped as unfit
  pub told_fits : SomeStopped workers stops.Unfit → ⊥
  told_fits s =
      none_unfit outward inward joined file accepted looks workers all links keeps lines joins_below s.party s.worker s.there s.stopped

  -- where none stopped out of memory or at a fault, the links show the lines, whichever world they
  -- lead to
  pub told_shown : NoneStopped workers stops.NoMemory → NoneStopped workers stops.Fault → (history : List LineAt) (w : WorldAt Place Program) → history ≡ lines → IsHistory max file lines w → IsShown file looks links history w
  told_shown remembers faultless history w is h =
      let shown = team_shown outward inward joined file accepted looks workers all links keeps lines joins_below remembers faultless in
      let one = same_world (play_of file) max lines (core_start file) _ w told_history h in
      subst (λ (ls : List LineAt). IsShown file looks links ls w) (sym is) (subst (λ (v : WorldAt Place Program). IsShown file looks links lines v) one shown)
