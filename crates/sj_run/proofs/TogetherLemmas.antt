-- What comes of workers over links that report, by what the calls of a run answer. They were taken
-- apart, and what waited on their lanes was put before the outboxes of their nodes. The lanes went
-- back, and the logs were joined.
use Rattle.std.proofs.Common.{◌≡◌, ℕ, max, Bool, true, List, map, sym, subst}
use Rattle.std.specs.Global.{Vec}
use Rattle.sj_lang.specs.FileAt.{FileAt}
use Rattle.sj_acceptance.specs.Accepted.{IsAccepted}
use Rattle.sj_plain.specs.SharedFile.{without_words}
use Rattle.sj_end.specs.declared.note.Entry.{Entry}
use Rattle.sj_rules.specs.History.{IsHistory}
use Rattle.sj_rules.specs.Log.{IsJoined, LineAt}
use Rattle.sj_rules.specs.World.{WorldAt}
use Rattle.sj_lang.specs.Place.{Place}
use Rattle.sj_semantics.specs.Program.{Program}
use Rattle.sj_lane.specs.declared.lane.OutLane.{Ghosts as OutLane}
use Rattle.sj_lane.specs.declared.lane.InLane.{Ghosts as InLane}
use Rattle.sj_lane.specs.declared.lane.Lanes.{Lanes}
use Rattle.sj_lane.specs.Square.{KeepsLists}
use Rattle.sj_node.specs.declared.node.Node.{Node}
use Rattle.sj_core.specs.Given.{given_log}
use Rattle.sj_core.specs.Nodes.{AreSeated, world_by}
use Rattle.sj_work.specs.declared.worker.Stop.TheVariants as stops
use Rattle.sj_work.specs.declared.worker.Worker.{Worker}
use Rattle.sj_work.specs.Views.{lanes_of}
use Rattle.sj_run.specs.Handed.{AreHandedIn, AreLogless, AreOver, LanesStay}
use Rattle.sj_run.specs.Shown.{IsShown, LinksAt}
use Rattle.sj_run.specs.Workers.{AllWorked, AreLogs, NoneStopped, SomeStopped, logs_in}
use Rattle.sj_run.proofs.AssembledLemmas.{are_seated, kept_history, left_history}
use Rattle.sj_run.proofs.HandedLemmas.{kept_of}
use Rattle.sj_run.proofs.JoinLemmas.{core}
use Rattle.sj_run.proofs.LogLemmas.{logs_joined}
use Rattle.sj_run.proofs.RunLemmas.{joins_below, told_fits, told_history, told_shown}

module _ {O I : Type 0} (outward : OutLane O) (inward : InLane I) (joined : O → I → Type 0) (file : FileAt) (accepted : IsAccepted file) (looks : ℕ) (tells : Bool) (telling : tells ≡ true)
    (workers : List (Worker O I)) (worked : AllWorked outward inward joined file looks tells workers)
    (lanes given : List (Lanes O I)) (apart : lanes ≡ map lanes_of workers) (stay : LanesStay outward inward joined lanes given)
    (links : LinksAt) (keeps : KeepsLists outward.pushed inward.popped outward.vain inward.vain given links.sent links.got links.vain_out links.vain_in)
    (logs : List (Vec Entry)) (are : AreLogs workers logs) (lines : List LineAt) (joins : IsJoined (given_log logs) lines) where
  abbrev told : AllWorked outward inward joined file looks true workers
  told = subst (λ (b : Bool). AllWorked outward inward joined file looks b workers) telling worked

  abbrev kept : KeepsLists outward.pushed inward.popped outward.vain inward.vain (map lanes_of workers) links.sent links.got links.vain_out links.vain_in
  kept = kept_of outward inward joined lanes (map lanes_of workers) given apart worked.square stay links.sent links.got links.vain_out links.vain_in keeps

  abbrev own : IsJoined (logs_in workers) lines
  own = logs_joined workers logs are lines joins

  abbrev left : WorldAt Place Program
  left = core outward inward joined file accepted looks workers told links kept lines (joins_below outward inward joined file accepted looks workers told links kept lines own)

  -- the lines are a history
  pub run_left : IsHistory max file lines left
  run_left = told_history outward inward joined file accepted looks workers told links kept lines own

  -- no worker stopped as unfit
  pub none_left_unfit : SomeStopped workers stops.Unfit → ⊥
  none_left_unfit = told_fits outward inward joined file accepted looks workers told links kept lines own

  pub all_fit : NoneStopped workers stops.Unfit
  all_fit p w there stopped = none_left_unfit (record { party = p; worker = w; there = there; stopped = stopped })

  module _ (remembers : NoneStopped workers stops.NoMemory) (faultless : NoneStopped workers stops.Fault) where
    -- the links show them
    pub run_shown : (history : List LineAt) (w : WorldAt Place Program) → history ≡ lines → IsHistory max file lines w → IsShown file looks links history w
    run_shown = told_shown outward inward joined file accepted looks workers told links kept lines own remembers faultless

    module _ (over : AreOver file workers) (bare after : List Node) (logless : AreLogless workers bare) (handed : AreHandedIn outward.pushed inward.popped lanes bare after) where
      abbrev took : AreHandedIn outward.pushed inward.popped (map lanes_of workers) bare after
      took = subst (λ (ls : List (Lanes O I)). AreHandedIn outward.pushed inward.popped ls bare after) apart handed

      -- the nodes are a world of the file
      pub nodes_seated : AreSeated (without_words file) after
      nodes_seated = are_seated outward inward joined file accepted looks workers told links kept lines own remembers faultless over bare after logless took

      -- to which the lines lead
      pub nodes_run : IsHistory max (without_words file) lines (world_by (without_words file) after)
      nodes_run = kept_history outward inward joined file accepted looks workers told links kept lines own remembers faultless over bare after logless took

      -- and which the links show
      pub nodes_shown : (history : List LineAt) (w : WorldAt Place Program) → history ≡ lines → w ≡ world_by (without_words file) after → IsShown file looks links history w
      nodes_shown history w is same =
          run_shown history w is
          (subst (λ (v : WorldAt Place Program). IsHistory max file lines v) (sym same) (left_history outward inward joined file accepted looks workers told links kept lines own remembers faultless over bare after logless took))
