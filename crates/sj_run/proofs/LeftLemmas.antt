-- What workers leave, whatever their lanes report: each went by its steps, and what it popped and
-- pushed is what these say.
use Rattle.std.proofs.Common.{◌≡◌, ◌∙◌, ℕ, zero, suc, max, Bool, List, [], ◌∷◌, ◌++◌, map, Option, Some, None, refl, ap, subst, arith}
use Rattle.std.specs.Prelude.{slice_get}
use Rattle.std.proofs.lemmas.List.{length-map}
use Rattle.sj_lane.specs.declared.lane.OutLane.{Ghosts as OutLane}
use Rattle.sj_lane.specs.declared.lane.InLane.{Ghosts as InLane}
use Rattle.sj_end.specs.declared.note.Entry.{Entry}
use Rattle.sj_lang.specs.Place.{Place, done}
use Rattle.sj_lang.specs.FileAt.{FileAt}
use Rattle.sj_node.specs.Node.{node_at, outbox_of}
use Rattle.sj_semantics.specs.Program.{Program}
use Rattle.sj_rules.specs.Log.{IsJoined, LineAt}
use Rattle.sj_rules.specs.Node.{NodeAt}
use Rattle.sj_rules.specs.Frames.{FrameAt}
use Rattle.sj_rules.specs.NodeRun.{NodeRun, StepAt, posted_to, told_frames}
use Rattle.sj_rules.specs.Start.{first_node}
use Rattle.sj_rules.specs.Work.{InStep, OutStep}
use Rattle.sj_work.specs.declared.worker.Stop.{Stop}
use Rattle.sj_work.specs.declared.worker.Stop.TheVariants as stops
use Rattle.sj_work.specs.declared.worker.Worker.{Worker}
use Rattle.sj_work.specs.Causes.{Cause}
use Rattle.sj_work.specs.Laned.{entries_of}
use Rattle.sj_work.specs.Views.{in_of, node_of, out_of}
use Rattle.sj_run.specs.Left.{AllWent, HasWent, LeftAt, left_of, logs_left, popped_in}
use Rattle.sj_run.specs.Logged.{AreLogged, HasLogged}
use Rattle.sj_run.specs.Workers.{AllWorked, NoneStopped, log_or, logs_in}
use Rattle.sj_run.proofs.FitLemmas.{file_play}
use Rattle.sj_run.proofs.TeamLemmas.{no_lane_from, none_there, team_work, turned}
use Rattle.sj_run.proofs.WorkedLemmas.{mapped_from}

-- whose it is
pub whose : {O I : Type 0} (workers : List (Worker O I)) (p : ℕ) (l : LeftAt) → slice_get (map left_of workers) p ≡ Some l → (w : Worker O I) × (slice_get workers p ≡ Some w) × (left_of w ≡ l)
whose workers p l there = mapped_from left_of workers p l there

-- their logs are those of the workers
pub same_logs : {O I : Type 0} (workers : List (Worker O I)) (p : ℕ) → logs_in workers p ≡ logs_left (map left_of workers) p
same_logs [] p = refl
same_logs (w ∷ ws) zero = refl
same_logs (w ∷ ws) (suc p) = same_logs ws p

-- where there is no lane nothing came
none_came : {I : Type 0} (popped : I → Option (List (FrameAt Place))) (same : I → I → Type 0) (a b : Option I) (came : List (FrameAt Place)) → b ≡ None → InStep popped same a b came → came ≡ []
none_came popped same None None came is s = s
none_came popped same None (Some j) came is s = absurd s
none_came popped same (Some i) None came is s = absurd s
none_came popped same (Some i) (Some j) came is s = absurd (cc is)

-- what was pushed on a lane, whatever it reports; without a lane nothing was
pushed_on : {O : Type 0} (pushed : O → Option (List (FrameAt Place))) (same : O → O → Type 0) (a b : Option O) (box left posts : List (FrameAt Place)) → OutStep pushed same a b box left posts
    → (now : List (FrameAt Place)) × (now ++ left ≡ box ++ posts)
pushed_on pushed same None None box left posts s = ([], s)
pushed_on pushed same None (Some p) box left posts s = absurd s
pushed_on pushed same (Some o) None box left posts s = absurd s
pushed_on pushed same (Some o) (Some p) box left posts s = (s.1.0, s.1.2)

module _ {O I : Type 0} (outward : OutLane O) (inward : InLane I) (joined : O → I → Type 0) (file : FileAt) (looks : ℕ) (tells : Bool)
    (workers : List (Worker O I)) (all : AllWorked outward inward joined file looks tells workers) where
  -- what a worker left went by its steps
  went : (p : ℕ) (w : Worker O I) → slice_get workers p ≡ Some w → HasWent file p (left_of w)
  went p w there =
      let h = all.each p w there in
      let t = turned outward inward joined file looks tells workers all p w there in
      let work = team_work outward inward joined file looks tells workers all p w there in
      let pushed_to = λ (q : ℕ). pushed_on outward.pushed outward.same (out_of h.old q) (out_of w q) (told_frames done (outbox_of (node_of h.old) q)) (told_frames done (outbox_of (node_of w) q))
      (posted_to done q work.steps) (work.outs q) in
      record {
        logged = record {
          steps = work.steps;
          node = node_at (node_of w);
          run = subst (λ (n : NodeAt Place Program). NodeRun (file_play file) max p n work.steps (node_at (node_of w))) h.first.node work.run;
          entries = work.log ∙ ap (λ (es : List Entry). entries_of es ++ map (λ (s : StepAt Place). s.entry) work.steps) h.first.log;
        };
        node = refl;
        play = t.went.play ∙ h.first.play;
        party = t.went.party ∙ h.first.party;
        parties = t.went.parties ∙ h.first.parties;
        lost = t.lost;
        refused = λ stopped. subst (λ (x : Option Stop). Cause outward inward x looks t.lost h.old w) stopped t.cause;
        beside = λ q le.
            none_came inward.popped inward.same (in_of h.old q) (in_of w q) (popped_in work.steps t.lost q) (no_lane_from outward inward joined file looks tells workers all p w there q le) (work.ins q);
        pushed = λ q. (pushed_to q).0;
        posted = λ q. (pushed_to q).1 ∙ ap (λ fs. told_frames done fs ++ posted_to done q work.steps) (h.first.boxes q);
      }

  -- so its log has the entries of steps of the rules, and there is none beside
  has_logged : (p : ℕ) (o : Option (Worker O I)) → slice_get workers p ≡ o → HasLogged file p (log_or o)
  has_logged p None there = record { steps = []; node = first_node file p; run = refl; entries = refl }
  has_logged p (Some w) there = (went p w there).logged

  pub are_logged : (lines : List LineAt) → IsJoined (logs_in workers) lines → AreLogged file lines
  are_logged lines joins = record {
    logs = logs_in workers;
    each = λ p. has_logged p (slice_get workers p) refl;
    beside = λ p le. ap log_or (none_there workers p (omega (arith, le, all.count)));
    joined = joins;
  }

  pub all_went : NoneStopped workers stops.Fault → AllWent file (map left_of workers)
  all_went faultless = record {
    count = length-map workers left_of ∙ all.count;
    each = λ p l there. let m = whose workers p l there in subst (HasWent file p) m.2 (went p m.0 m.1);
    faultless = λ p l there stopped. let m = whose workers p l there in faultless p m.0 m.1 (ap (λ (x : LeftAt). x.stop) m.2 ∙ stopped);
  }
