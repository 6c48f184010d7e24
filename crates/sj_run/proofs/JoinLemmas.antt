-- Over links that report: the joined logs of workers are a history, and no worker stopped as unfit.
-- Where none stopped for another cause than that it had nothing to do, the links show the lines.
use Rattle.std.proofs.Common.{◌≡◌, ◌⊎◌, ◌∙◌, ℕ, ◌<◌, ◌≤◌, nat_lt, max, Bool, true, false, List, [], map, length, Option, Some, None, inl, inr, refl, sym, ap, subst, arith}
use Rattle.std.specs.Prelude.{slice_get}
use Rattle.std.proofs.lemmas.Bool.Decides.{nat_tests}
use Rattle.std.proofs.lemmas.List.{length-map}
use Rattle.sj_lang.specs.Place.{Place, done}
use Rattle.sj_lang.specs.FileAt.{FileAt}
use Rattle.sj_acceptance.specs.Accepted.{IsAccepted}
use Rattle.sj_semantics.specs.Program.{Program}
use Rattle.sj_rules.specs.Frames.{FrameAt}
use Rattle.sj_rules.specs.History.{IsHistory, turn_of}
use Rattle.sj_rules.specs.Joined.{IsJoinedRun, PartiesWork, WorkerAt}
use Rattle.sj_rules.specs.Limits.{clock_end}
use Rattle.sj_rules.specs.Log.{IsJoined, LineAt, logs_below}
use Rattle.sj_rules.specs.Node.{NodeAt}
use Rattle.sj_rules.specs.Party.{play_of}
use Rattle.sj_rules.specs.Start.{core_start}
use Rattle.sj_rules.specs.Work.{LanedAt, LostAt, lost_from}
use Rattle.sj_rules.specs.World.{WorldAt}
use Rattle.sj_joined_lemmas.proofs.WorkLemmas.{list_of, shown, told_by}
use Rattle.sj_rules_laws.proofs.LimitLemmas.{core_run_clocks}
use Rattle.sj_rules_laws.proofs.ShortRunLemmas.{runs_are_short}
use Rattle.sj_lane.specs.declared.lane.OutLane.{Ghosts as OutLane}
use Rattle.sj_lane.specs.declared.lane.InLane.{Ghosts as InLane}
use Rattle.sj_lane.specs.Square.{KeepsLists}
use Rattle.sj_node.specs.Node.{clock_of, node_at}
use Rattle.sj_work.specs.declared.worker.Stop.{Stop}
use Rattle.sj_work.specs.declared.worker.Stop.TheVariants as stops
use Rattle.sj_work.specs.declared.worker.Worker.{Worker}
use Rattle.sj_work.specs.Causes.{Cause, Loses, MayLose}
use Rattle.sj_work.specs.Laned.{laned}
use Rattle.sj_work.specs.Views.{in_of, lanes_of, node_of, out_of, stop_of, unfit_of}
use Rattle.sj_run.specs.Shown.{IsShown, LinksAt}
use Rattle.sj_run.specs.Workers.{AllWorked, NoneStopped}
use Rattle.sj_run.proofs.RestLemmas.{is_at_rest}
use Rattle.sj_run.proofs.ShownLemmas.{IsAtRest, joined_shown}
use Rattle.sj_run.proofs.FitLemmas as fit
use Rattle.sj_run.proofs.FitLemmas.{file_play, never_unfit}
use Rattle.sj_run.proofs.TeamLemmas.{losts, mapped_at, news, no_lane_from, none_there, stopped, team_works, turned}
use Rattle.sj_lane.proofs.BackLemmas.{slice_get_some as there_is}

module _ {O I : Type 0} (outward : OutLane O) (inward : InLane I) (joined : O → I → Type 0) (file : FileAt) (accepted : IsAccepted file)
    (looks : ℕ) (workers : List (Worker O I)) (all : AllWorked outward inward joined file looks true workers) (links : LinksAt)
    (keeps : KeepsLists outward.pushed inward.popped outward.vain inward.vain (map lanes_of workers) links.sent links.got links.vain_out links.vain_in) where
  abbrev n : ℕ
  n = length file.parties

  abbrev new : ℕ → LanedAt Place Program O I
  new = news outward inward joined file looks true workers all

  abbrev pub team : ℕ → WorkerAt Place Program
  team p = shown outward.pushed outward.same inward.popped inward.same (new p)

  abbrev lost : ℕ → ℕ → List (FrameAt Place)
  lost p = lost_from (losts outward inward joined file looks true workers all p)

  -- a party's worker
  worker_at : (p : ℕ) → p < n → (w : Worker O I) × (slice_get workers p ≡ Some w)
  worker_at p lt = there_is workers p (omega (arith, lt, all.count))

  many : length (map lanes_of workers) ≡ n
  many = length-map workers lanes_of ∙ all.count

  -- its lanes
  lanes_at : (p : ℕ) (w : Worker O I) → slice_get workers p ≡ Some w → slice_get (map lanes_of workers) p ≡ Some (lanes_of w)
  lanes_at p w there = mapped_at lanes_of workers p w there

  out_there : (p q : ℕ) (w : Worker O I) → slice_get workers p ≡ Some w → q < n → (o : O) × (out_of w q ≡ Some o)
  out_there p q w there lt =
      let sq = all.square p (lanes_of w) (lanes_at p w there) in
      there_is (lanes_of w).outs.items q (omega (arith, lt, sq.0, many))

  in_there : (p q : ℕ) (w : Worker O I) → slice_get workers q ≡ Some w → p < n → (i : I) × (in_of w p ≡ Some i)
  in_there p q w there lt =
      let sq = all.square q (lanes_of w) (lanes_at q w there) in
      there_is (lanes_of w).ins.items p (omega (arith, lt, sq.1, many))

  out_kept : (p q : ℕ) (w : Worker O I) (o : O) → slice_get workers p ≡ Some w → out_of w q ≡ Some o → (outward.pushed o ≡ Some (links.sent p q)) × (outward.vain o ≡ links.vain_out p q)
  out_kept p q w o there is = keeps.outs p q o (ap (λ l. Rattle.sj_lane.specs.Square.out_in l q) (lanes_at p w there) ∙ is)

  in_kept : (p q : ℕ) (w : Worker O I) (i : I) → slice_get workers q ≡ Some w → in_of w p ≡ Some i → (inward.popped i ≡ Some (links.got p q)) × (inward.vain i ≡ links.vain_in p q)
  in_kept p q w i there is = keeps.ins p q i (ap (λ l. Rattle.sj_lane.specs.Square.in_in l p) (lanes_at q w there) ∙ is)

  new_is : (p : ℕ) (w : Worker O I) → slice_get workers p ≡ Some w → new p ≡ laned w
  new_is p w there = ap (λ (o : Option (Worker O I)). Rattle.sj_run.proofs.TeamLemmas.new_or outward inward joined file looks true workers all p o) there

  sent_is : (p q : ℕ) → p < n → q < n → told_by outward.pushed ((new p).outs q) ≡ links.sent p q
  sent_is p q lt mt =
      let w = worker_at p lt in
      let o = out_there p q w.0 w.1 mt in
      ap (λ (l : LanedAt Place Program O I). told_by outward.pushed (l.outs q)) (new_is p w.0 w.1) ∙ ap (told_by outward.pushed) o.1 ∙ ap list_of (out_kept p q w.0 o.0 w.1 o.1).0

  got_is : (p q : ℕ) → p < n → q < n → told_by inward.popped ((new q).ins p) ≡ links.got p q
  got_is p q lt mt =
      let w = worker_at q mt in
      let i = in_there p q w.0 w.1 lt in
      ap (λ (l : LanedAt Place Program O I). told_by inward.popped (l.ins p)) (new_is q w.0 w.1) ∙ ap (told_by inward.popped) i.1 ∙ ap list_of (in_kept p q w.0 i.0 w.1 i.1).0

  no_lane : (p q : ℕ) → n ≤ p → q < n → (new q).ins p ≡ None
  no_lane p q le lt =
      let w = worker_at q lt in
      ap (λ (l : LanedAt Place Program O I). l.ins p) (new_is q w.0 w.1) ∙ no_lane_from outward inward joined file looks true workers all q w.0 w.1 p le

  pub works : PartiesWork (file_play file) max done n (core_start file) team lost
  works =
      team_works outward inward joined file looks true workers all refl no_lane
      (λ p q lt mt. subst (λ xs. mathlib.Core.List.IsPrefix xs (told_by outward.pushed ((new p).outs q))) (sym (got_is p q lt mt))
      (subst (λ ys. mathlib.Core.List.IsPrefix (links.got p q) ys) (sym (sent_is p q lt mt)) (keeps.prefix p q (omega (arith, lt, many)) (omega (arith, mt, many)))))

  -- the turns of a party's worker, from its first node on
  abbrev turns : (p : ℕ) (w : Worker O I) (there : slice_get workers p ≡ Some w) → Rattle.sj_work.specs.Worked.Turned outward inward looks (all.each p w there).old w
  turns = turned outward inward joined file looks true workers all

  module _ (lines : List LineAt) (joins : IsJoined (logs_below (λ p. (team p).log) n) lines) where
    -- the core world to which the lines lead
    abbrev pub core : WorldAt Place Program
    core = fit.core file accepted team lost works lines joins

    pub joined_history : IsHistory max file lines core
    joined_history = fit.joined_history file accepted team lost works lines joins

    own : IsJoinedRun (play_of file) max done n (core_start file) team lost lines core
    own = fit.own file accepted team lost works lines joins

    -- the world has the worker's node
    node_is : (p : ℕ) (w : Worker O I) → slice_get workers p ≡ Some w → p < n → core.nodes p ≡ node_at (node_of w)
    node_is p w there lt = own.nodes p lt ∙ ap (λ (l : LanedAt Place Program O I). l.node) (new_is p w there)

    low : (p : ℕ) (w : Worker O I) → slice_get workers p ≡ Some w → p < n → clock_of (node_of w) < clock_end
    low p w there lt =
        let run = fit.run file accepted team lost works lines joins in
        let few : length (map turn_of lines) ≤ 51200960000 = runs_are_short file accepted (map turn_of lines) core run in
        let clock = (core_run_clocks file (map turn_of lines) core run).nodes p in
        let is : (core.nodes p).clock ≡ clock_of (node_of w) = ap (λ (m : NodeAt Place Program). m.clock) (node_is p w there lt) in
        omega (arith, few, clock, is)

    -- no worker stopped as unfit
    unfit_or : (q : ℕ) → q < n → (o : Option (Worker O I)) (there : slice_get workers q ≡ o)
        → ((p : ℕ) → lost q p ≡ lost_from (Rattle.sj_run.proofs.TeamLemmas.lost_or outward inward joined file looks true workers all q o there) p)
        → (w : Worker O I) → o ≡ Some w → stop_of w ≡ Some stops.Unfit → ⊥
    unfit_or q mt None there all_lost w is unfit = absurd (cc is)
    unfit_or q mt (Some v) there all_lost w is unfit =
        let same : v ≡ w = cc is in
        let stopped : stop_of v ≡ Some stops.Unfit = ap stop_of same ∙ unfit in
        let t = turns q v there in
        let first = (all.each q v there).first in
        never_unfit file accepted team lost works lines joins q mt (node_of v) (ap (λ (l : LanedAt Place Program O I). l.node) (new_is q v there)) (t.went.party ∙ first.party)
        (t.went.parties ∙ first.parties) (t.went.play ∙ first.play) t.lost (unfit_of v) all_lost
        (subst (λ s. Cause outward inward s looks t.lost (all.each q v there).old v) stopped t.cause)

    pub none_unfit : NoneStopped workers stops.Unfit
    none_unfit p w there unfit =
        unfit_or p (below p w there) (slice_get workers p) refl (λ q. refl) w there unfit
      where
        below : (p : ℕ) (w : Worker O I) → slice_get workers p ≡ Some w → p < n
        below p w there = by (nat_lt p n) refl
          where
            by : (b : Bool) → nat_lt p n ≡ b → p < n
            by true e = grind (arith, nat_tests)
            by false e =
                let le : n ≤ p = grind (arith, nat_tests) in
                let no : None ≡ Some w = sym (none_there workers p (omega (arith, le, all.count))) ∙ there in
                absurd (cc no)

    module _ (remembers : NoneStopped workers stops.NoMemory) (faultless : NoneStopped workers stops.Fault) where
      may_lose : (s : Option Stop) → MayLose s → (s ≡ Some stops.NoMemory) ⊎ (s ≡ Some stops.Unfit)
      may_lose None h = absurd h
      may_lose (Some stops.NoMemory) h = inl refl
      may_lose (Some stops.Unfit) h = inr refl
      may_lose (Some stops.Fault) h = absurd h
      may_lose (Some stops.Finished) h = absurd h
      may_lose (Some stops.Idle) h = absurd h
      may_lose (Some stops.AtLimit) h = absurd h
      may_lose (Some stops.ClockEnd) h = absurd h

      -- none of them lost a frame
      kept_all : (p : ℕ) (w : Worker O I) → slice_get workers p ≡ Some w → (o : Option (LostAt Place)) → Loses o (stop_of w) → (q : ℕ) → lost_from o q ≡ []
      kept_all p w there None h q = refl
      kept_all p w there (Some l) h q = elim (may_lose (stop_of w) h) [ inl e ↦ absurd (remembers p w there e) | inr e ↦ absurd (none_unfit p w there e) ]

      pub lost_none : (q : ℕ) (o : Option (Worker O I)) (there : slice_get workers q ≡ o) (p : ℕ)
          → lost_from (Rattle.sj_run.proofs.TeamLemmas.lost_or outward inward joined file looks true workers all q o there) p ≡ []
      lost_none q None there p = refl
      lost_none q (Some w) there p = let t = turns q w there in kept_all q w there t.lost t.loses p

      rest_of : (p : ℕ) → p < n → IsAtRest file looks p (team p) (λ q. links.vain_out p q) (λ q. links.vain_in q p)
      rest_of p lt =
          let w = worker_at p lt in
          let h = all.each p w.0 w.1 in
          let t = turns p w.0 w.1 in
          let outs : (q : ℕ) → q < n → (o : O) × (out_of w.0 q ≡ Some o) × (outward.vain o ≡ links.vain_out p q) = λ q mt. let o = out_there p q w.0 w.1 mt in (o.0, o.1, (out_kept p q w.0 o.0 w.1 o.1).1) in
          let ins : (q : ℕ) → q < n → (i : I) × (in_of w.0 q ≡ Some i) × (inward.vain i ≡ links.vain_in q p) = λ q mt. let i = in_there q p w.0 w.1 mt in (i.0, i.1, (in_kept q p w.0 i.0 w.1 i.1).1) in
          subst (λ (l : LanedAt Place Program O I). IsAtRest file looks p (shown outward.pushed outward.same inward.popped inward.same l) (λ q. links.vain_out p q) (λ q. links.vain_in q p)) (sym (new_is p w.0 w.1))
          (is_at_rest outward inward file looks p h.old w.0 links (t.went.parties ∙ h.first.parties) outs ins h.new.out_fresh h.new.in_fresh t
          (stopped outward inward joined file looks true workers all p w.0 w.1) (remembers p w.0 w.1) (faultless p w.0 w.1) (none_unfit p w.0 w.1) (low p w.0 w.1 lt))

      -- the links show the lines
      pub team_shown : IsShown file looks links lines core
      team_shown = joined_shown file looks links team lost lines core own (λ p q mt. lost_none q (slice_get workers q) refl p) sent_is got_is rest_of
