-- Runs in which several parties of an accepted file are played by code of their own: what the
-- lemmas on courses say of them.
use Rattle.std.proofs.Common.{◌≡◌, ℕ, ◌+◌, ◌<◌, ◌≤◌, List, [], ◌∷◌, ◌++◌, map, length, Option, Some, None, option_map, option_and_then, refl, ap, sym, ◌∙◌, subst, arith}
use Rattle.sj_lang.specs.FileAt.{FileAt}
use Rattle.sj_lang.specs.Place.{Place, done}
use Rattle.sj_acceptance.specs.Accepted.{IsAccepted}
use Rattle.sj_joined_lemmas.proofs.HistoryLemmas.{log_runs}
use Rattle.sj_joined_lemmas.proofs.JoinedRunLemmas.{joined_run, last_world, logs_join}
use Rattle.sj_joined_lemmas.proofs.LimitLemmas.{same_arrives}
use Rattle.sj_joined_lemmas.proofs.ToldRunLemmas.{lost_is_front}
use Rattle.sj_rules.specs.Events.{acts_in}
use Rattle.sj_rules.specs.Frames.{FrameAt}
use Rattle.sj_rules.specs.Halts.{halt_of}
use Rattle.sj_rules.specs.History.{IsQuietAmong, turn_of}
use Rattle.sj_rules.specs.Joined.{IsJoinedRun, PartiesWork, WorkerAt}
use Rattle.sj_rules.specs.Log.{IsJoined, LineAt, logs_below}
use Rattle.sj_rules.specs.Moves.{plain_act}
use Rattle.sj_rules.specs.Node.{NodeAt, acts, arrives}
use Rattle.sj_rules.specs.NodeRun.{frame_told}
use Rattle.sj_rules.specs.Party.{IsDone}
use Rattle.sj_rules.specs.PlainSide.{PlainAt}
use Rattle.sj_rules.specs.Premises.{IsLawful}
use Rattle.sj_rules.specs.Reading.{IsOpenKept}
use Rattle.sj_rules.specs.Rows.{IsPick, Worked}
use Rattle.sj_rules.specs.StandsFor.{StandsFor}
use Rattle.sj_rules.specs.World.{Deliver, Turn, WorldAt, happens}
use Rattle.sj_seat_laws.specs.SeatedPlay.{Player, player_binds, seated_play}
use Rattle.sj_seat_laws.specs.SeatsStart.{Callers, IsSeatsCoreRun, IsSeatsRun, seats_core, seats_start}
use Rattle.sj_seat_laws.specs.SeatsWorld.{SeatsWorld, after_seats, seats_act, seats_seen}
use Rattle.sj_seat_laws.proofs.CourseLemmas.{CourseStands, IsCourse, acts_unless, front_arrives, front_fits, quiet_has_no_act, run_stands_for, runs_stand}
use Rattle.sj_seat_laws.proofs.SeatsLawfulLemmas.{few_acts, few_sent, seats_are_lawful}
use Rattle.sj_seat_laws.proofs.SeatsLemmas.{IsSeats, seats_keep}
use Rattle.sj_seat_laws.proofs.SeatsSeenLemmas.{seats_act_is_seen}
use Rattle.sj_seat_laws.proofs.SeatsStartLemmas.{start_is_fresh, start_is_kept, start_is_seats, start_within}

-- ---- plain runs

-- the world between an act and those after it
pub record Between (t u : SeatsWorld) (q : ℕ) (qs : List ℕ) : Type 0 where
  pub world : SeatsWorld
  pub before : seats_act t q ≡ Some world
  pub afterwards : after_seats world qs ≡ Some u

between_by : (t u : SeatsWorld) (q : ℕ) (qs : List ℕ) (o : Option SeatsWorld) → seats_act t q ≡ o → option_and_then (λ v. after_seats v qs) o ≡ Some u → Between t u q qs
between_by t u q qs None is h = cc
between_by t u q qs (Some v) is h = record { world = v; before = is; afterwards = h }

pub between : (t u : SeatsWorld) (q : ℕ) (qs : List ℕ) → after_seats t (q ∷ qs) ≡ Some u → Between t u q qs
between t u q qs h = between_by t u q qs (seats_act t q) refl h

-- one act more
pub one_more : (t u v : SeatsWorld) (qs : List ℕ) (q : ℕ) → after_seats t qs ≡ Some u → seats_act u q ≡ Some v → after_seats t (qs ++ q ∷ []) ≡ Some v
one_more t u v [] q run h =
    let it : t ≡ u = cc in
    ap (option_and_then (λ x. after_seats x [])) (ap (λ (x : SeatsWorld). seats_act x q) it ∙ h)
one_more t u v (r ∷ qs) q run h =
    let m = between t u r qs run in
    ap (option_and_then (λ x. after_seats x (qs ++ q ∷ []))) m.before ∙ one_more m.world u v qs q m.afterwards h

run_keeps : (file : FileAt) (n : ℕ) (t u : SeatsWorld) (qs : List ℕ) → IsSeats file n t → after_seats t qs ≡ Some u → IsSeats file (n + length qs) u
run_keeps file n t u [] s run =
    let it : t ≡ u = cc in
    let same : n ≡ n + 0 = omega arith in
    subst (λ (k : ℕ). IsSeats file k u) same (subst (IsSeats file n) it s)
run_keeps file n t u (q ∷ qs) s run =
    let m = between t u q qs run in
    let same : n + 1 + length qs ≡ n + length (q ∷ qs) = omega arith in
    subst (λ (k : ℕ). IsSeats file k u) same (run_keeps file (n + 1) m.world u qs (seats_keep file n t m.world q s m.before) m.afterwards)

-- a plain world that is reached, as the rules see it
pub record Reached (file : FileAt) (calls : Callers) (acts : List ℕ) (plain : PlainAt Place Player) : Type 0 where
  pub world : SeatsWorld
  pub run : IsSeatsRun file calls acts world
  pub seats : IsSeats file (length acts) world
  pub seen : plain ≡ seats_seen world

record Acted (t : SeatsWorld) (q : ℕ) (next : PlainAt Place Player) : Type 0 where
  after : SeatsWorld
  is : seats_act t q ≡ Some after
  seen : next ≡ seats_seen after

acted_by : (t : SeatsWorld) (q : ℕ) (next : PlainAt Place Player) (o : Option SeatsWorld) → seats_act t q ≡ o → option_map (seats_seen) o ≡ Some next → Acted t q next
acted_by t q next None is h = cc
acted_by t q next (Some u) is h = record { after = u; is = is; seen = let it : seats_seen u ≡ next = cc in sym it }

module _ (file : FileAt) (calls : Callers) (accepted : IsAccepted file) where
  abbrev reached : List ℕ → PlainAt Place Player → Type 0
  reached = Reached file calls

  -- a run keeps what holds at the start
  pub seats_run : (acts : List ℕ) (t : SeatsWorld) → IsSeatsRun file calls acts t → IsSeats file (length acts) t
  seats_run done' t run =
      let same : 0 + length done' ≡ length done' = omega arith in
      subst (λ (k : ℕ). IsSeats file k t) same (run_keeps file 0 (seats_start file calls) t done' (start_is_seats file calls accepted) run)

  goes : (ps : List ℕ) (plain next : PlainAt Place Player) (q : ℕ) → reached ps plain → plain_act (seated_play file) plain q ≡ Some next → reached (ps ++ q ∷ []) next
  goes ps plain next q r h =
      let a = acted_by r.world q next (seats_act r.world q) refl
      (sym (seats_act_is_seen file (length ps) r.world r.seats q) ∙ ap (λ (x : PlainAt Place Player). plain_act (seated_play file) x q) (sym r.seen) ∙ h) in
      let run : IsSeatsRun file calls (ps ++ q ∷ []) a.after = one_more (seats_start file calls) r.world a.after ps q r.run a.is in
      record { world = a.after; run = run; seats = seats_run (ps ++ q ∷ []) a.after run; seen = a.seen }

  course : IsCourse IsDone (seated_play file) player_binds reached
  course = record {
    lawful = λ ps plain r. subst (IsLawful IsDone (seated_play file) player_binds (length file.parties)) (sym r.seen) (seats_are_lawful file (length ps) r.world r.seats accepted.within.parties);
    goes = goes;
    few_sent = λ ps plain r e lt. subst (λ (x : PlainAt Place Player). length (x.sides e).sent ≤ 170000) (sym r.seen) (few_sent file (length ps) r.world r.seats accepted.within.parties e lt);
    few_acts = λ ps plain r. few_acts file (length ps) r.world r.seats accepted.within.parties;
  }

  begun : CourseStands IsDone (seated_play file) player_binds reached [] (seats_core file calls)
  begun = record {
    plain = seats_seen (seats_start file calls);
    at = record { world = seats_start file calls; run = refl; seats = start_is_seats file calls accepted; seen = refl };
    kept = start_is_kept file calls accepted;
    within = start_within file calls accepted;
  }

  -- ---- of a core run

  module _ (turns : List Turn) (core : WorldAt Place Player) (run : IsSeatsCoreRun file calls turns core) where
    stands : CourseStands IsDone (seated_play file) player_binds reached (acts_in turns) core
    stands = runs_stand IsDone (seated_play file) player_binds reached course (seats_core file calls) begun (start_is_fresh file calls accepted) turns core run

    -- its acts are a plain run, for whose world it stands
    pub run_stands : (t : SeatsWorld) × IsSeatsRun file calls (acts_in turns) t × IsOpenKept IsDone player_binds done core (seats_seen t) × StandsFor IsDone done core (seats_seen t)
    unfolding stands
    run_stands =
        let s = stands in
        let f = run_stands_for IsDone (seated_play file) player_binds reached course (seats_core file calls) begun (start_is_fresh file calls accepted) turns core run in
        (s.at.world, s.at.run, subst (IsOpenKept IsDone player_binds done core) s.at.seen s.kept, subst (StandsFor IsDone done core) s.at.seen f)

    pub run_front_fits : (pick : ℕ → ℕ → ℕ) (q r : ℕ) (f : FrameAt Place) (rest : List (FrameAt Place)) → IsPick pick → core.lanes r q ≡ f ∷ rest
        → (after : WorldAt Place Player) × (happens (seated_play file) pick core q (Deliver r) ≡ Some after)
    run_front_fits = front_fits IsDone (seated_play file) player_binds reached course (seats_core file calls) begun (start_is_fresh file calls accepted) turns core run

    pub run_front_arrives : (pick : ℕ → ℕ → ℕ) (q r : ℕ) (f : FrameAt Place) (rest : List (FrameAt Place)) → IsPick pick → core.lanes r q ≡ f ∷ rest
        → (worked : Worked Place (NodeAt Place Player)) × (arrives done (length file.parties) pick (core.nodes q) r f ≡ Some worked)
    run_front_arrives = front_arrives IsDone (seated_play file) player_binds reached course (seats_core file calls) begun (start_is_fresh file calls accepted) turns core run

    pub run_acts_unless : (q : ℕ) → halt_of (seated_play file) (core.nodes q) ≡ None → (worked : Worked Place (NodeAt Place Player)) × (acts (seated_play file) q (core.nodes q) ≡ Some worked)
    run_acts_unless = acts_unless IsDone (seated_play file) player_binds reached course (seats_core file calls) begun (start_is_fresh file calls accepted) turns core run

    no_some : (o : Option SeatsWorld) → ◌≡◌ {A = Option (PlainAt Place Player)} (option_map (seats_seen) o) None → o ≡ None
    no_some None h = refl
    no_some (Some v) h = cc

    -- where nobody has anything to do, nobody can go on in the plain world
    pub quiet_ends : IsQuietAmong (seated_play file) (length file.parties) core
        → (t : SeatsWorld) × IsSeatsRun file calls (acts_in turns) t × IsOpenKept IsDone player_binds done core (seats_seen t) × ((q : ℕ) → seats_act t q ≡ None)
    unfolding stands
    quiet_ends quiet =
        let s = stands in
        let none = quiet_has_no_act IsDone (seated_play file) player_binds reached course (seats_core file calls) begun (start_is_fresh file calls accepted) turns core run quiet in (
          s.at.world,
          s.at.run,
          subst (IsOpenKept IsDone player_binds done core) s.at.seen s.kept,
          λ q.
              no_some (seats_act s.at.world q)
              (sym (seats_act_is_seen file (length (acts_in turns)) s.at.world s.at.seats q) ∙ ap (λ (x : PlainAt Place Player). plain_act (seated_play file) x q) (sym s.at.seen) ∙ none q),
        )

  -- ---- of running parties

  module _ (pick : ℕ → ℕ → ℕ) (picks : IsPick pick) (blank : Place) (workers : ℕ → WorkerAt Place Player) (lost : ℕ → ℕ → List (FrameAt Place))
      (all : PartiesWork (seated_play file) pick blank (length file.parties) (seats_core file calls) workers lost) where
    module _ (lines : List LineAt) (joined : IsJoined (logs_below (λ q. (workers q).log) (length file.parties)) lines) where
      abbrev pub world_of : WorldAt Place Player
      world_of = last_world (seated_play file) pick blank (length file.parties) (seats_core file calls) workers lost all lines joined

      pub run_joined : IsJoinedRun (seated_play file) pick blank (length file.parties) (seats_core file calls) workers lost lines world_of
      run_joined = joined_run (seated_play file) pick blank (length file.parties) (seats_core file calls) workers lost all lines joined

      pub lines_are_run : IsSeatsCoreRun file calls (map turn_of lines) world_of
      lines_are_run = log_runs (seated_play file) pick picks lines (seats_core file calls) world_of run_joined.log

    -- where no cause keeps it from it, a party's node acts
    pub worker_acts : (q : ℕ) → q < length file.parties → halt_of (seated_play file) (workers q).node ≡ None → (worked : Worked Place (NodeAt Place Player)) × (acts (seated_play file) q (workers q).node ≡ Some worked)
    worker_acts q lt free =
        let j = logs_join (seated_play file) pick blank (length file.parties) (seats_core file calls) workers lost all in
        let node : (world_of j.0 j.1).nodes q ≡ (workers q).node = (run_joined j.0 j.1).nodes q lt in
        let done = run_acts_unless (map turn_of j.0) (world_of j.0 j.1) (lines_are_run j.0 j.1) q (ap (halt_of (seated_play file)) node ∙ free) in
        (done.0, ap (acts (seated_play file) q) (sym node) ∙ done.1)

    -- a frame that it popped and lost fits its row there
    pub lost_arrives : (r q : ℕ) (f : FrameAt Place) → q < length file.parties → lost q r ≡ frame_told blank f ∷ []
        → (worked : Worked Place (NodeAt Place Player)) × (arrives done (length file.parties) pick (workers q).node r f ≡ Some worked)
    lost_arrives r q f lt one =
        let j = logs_join (seated_play file) pick blank (length file.parties) (seats_core file calls) workers lost all in
        let g = lost_is_front (seated_play file) pick blank (length file.parties) (seats_core file calls) workers lost all j.0 j.1 r q f lt one in
        let node : (world_of j.0 j.1).nodes q ≡ (workers q).node = (run_joined j.0 j.1).nodes q lt in
        let row = run_front_arrives (map turn_of j.0) (world_of j.0 j.1) (lines_are_run j.0 j.1) pick q r g.frame g.rest picks g.front in (
          row.0,
          sym (same_arrives done (length file.parties) pick blank (workers q).node r g.frame f g.told_alike)
              ∙ ap (λ (n : NodeAt Place Player). arrives done (length file.parties) pick n r g.frame) (sym node) ∙ row.1,
        )
