-- Workers of a file's parties: their joined logs are a core run, and no node of theirs refuses a
-- frame or an act as unfit.
use Rattle.std.proofs.Common.{◌≡◌, ℕ, ◌<◌, List, [], ◌∷◌, map, length, slice_get, Some, None, refl, sym, ap, ◌∙◌}
use Rattle.sj_base.specs.declared.EndId.{EndId}
use Rattle.sj_base.specs.declared.Msg.{Msg}
use Rattle.sj_lang.specs.Place.{Place, done}
use Rattle.sj_lang.specs.FileAt.{FileAt}
use Rattle.sj_acceptance.specs.Accepted.{IsAccepted}
use Rattle.sj_semantics.specs.Program.{Program}
use Rattle.sj_rules.specs.Record.{HeldAt, Held}
use Rattle.sj_rules.specs.Rows.{Worked, IsPick}
use Rattle.sj_rules.specs.Frames.{FrameAt}
use Rattle.sj_rules.specs.Node.{Play, NodeAt, acts, arrives}
use Rattle.sj_rules.specs.World.{WorldAt}
use Rattle.sj_rules.specs.Halts.{halt_of}
use Rattle.sj_rules.specs.Binding.{NamesKnown}
use Rattle.sj_rules.specs.Plays.{IsPlayOf}
use Rattle.sj_rules.specs.Party.{play_of}
use Rattle.sj_rules.specs.Start.{core_start}
use Rattle.sj_rules.specs.Log.{LineAt, IsJoined, logs_below}
use Rattle.sj_rules.specs.History.{IsCoreRun, IsHistory, turn_of}
use Rattle.sj_rules.specs.NodeRun.{frame_told, told_frames}
use Rattle.sj_rules.specs.Joined.{WorkerAt, PartiesWork, IsJoinedRun}
use Rattle.sj_joined_lemmas.proofs.HistoryLemmas.{log_runs}
use Rattle.sj_joined_lemmas.proofs.LimitLemmas.{same_arrives}
use Rattle.sj_joined_lemmas.proofs.JoinedRunLemmas.{logs_join, last_world, joined_run}
use Rattle.sj_joined_lemmas.proofs.ToldRunLemmas.{lost_is_front}
use Rattle.sj_rules_laws.proofs.LimitLemmas.{run_front_arrives, core_run_few, core_run_known}
use Rattle.sj_rules_laws.proofs.PlayLemmas.{acts_same, halts_same, log_same, posts_same}
use Rattle.sj_rules_laws.proofs.RunLawsLemmas.{run_acts_unless_halted}

module _ (file : FileAt) (play : Play Place Program) (pick : ℕ → ℕ → ℕ) (picks : IsPick pick) (blank : Place) (workers : ℕ → WorkerAt Place Program) (lost : ℕ → ℕ → List (FrameAt Place))
    (all : PartiesWork play pick blank (length file.parties) (core_start file) workers lost) where
  module _ (lines : List LineAt) (joined : IsJoined (logs_below (λ p. (workers p).log) (length file.parties)) lines) where
    -- the world that the joined lines lead to
    abbrev pub world_of : WorldAt Place Program
    world_of = last_world play pick blank (length file.parties) (core_start file) workers lost all lines joined

    pub file_joined_run : IsJoinedRun play pick blank (length file.parties) (core_start file) workers lost lines world_of
    file_joined_run = joined_run play pick blank (length file.parties) (core_start file) workers lost all lines joined

  module _ (accepted : IsAccepted file) (same : IsPlayOf file play) where
    nothing_done : IsCoreRun file [] (core_start file)
    nothing_done = refl

    module _ (lines : List LineAt) (joined : IsJoined (logs_below (λ p. (workers p).log) (length file.parties)) lines) where
      -- the lines are a history of the file
      pub lines_are_history : IsHistory pick file lines (world_of lines joined)
      lines_are_history =
          log_same file accepted play same pick picks [] (core_start file) (world_of lines joined) lines nothing_done (file_joined_run lines joined).log

      pub lines_are_run : IsCoreRun file (map turn_of lines) (world_of lines joined)
      lines_are_run = log_runs (play_of file) pick picks lines (core_start file) (world_of lines joined) lines_are_history

      -- which goes on as the joined logs do, by the file's own play
      pub own_joined_run : IsJoinedRun (play_of file) pick blank (length file.parties) (core_start file) workers lost lines (world_of lines joined)
      own_joined_run =
          let r = file_joined_run lines joined in
          record {
            log = lines_are_history;
            parts = r.parts;
            nodes = r.nodes;
            lanes = r.lanes;
            posts = λ p q lt.
                ap (told_frames blank) (sym (posts_same file accepted play same pick picks p q [] (core_start file) (world_of lines joined) lines nothing_done r.log)) ∙ r.posts p q lt;
            noted = r.noted;
          }

    -- a worker's node is that of a core run
    record Seen (q : ℕ) : Type 0 where
      lines : List LineAt
      joined : IsJoined (logs_below (λ p. (workers p).log) (length file.parties)) lines

    seen : (q : ℕ) → Seen q
    seen q =
        let j = logs_join play pick blank (length file.parties) (core_start file) workers lost all in
        record { lines = j.0; joined = j.1 }

    -- where no cause keeps it from it, the node acts
    pub worker_acts : (q : ℕ) → q < length file.parties → halt_of play (workers q).node ≡ None
        → (done : Worked Place (NodeAt Place Program)) × (acts play q (workers q).node ≡ Some done)
    worker_acts q lt free =
        let s = seen q in
        let core = world_of s.lines s.joined in
        let run = lines_are_run s.lines s.joined in
        let node : core.nodes q ≡ (workers q).node = (file_joined_run s.lines s.joined).nodes q lt in
        let done = run_acts_unless_halted file accepted (map turn_of s.lines) core q run
        (sym (halts_same file accepted play same (map turn_of s.lines) core run q) ∙ ap (halt_of play) node ∙ free) in
        (done.0, ap (acts play q) (sym node) ∙ acts_same file accepted play same (map turn_of s.lines) core run q ∙ done.1)

    -- its Held ends have sent and taken fewer than 1,000,000 messages
    pub worker_few : (q : ℕ) (e : EndId) (h : HeldAt Place) → q < length file.parties → e.side < 2 → (workers q).node.main e ≡ Some (Held h)
        → (h.end.sent < 1000000) × (h.end.taken < 1000000)
    worker_few q e h lt low there =
        let s = seen q in
        let node : (world_of s.lines s.joined).nodes q ≡ (workers q).node = (file_joined_run s.lines s.joined).nodes q lt in
        core_run_few file accepted (map turn_of s.lines) (world_of s.lines s.joined) (lines_are_run s.lines s.joined) q e h low
        (ap (λ (n : NodeAt Place Program). n.main e) node ∙ there)

    -- a frame that it popped and lost fits its row there
    pub lost_arrives : (p q : ℕ) (f : FrameAt Place) → q < length file.parties → lost q p ≡ frame_told blank f ∷ []
        → (worked : Worked Place (NodeAt Place Program)) × (arrives done (length file.parties) pick (workers q).node p f ≡ Some worked)
    lost_arrives p q f lt one =
        let s = seen q in
        let g = lost_is_front play pick blank (length file.parties) (core_start file) workers lost all s.lines s.joined p q f lt one in
        let node : (world_of s.lines s.joined).nodes q ≡ (workers q).node = (file_joined_run s.lines s.joined).nodes q lt in
        let row = run_front_arrives file accepted (map turn_of s.lines) (world_of s.lines s.joined) (lines_are_run s.lines s.joined) pick q p g.frame g.rest picks g.front in (
          row.0,
          sym (same_arrives done (length file.parties) pick blank (workers q).node p g.frame f g.told_alike)
              ∙ ap (λ (n : NodeAt Place Program). arrives done (length file.parties) pick n p g.frame) (sym node) ∙ row.1,
        )

    -- what is untaken at its Held ends names sessions and parties of the file
    pub worker_known : (q : ℕ) (e : EndId) (h : HeldAt Place) (j : ℕ) (m : Msg) → q < length file.parties → e.side < 2 → (workers q).node.main e ≡ Some (Held h)
        → slice_get h.untaken j ≡ Some m → NamesKnown (length file.parties) (length file.connects) m
    worker_known q e h j m lt low there at =
        let s = seen q in
        let node : (world_of s.lines s.joined).nodes q ≡ (workers q).node = (file_joined_run s.lines s.joined).nodes q lt in
        core_run_known file accepted (map turn_of s.lines) (world_of s.lines s.joined) (lines_are_run s.lines s.joined) q e h j m low
        (ap (λ (n : NodeAt Place Program). n.main e) node ∙ there) at
