-- Parties that work together: their joined logs are a history, and what a party of theirs could
-- have refused as unfit fits.
use Rattle.std.proofs.Common.{◌≡◌, ◌∙◌, ℕ, ◌<◌, ◌==◌, max, true, List, [], ◌∷◌, ◌++◌, map, length, Option, Some, None, refl, sym, ap, subst, arith}
use Rattle.std.proofs.lemmas.Bool.Decides.{nat_tests}
use Rattle.sj_lang.specs.Place.{Place, done}
use Rattle.sj_lang.specs.FileAt.{FileAt, body_named}
use Rattle.sj_acceptance.specs.Accepted.{IsAccepted}
use Rattle.sj_semantics.specs.Program.{Program}
use Rattle.sj_end.specs.declared.note.Line.{Line}
use Rattle.sj_rules.specs.Frames.{FrameAt}
use Rattle.sj_rules.specs.History.{IsCoreRun, IsHistory, turn_of}
use Rattle.sj_rules.specs.Joined.{IsJoinedRun, PartiesWork, WorkerAt}
use Rattle.sj_rules.specs.Log.{IsJoined, LineAt, logs_below}
use Rattle.sj_rules.specs.Node.{NodeAt, Play, arrives}
use Rattle.sj_rules.specs.NodeRun.{frame_told, told_body, told_frames}
use Rattle.sj_rules.specs.Party.{play_of}
use Rattle.sj_rules.specs.Plays.{IsPlayOf}
use Rattle.sj_rules.specs.Record.{BodyAt, Carry, Fin, Claim, Signal, Ack, Give, Open}
use Rattle.sj_rules.specs.Start.{core_start}
use Rattle.sj_rules.specs.Work.{LostAt, lost_from}
use Rattle.sj_rules.specs.World.{WorldAt}
use Rattle.sj_joined_lemmas.proofs.LimitLemmas.{same_arrives}
use Rattle.sj_rules_laws.proofs.JoinedFileLemmas.{lines_are_history, lines_are_run, lost_arrives, own_joined_run, world_of}
use Rattle.sj_node.specs.declared.node.Node.{Node}
use Rattle.sj_node.specs.Node.{node_at, play_here}
use Rattle.sj_node.specs.Play.{play_with}
use Rattle.sj_node.specs.Reading.{parties_of, party_of}
use Rattle.sj_node.proofs.FilePlayLemmas.{is_play_of}
use Rattle.sj_core.proofs.LawLemmas.{max_picks}
use Rattle.sj_core.proofs.UnfitLemmas.{own_never_unfit}
use Rattle.sj_work.specs.Causes.{IsUnfit}

-- a reported frame reports the same again
told_body_twice : (b : BodyAt Place) → told_body done (told_body done b) ≡ told_body done b
told_body_twice (Carry to conn number taken msg) = refl
told_body_twice (Fin to conn number) = refl
told_body_twice (Claim of) = refl
told_body_twice (Signal to conn party taken) = refl
told_body_twice (Ack of conn) = refl
told_body_twice (Give e resend) = refl
told_body_twice (Open sess) = refl

told_twice : (f : FrameAt Place) → frame_told done (frame_told done f) ≡ frame_told done f
told_twice f = λ i. record { clock = f.clock; body = told_body_twice f.body i }

-- the first frame of a lane that reports these
first_told : (lane : List (FrameAt Place)) (x : FrameAt Place) (more : List (FrameAt Place)) → told_frames done lane ≡ x ∷ more → (g : FrameAt Place) × (frame_told done g ≡ x)
first_told [] x more e = absurd (cc e)
first_told (g ∷ rest) x more e = (g, cc e)

lost_own : (l : LostAt Place) → lost_from (Some l) l.party ≡ l.frame ∷ []
lost_own l = let same : (l.party == l.party) ≡ true = grind (arith, nat_tests) in rw same refl

module _ (file : FileAt) where
  -- what all nodes do for places and programs
  abbrev pub file_play : Play Place Program
  file_play = play_with (body_named file.protocols) (length file.connects) (length file.parties)

  pub plays_file : IsPlayOf file file_play
  plays_file = is_play_of file (body_named file.protocols) (λ q. refl)

  module _ (accepted : IsAccepted file) (team : ℕ → WorkerAt Place Program) (lost : ℕ → ℕ → List (FrameAt Place))
      (works : PartiesWork file_play max done (length file.parties) (core_start file) team lost)
      (lines : List LineAt) (joins : IsJoined (logs_below (λ p. (team p).log) (length file.parties)) lines) where
    -- the core world to which the lines lead
    abbrev pub core : WorldAt Place Program
    core = world_of file file_play max max_picks done team lost works lines joins

    pub joined_history : IsHistory max file lines core
    joined_history = lines_are_history file file_play max max_picks done team lost works accepted plays_file lines joins

    pub run : IsCoreRun file (map turn_of lines) core
    run = lines_are_run file file_play max max_picks done team lost works accepted plays_file lines joins

    pub own : IsJoinedRun (play_of file) max done (length file.parties) (core_start file) team lost lines core
    own = own_joined_run file file_play max max_picks done team lost works accepted plays_file lines joins

    -- what a party lost is a frame as lanes report it
    lost_told : (p q : ℕ) (x : FrameAt Place) → p < length file.parties → q < length file.parties → lost q p ≡ x ∷ [] → (g : FrameAt Place) × (frame_told done g ≡ x)
    lost_told p q x lt mt is =
        let l = own.lanes p q lt mt in
        first_told (core.lanes p q) x (l.waits ++ (team p).box q) (l.lane ∙ ap (λ fs. (fs ++ l.waits) ++ (team p).box q) is)

    -- it fits its row
    lost_fits : (q : ℕ) (n : NodeAt Place Program) (l : LostAt Place) → q < length file.parties → (team q).node ≡ n → lost q l.party ≡ l.frame ∷ [] → l.party < length file.parties
        → arrives done (length file.parties) max n l.party l.frame ≡ None → ⊥
    lost_fits q n l mt node is lt none =
        let g = lost_told l.party q l.frame lt mt is in
        let fits = lost_arrives file file_play max max_picks done team lost works accepted plays_file l.party q g.0 mt (is ∙ ap (λ f. f ∷ []) (sym g.1)) in
        let alike : frame_told done l.frame ≡ frame_told done g.0 = ap (frame_told done) (sym g.1) ∙ told_twice g.0 in
        let row : arrives done (length file.parties) max n l.party g.0 ≡ Some fits.0 =
        ap (λ (m : NodeAt Place Program). arrives done (length file.parties) max m l.party g.0) (sym node) ∙ fits.1 in
        let no : None ≡ Some fits.0 = sym none ∙ same_arrives done (length file.parties) max done n l.party l.frame g.0 alike ∙ row in
        cc no

    -- so no party's node is unfit: the lost frame fits its row, and the act is one
    module _ (q : ℕ) (lt : q < length file.parties) (n : Node) (node : (team q).node ≡ node_at n) (party : party_of n ≡ q) (parties : parties_of n ≡ length file.parties)
        (play : play_here n ≡ file_play) where
      pub never_unfit : (o : Option (LostAt Place)) (line : Option Line) → ((p : ℕ) → lost q p ≡ lost_from o p) → IsUnfit o n line → ⊥
      never_unfit None line all_lost unfit =
          own_never_unfit file accepted (map turn_of lines) core run q n (own.nodes q lt ∙ node) party play unfit.0 unfit.1
      never_unfit (Some l) line all_lost unfit =
          lost_fits q (node_at n) l lt node (all_lost l.party ∙ lost_own l) (subst (λ k. l.party < k) parties unfit.0)
          (subst (λ k. arrives done k max (node_at n) l.party l.frame ≡ None) parties unfit.1)
