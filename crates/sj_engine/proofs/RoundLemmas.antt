-- Batches and what goes home between them.
use Rattle.std.proofs.Common.{◌≡◌, ℕ, max, List, [], ◌++◌, map, true, Option, Some, None, refl, sym, ap, subst, ◌∙◌, append_assoc, append-nil}
use Rattle.std.specs.List.{flat_map}
use Rattle.std.proofs.lemmas.Grind.{flat_map-append}
use Rattle.std.proofs.lemmas.List.{map-append}
use Rattle.std.proofs.lemmas.List.Elements.{filter_map-append}
use Rattle.sj_lang.specs.Place.{Place, done}
use Rattle.sj_semantics.specs.Program.{Program}
use Rattle.sj_rules.specs.Node.{Play}
use Rattle.sj_rules.specs.Frames.{FrameAt, frames_for}
use Rattle.sj_rules.specs.NodeRun.{NodeRun, StepAt, frame_from, popped_from, posted_to, told_frames}
use Rattle.sj_rules.specs.Work.{LostAt, lost_from}
use Rattle.sj_joined_lemmas.proofs.WorkerLemmas.{runs_joined}
use Rattle.sj_node.specs.declared.node.Node.{Node}
use Rattle.sj_node.specs.Node.{log_of, node_at, node_halt, outbox_of, play_here}
use Rattle.sj_node.specs.Reading.{IsIdle, parties_of, party_of}
use Rattle.sj_wire.specs.Spelling.{spelling}
use Rattle.sj_work.specs.declared.worker.Stop.{Stop}
use Rattle.sj_work.specs.declared.worker.Stop.TheVariants as stops
use Rattle.sj_work.specs.declared.worker.Worker.{Worker}
use Rattle.sj_work.specs.Causes.{Loses}
use Rattle.sj_work.specs.Laned.{entries_of}
use Rattle.sj_work.specs.Views.{in_of, node_of, out_of}
use Rattle.sj_work.specs.Worked.{kept_stop}
use Rattle.sj_engine.specs.Batch.{Batch, Brings, Sends, StopsBy, waiting}
use Rattle.sj_engine.specs.Home.{AtHome}
use Rattle.sj_engine.specs.Lanes.{pushed_on, unread}
use Rattle.sj_engine.specs.Rounds.{GoesHome, Keeps, Rounds, goes_on}
use Rattle.sj_engine.specs.declared.in_lane.ByteIn.{ByteIn}
use Rattle.sj_engine.specs.declared.out_lane.ByteOut.{ByteOut}

abbrev Frames : Type 0
Frames = List (FrameAt Place)

abbrev text : Frames → List ℕ
text fs = flat_map spelling fs

text_both : (xs ys : Frames) → text (xs ++ ys) ≡ text xs ++ text ys
text_both xs ys = flat_map-append spelling xs ys

-- two calls of a lane to another party
sends_later : (o p r : Option ByteOut) (box mid left ps qs : Frames) → Sends o p box mid ps → Sends p r mid left qs → Sends o r box left (ps ++ qs)
sends_later None None None box mid left ps qs x y = y ∙ ap (λ (l : Frames). l ++ qs) x ∙ append_assoc box ps qs
sends_later None None (Some r) box mid left ps qs x y = absurd y
sends_later None (Some p) r box mid left ps qs x y = absurd x
sends_later (Some o) None r box mid left ps qs x y = absurd x
sends_later (Some o) (Some p) None box mid left ps qs x y = absurd y
sends_later (Some o) (Some p) (Some r) box mid left ps qs x y =
    y ∙ sym (append_assoc (pushed_on p) mid qs) ∙ ap (λ (l : Frames). l ++ qs) x ∙ append_assoc (pushed_on o) (box ++ ps) qs ∙ ap (λ (l : Frames). pushed_on o ++ l) (append_assoc box ps qs)

-- and of a lane from another
brings_later : (i j k : Option ByteIn) (cs ds : Frames) → Brings i j cs → Brings j k ds → Brings i k (cs ++ ds)
brings_later None None None cs ds x y = ap (λ (l : Frames). l ++ ds) x ∙ y
brings_later None None (Some k) cs ds x y = absurd y
brings_later None (Some j) k cs ds x y = absurd x
brings_later (Some i) None k cs ds x y = absurd x
brings_later (Some i) (Some j) None cs ds x y = absurd y
brings_later (Some i) (Some j) (Some k) cs ds x y =
    x ∙ ap (λ (l : List ℕ). text cs ++ l) y ∙ sym (append_assoc (text cs) (text ds) (unread k)) ∙ ap (λ (l : List ℕ). l ++ unread k) (sym (text_both cs ds))

-- lanes of a party to itself that something was sent on and came from
module _ (i j k : ByteIn) (o p r : ByteOut) (box mid left ps qs cs ds : Frames) where
  both_kept : unread i ++ text (pushed_on o ++ (box ++ ps)) ≡ text cs ++ (unread j ++ text (pushed_on p ++ mid)) → pushed_on r ++ left ≡ pushed_on p ++ (mid ++ qs) → unread j ≡ text ds ++ unread k
      → unread i ++ text (pushed_on o ++ (box ++ (ps ++ qs))) ≡ text (cs ++ ds) ++ (unread k ++ text (pushed_on r ++ left))
  both_kept x y z =
      let posts : pushed_on o ++ (box ++ (ps ++ qs)) ≡ (pushed_on o ++ (box ++ ps)) ++ qs = ap (λ (l : Frames). pushed_on o ++ l) (sym (append_assoc box ps qs)) ∙ sym (append_assoc (pushed_on o) (box ++ ps) qs) in
      let one : text (pushed_on o ++ (box ++ (ps ++ qs))) ≡ text (pushed_on o ++ (box ++ ps)) ++ text qs = ap text posts ∙ text_both (pushed_on o ++ (box ++ ps)) qs in
      let goes : text (pushed_on r ++ left) ≡ text (pushed_on p ++ mid) ++ text qs = ap text (y ∙ sym (append_assoc (pushed_on p) mid qs)) ∙ text_both (pushed_on p ++ mid) qs in
      let first : unread i ++ text (pushed_on o ++ (box ++ (ps ++ qs))) ≡ (text cs ++ (unread j ++ text (pushed_on p ++ mid))) ++ text qs =
      ap (λ (l : List ℕ). unread i ++ l) one ∙ sym (append_assoc (unread i) (text (pushed_on o ++ (box ++ ps))) (text qs)) ∙ ap (λ (l : List ℕ). l ++ text qs) x in
      let second : (text cs ++ (unread j ++ text (pushed_on p ++ mid))) ++ text qs ≡ text cs ++ (unread j ++ text (pushed_on r ++ left)) =
      append_assoc (text cs) (unread j ++ text (pushed_on p ++ mid)) (text qs)
      ∙ ap (λ (l : List ℕ). text cs ++ l) (append_assoc (unread j) (text (pushed_on p ++ mid)) (text qs) ∙ ap (λ (l : List ℕ). unread j ++ l) (sym goes)) in
      let third : text cs ++ (unread j ++ text (pushed_on r ++ left)) ≡ text (cs ++ ds) ++ (unread k ++ text (pushed_on r ++ left)) =
      ap (λ (l : List ℕ). text cs ++ (l ++ text (pushed_on r ++ left))) z ∙ ap (λ (l : List ℕ). text cs ++ l) (append_assoc (text ds) (unread k) (text (pushed_on r ++ left)))
      ∙ sym (append_assoc (text cs) (text ds) (unread k ++ text (pushed_on r ++ left))) ∙ ap (λ (l : List ℕ). l ++ (unread k ++ text (pushed_on r ++ left))) (sym (text_both cs ds)) in
      first ∙ second ∙ third

keeps_batch : (o : Option ByteOut) (i : Option ByteIn) (p : Option ByteOut) (j : Option ByteIn) (r : Option ByteOut) (k : Option ByteIn) (box mid left ps qs cs ds : Frames)
    → Keeps o i p j box mid ps cs → Sends p r mid left qs → Brings j k ds → Keeps o i r k box left (ps ++ qs) (cs ++ ds)
keeps_batch None i p j r k box mid left ps qs cs ds x y z = (sends_later None p r box mid left ps qs x.0 y, brings_later i j k cs ds x.1 z)
keeps_batch (Some o) None p j r k box mid left ps qs cs ds x y z = (sends_later (Some o) p r box mid left ps qs x.0 y, brings_later None j k cs ds x.1 z)
keeps_batch (Some o) (Some i) None j r k box mid left ps qs cs ds x y z = absurd x
keeps_batch (Some o) (Some i) (Some p) None r k box mid left ps qs cs ds x y z = absurd x
keeps_batch (Some o) (Some i) (Some p) (Some j) None k box mid left ps qs cs ds x y z = absurd y
keeps_batch (Some o) (Some i) (Some p) (Some j) (Some r) None box mid left ps qs cs ds x y z = absurd z
keeps_batch (Some o) (Some i) (Some p) (Some j) (Some r) (Some k) box mid left ps qs cs ds x y z = both_kept i j k o p r box mid left ps qs cs ds x y z

home_kept : (j k : ByteIn) (p r : ByteOut) (left : Frames) → unread j ++ text (pushed_on p) ≡ unread k ++ text (pushed_on r) → unread j ++ text (pushed_on p ++ left) ≡ unread k ++ text (pushed_on r ++ left)
home_kept j k p r left e =
    ap (λ (l : List ℕ). unread j ++ l) (text_both (pushed_on p) left) ∙ sym (append_assoc (unread j) (text (pushed_on p)) (text left)) ∙ ap (λ (l : List ℕ). l ++ text left) e
    ∙ append_assoc (unread k) (text (pushed_on r)) (text left) ∙ ap (λ (l : List ℕ). unread k ++ l) (sym (text_both (pushed_on r) left))

keeps_home : (o : Option ByteOut) (i : Option ByteIn) (p : Option ByteOut) (j : Option ByteIn) (r : Option ByteOut) (k : Option ByteIn) (box left ps cs : Frames)
    → Keeps o i p j box left ps cs → AtHome p j r k → Keeps o i r k box left ps cs
keeps_home o i None j r k box left ps cs x h =
    subst (λ (s : Option ByteOut). Keeps o i s k box left ps cs) (sym h.0) (subst (λ (l : Option ByteIn). Keeps o i None l box left ps cs) (sym h.1) x)
keeps_home o i (Some p) None r k box left ps cs x h =
    subst (λ (s : Option ByteOut). Keeps o i s k box left ps cs) (sym h.0) (subst (λ (l : Option ByteIn). Keeps o i (Some p) l box left ps cs) (sym h.1) x)
keeps_home o i (Some p) (Some j) None None box left ps cs x h = absurd h
keeps_home o i (Some p) (Some j) None (Some k) box left ps cs x h = absurd h
keeps_home o i (Some p) (Some j) (Some r) None box left ps cs x h = absurd h
keeps_home None i (Some p) (Some j) (Some r) (Some k) box left ps cs x h = absurd x.0
keeps_home (Some o) None (Some p) (Some j) (Some r) (Some k) box left ps cs x h = absurd x.1
keeps_home (Some o) (Some i) (Some p) (Some j) (Some r) (Some k) box left ps cs x h = x ∙ ap (λ (l : List ℕ). text cs ++ l) (home_kept j k p r left h)

keeps_none : (o : Option ByteOut) (i : Option ByteIn) (box : Frames) → Keeps o i o i box box [] []
keeps_none None None box = (sym (append-nil box), refl)
keeps_none None (Some i) box = (sym (append-nil box), refl)
keeps_none (Some o) None box = (ap (λ (l : Frames). pushed_on o ++ l) (sym (append-nil box)), refl)
keeps_none (Some o) (Some i) box = ap (λ (l : Frames). unread i ++ text (pushed_on o ++ l)) (append-nil box)

sends_none : (o : Option ByteOut) (box : Frames) → Sends o o box box []
sends_none None box = sym (append-nil box)
sends_none (Some o) box = ap (λ (l : Frames). pushed_on o ++ l) (sym (append-nil box))

brings_none : (i : Option ByteIn) → Brings i i []
brings_none None = refl
brings_none (Some i) = refl

-- nothing was done yet
pub rounds_none : (w : Worker ByteOut ByteIn) → Rounds None w w
rounds_none w = record {
  steps = [];
  run = refl;
  log = sym (append-nil (entries_of (log_of (node_of w))));
  outs = λ q other. sends_none (out_of w q) (waiting w q);
  ins = λ q other. brings_none (in_of w q);
  home = keeps_none (out_of w (party_of (node_of w))) (in_of w (party_of (node_of w))) (waiting w (party_of (node_of w)));
  play = refl;
  party = refl;
  parties = refl;
}

pub posted_both : (q : ℕ) (xs ys : List (StepAt Place)) → posted_to done q (xs ++ ys) ≡ posted_to done q xs ++ posted_to done q ys
posted_both q xs ys = flat_map-append (λ (s : StepAt Place). told_frames done (frames_for q s.entry.clock s.posts)) xs ys

-- what was popped by the steps before, where none was lost, and what comes then
pub popped_both : (q : ℕ) (xs ys : List (StepAt Place)) (lost : Option (LostAt Place)) → (popped_from done q xs ++ []) ++ (popped_from done q ys ++ lost_from lost q) ≡ popped_from done q (xs ++ ys) ++ lost_from lost q
popped_both q xs ys lost =
    let both : popped_from done q (xs ++ ys) ≡ popped_from done q xs ++ popped_from done q ys = filter_map-append (λ (s : StepAt Place). frame_from done q s.deed) xs ys in
    ap (λ (l : Frames). l ++ (popped_from done q ys ++ lost_from lost q)) (append-nil (popped_from done q xs)) ∙ sym (append_assoc (popped_from done q xs) (popped_from done q ys) (lost_from lost q)) ∙ ap (λ (l : Frames). l ++ lost_from lost q) (sym both)

module _ (a b c : Worker ByteOut ByteIn) (lost : Option (LostAt Place)) (x : Rounds None a b) (y : Batch lost b c) where
  outs_both : (q : ℕ) → (q ≡ party_of (node_of a) → ⊥) → Sends (out_of a q) (out_of c q) (waiting a q) (waiting c q) (posted_to done q (x.steps ++ y.steps))
  outs_both q other =
      subst (λ (l : Frames). Sends (out_of a q) (out_of c q) (waiting a q) (waiting c q) l) (sym (posted_both q x.steps y.steps))
      (sends_later (out_of a q) (out_of b q) (out_of c q) (waiting a q) (waiting b q) (waiting c q) (posted_to done q x.steps) (posted_to done q y.steps) (x.outs q other) (y.outs q))

  ins_both : (q : ℕ) → (q ≡ party_of (node_of a) → ⊥) → Brings (in_of a q) (in_of c q) (popped_from done q (x.steps ++ y.steps) ++ lost_from lost q)
  ins_both q other =
      subst (λ (l : Frames). Brings (in_of a q) (in_of c q) l) (popped_both q x.steps y.steps lost)
      (brings_later (in_of a q) (in_of b q) (in_of c q) (popped_from done q x.steps ++ []) (popped_from done q y.steps ++ lost_from lost q) (x.ins q other) (y.ins q))

  home_both : (q : ℕ) → Keeps (out_of a q) (in_of a q) (out_of b q) (in_of b q) (waiting a q) (waiting b q) (posted_to done q x.steps) (popped_from done q x.steps ++ [])
      → Keeps (out_of a q) (in_of a q) (out_of c q) (in_of c q) (waiting a q) (waiting c q) (posted_to done q (x.steps ++ y.steps)) (popped_from done q (x.steps ++ y.steps) ++ lost_from lost q)
  home_both q h =
      subst (λ (l : Frames). Keeps (out_of a q) (in_of a q) (out_of c q) (in_of c q) (waiting a q) (waiting c q) l (popped_from done q (x.steps ++ y.steps) ++ lost_from lost q)) (sym (posted_both q x.steps y.steps))
      (subst (λ (l : Frames). Keeps (out_of a q) (in_of a q) (out_of c q) (in_of c q) (waiting a q) (waiting c q) (posted_to done q x.steps ++ posted_to done q y.steps) l) (popped_both q x.steps y.steps lost)
      (keeps_batch (out_of a q) (in_of a q) (out_of b q) (in_of b q) (out_of c q) (in_of c q) (waiting a q) (waiting b q) (waiting c q) (posted_to done q x.steps) (posted_to done q y.steps)
      (popped_from done q x.steps ++ []) (popped_from done q y.steps ++ lost_from lost q) h (y.outs q) (y.ins q)))

  run_both : NodeRun (play_here (node_of a)) max (party_of (node_of a)) (node_at (node_of a)) (x.steps ++ y.steps) (node_at (node_of c))
  run_both =
      runs_joined (play_here (node_of a)) max done (party_of (node_of a)) x.steps y.steps (node_at (node_of a)) (node_at (node_of b)) (node_at (node_of c)) x.run
      (subst (λ (play : Play Place Program). NodeRun play max (party_of (node_of a)) (node_at (node_of b)) y.steps (node_at (node_of c))) x.play
      (subst (λ (p : ℕ). NodeRun (play_here (node_of b)) max p (node_at (node_of b)) y.steps (node_at (node_of c))) x.party y.run))

  -- a batch after others
  pub rounds_batch : Rounds lost a c
  rounds_batch = record {
    steps = x.steps ++ y.steps;
    run = run_both;
    log = y.log ∙ ap (λ l. l ++ map (λ s. s.entry) y.steps) x.log ∙ append_assoc (entries_of (log_of (node_of a))) (map (λ s. s.entry) x.steps) (map (λ s. s.entry) y.steps)
        ∙ ap (λ l. entries_of (log_of (node_of a)) ++ l) (sym (map-append (λ (s : StepAt Place). s.entry) x.steps y.steps));
    outs = outs_both;
    ins = ins_both;
    home = home_both (party_of (node_of a)) x.home;
    play = y.play ∙ x.play;
    party = y.party ∙ x.party;
    parties = y.parties ∙ x.parties;
  }

module _ (a b c : Worker ByteOut ByteIn) (lost : Option (LostAt Place)) (x : Rounds lost a b) (h : GoesHome b c) where
  not_home : (q : ℕ) → (q ≡ party_of (node_of a) → ⊥) → q ≡ party_of (node_of b) → ⊥
  not_home q other same = other (same ∙ x.party)

  waits : (q : ℕ) → waiting b q ≡ waiting c q
  waits q = ap (λ n. told_frames done (outbox_of n q)) (sym h.node)

  -- what was sent to itself went home after them
  pub rounds_home : Rounds lost a c
  rounds_home = record {
    steps = x.steps;
    run = subst (λ n. NodeRun (play_here (node_of a)) max (party_of (node_of a)) (node_at (node_of a)) x.steps (node_at n)) (sym h.node) x.run;
    log = ap (λ n. entries_of (log_of n)) h.node ∙ x.log;
    outs = λ q other. subst (λ (l : Frames). Sends (out_of a q) (out_of c q) (waiting a q) l (posted_to done q x.steps)) (waits q)
        (subst (λ (o : Option ByteOut). Sends (out_of a q) o (waiting a q) (waiting b q) (posted_to done q x.steps)) (sym (h.lanes.outs q (not_home q other))) (x.outs q other));
    ins = λ q other. subst (λ (i : Option ByteIn). Brings (in_of a q) i (popped_from done q x.steps ++ lost_from lost q)) (sym (h.lanes.ins q (not_home q other))) (x.ins q other);
    home = own (party_of (node_of a)) (subst (λ (p : ℕ). AtHome (out_of b p) (in_of b p) (out_of c p) (in_of c p)) x.party h.lanes.home) x.home;
    play = ap play_here h.node ∙ x.play;
    party = ap party_of h.node ∙ x.party;
    parties = ap parties_of h.node ∙ x.parties;
  }
    where
      own : (q : ℕ) → AtHome (out_of b q) (in_of b q) (out_of c q) (in_of c q)
          → Keeps (out_of a q) (in_of a q) (out_of b q) (in_of b q) (waiting a q) (waiting b q) (posted_to done q x.steps) (popped_from done q x.steps ++ lost_from lost q)
          → Keeps (out_of a q) (in_of a q) (out_of c q) (in_of c q) (waiting a q) (waiting c q) (posted_to done q x.steps) (popped_from done q x.steps ++ lost_from lost q)
      own q at k =
          subst (λ (l : Frames). Keeps (out_of a q) (in_of a q) (out_of c q) (in_of c q) (waiting a q) l (posted_to done q x.steps) (popped_from done q x.steps ++ lost_from lost q)) (waits q)
          (keeps_home (out_of a q) (in_of a q) (out_of b q) (in_of b q) (out_of c q) (in_of c q) (waiting a q) (waiting b q) (posted_to done q x.steps) (popped_from done q x.steps ++ lost_from lost q) k at)

-- a lane that is there was there
was_there : (o : Option ByteOut) (i : Option ByteIn) (p : ByteOut) (j : Option ByteIn) → AtHome o i (Some p) j → (r : ByteOut) × (o ≡ Some r)
was_there None i p j h = absurd (none_some h.0)
  where
    none_some : ◌≡◌ {A = Option ByteOut} (Some p) None → ⊥
    none_some e = absurd cc
was_there (Some o) i p j h = (o, refl)

-- a party that may go on lost no frame
pub no_loss : (s : Stop) (lost : Option (LostAt Place)) → goes_on s ≡ true → Loses lost (Some s) → lost ≡ None
no_loss s None goes loses = refl
no_loss stops.Idle (Some l) goes loses = absurd loses
no_loss stops.AtLimit (Some l) goes loses = absurd loses
no_loss stops.Finished (Some l) goes loses = absurd loses
no_loss stops.ClockEnd (Some l) goes loses = absurd loses
no_loss stops.NoMemory (Some l) goes loses = absurd cc
no_loss stops.Fault (Some l) goes loses = absurd loses
no_loss stops.Unfit (Some l) goes loses = absurd cc

-- its stop isn't one that stays
pub kept_none : (s : Stop) → goes_on s ≡ true → kept_stop (Some s) ≡ None
kept_none stops.Finished goes = refl
kept_none stops.Idle goes = refl
kept_none stops.AtLimit goes = refl
kept_none stops.ClockEnd goes = refl
kept_none stops.NoMemory goes = absurd cc
kept_none stops.Fault goes = absurd cc
kept_none stops.Unfit goes = absurd cc

-- and has the same cause once something went home
pub stops_home : (s : Stop) (lost : Option (LostAt Place)) (b c : Worker ByteOut ByteIn) → goes_on s ≡ true → node_of c ≡ node_of b → StopsBy (Some s) lost b → StopsBy (Some s) lost c
stops_home stops.Finished lost b c goes same by = absurd cc
stops_home stops.Idle lost b c goes same by = subst (λ (n : Node). IsIdle (node_halt n)) (sym same) by
stops_home stops.AtLimit lost b c goes same by = ap node_halt same ∙ by
stops_home stops.ClockEnd lost b c goes same by = absurd cc
stops_home stops.NoMemory lost b c goes same by = absurd cc
stops_home stops.Fault lost b c goes same by = absurd cc
stops_home stops.Unfit lost b c goes same by = absurd cc
