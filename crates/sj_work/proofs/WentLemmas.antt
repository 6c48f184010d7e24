-- How a worker went: by an event, by none, and one after the other.
use Rattle.std.proofs.Common.{◌≡◌, ℕ, ◌<◌, ◌≤◌, max, true, false, if◌then◌else◌, List, [], ◌∷◌, ◌++◌, map, Option, Some, None, refl, ap, sym, ◌∙◌, arith, subst, append-nil}
use Rattle.std.specs.Prelude.{◌==◌, slice_get}
use Rattle.std.specs.List.{cons_option}
use Rattle.std.proofs.Math.ListN.{set}
use Rattle.std.proofs.lemmas.Bool.Decides.{nat_tests}
use Rattle.sj_lang.specs.Place.{Place, done}
use Rattle.sj_semantics.specs.Program.{Program}
use Rattle.sj_table.specs.Spots.{place_in}
use Rattle.sj_end.specs.declared.frames.Frame.{Frame}
use Rattle.sj_end.specs.Views.{frame_at}
use Rattle.sj_rules.specs.Frames.{FrameAt, frames_for}
use Rattle.sj_rules.specs.Mapped.{frame_with}
use Rattle.sj_rules.specs.Node.{Play}
use Rattle.sj_rules.specs.NodeRun.{Deed, Acted, Came, frame_from, frame_told, told_frames}
use Rattle.sj_rules.specs.Work.{InStep, LaneWork, LostAt, OutStep, lost_from}
use Rattle.sj_joined_lemmas.proofs.LaneWorkLemmas.{event_lane_work, in_itself, lane_work_later, quiet_lane_work}
use Rattle.sj_rules.specs.Limits.{clock_end}
use Rattle.sj_lane.specs.Told.{told_frame}
use Rattle.sj_lane.proofs.CellLemmas.{get_set_other}
use Rattle.sj_node.specs.declared.node.Node.{Node}
use Rattle.sj_node.specs.Node.{clock_of, outbox_of, play_here}
use Rattle.sj_node.specs.Outs.{waiting_in}
use Rattle.sj_node.specs.Reading.{TakesOut, outs_of, parties_of, party_of}
use Rattle.sj_work.specs.declared.worker.Outcome.{Outcome}
use Rattle.sj_work.specs.declared.worker.Worker.{Worker}
use Rattle.sj_work.specs.Counts.{OnLane, Stands, Stood}
use Rattle.sj_work.specs.Laned.{laned}
use Rattle.sj_work.specs.Views.{in_of, out_of}
use Rattle.sj_work.proofs.CountLemmas.{on_itself, on_later, on_put, stands_itself, stands_more, stood_itself, stood_more}
use Rattle.sj_work.proofs.LaneLaws.{InDid, LaneLaws, OutDid, WentBy}
use Rattle.sj_work.proofs.LaneLemmas.{in_put, out_alone, out_put, told_all_with}
use Rattle.sj_work.proofs.NodeLemmas.{Quiet, Stepped, out_quiet, quiet_itself, quiet_later}

if_same : {X : Type 0} (k : ℕ) (x y : X) → (if k == k then x else y) ≡ x
if_same k x y = let t : (k == k) ≡ true = grind (arith, nat_tests) in rw t refl

if_other : {X : Type 0} (n k : ℕ) (x y : X) → (n ≡ k → ⊥) → (if n == k then x else y) ≡ y
if_other n k x y h = let t : (n == k) ≡ false = grind (arith, nat_tests) in rw t refl

not_both : (x y : ℕ) → x < y → y ≤ x → ⊥
not_both x y lt le = absurd (omega arith)

apart : (from q n : ℕ) → from < n → n ≤ q → q ≡ from → ⊥
apart from q n lt le is = absurd (omega arith)

-- an outbox as lanes report it
abbrev box_of : {O I : Type 0} → Worker O I → ℕ → List (FrameAt Place)
box_of w q = told_frames done (outbox_of w.node q)

box_waits : (n : Node) (q : ℕ) → told_frames done (outbox_of n q) ≡ map (frame_with (λ s. done)) (waiting_in (outs_of n) q)
box_waits n q = told_all_with (place_in n.table) (waiting_in (outs_of n) q)

module _ {O I : Type 0} (k : LaneLaws O I) where
  -- nothing of all lanes to parties but their outboxes changed
  record OutsWent (a b : Worker O I) : Type 0 where
    steps : (q : ℕ) → OutStep k.outward.pushed k.outward.same (out_of a q) (out_of b q) (box_of a q) (box_of b q) []
    faults : (q : ℕ) → OnLane k.outward.faults Stands (out_of a q) (out_of b q)
    vain : (q : ℕ) → OnLane k.outward.vain Stood (out_of a q) (out_of b q)

  -- these frames came from each party
  record InsWent (a b : Worker O I) (ts : ℕ → List (FrameAt Place)) : Type 0 where
    steps : (q : ℕ) → InStep k.inward.popped k.inward.same (in_of a q) (in_of b q) (ts q)
    faults : (q : ℕ) → OnLane k.inward.faults Stands (in_of a q) (in_of b q)
    vain : (q : ℕ) → OnLane k.inward.vain Stood (in_of a q) (in_of b q)
    beyond : (q : ℕ) → parties_of a.node ≤ q → in_of b q ≡ in_of a q
    at_end : clock_end ≤ clock_of a.node → (q : ℕ) → in_of b q ≡ in_of a q

  faults_alone : (a b : List O) → b ≡ a → (q : ℕ) → OnLane k.outward.faults Stands (slice_get a q) (slice_get b q)
  faults_alone a b same q = subst (λ (xs : List O). OnLane k.outward.faults Stands (slice_get a q) (slice_get xs q)) (sym same) (on_itself k.outward.faults Stands stands_itself (slice_get a q))

  vain_alone : (a b : List O) → b ≡ a → (q : ℕ) → OnLane k.outward.vain Stood (slice_get a q) (slice_get b q)
  vain_alone a b same q = subst (λ (xs : List O). OnLane k.outward.vain Stood (slice_get a q) (slice_get xs q)) (sym same) (on_itself k.outward.vain Stood stood_itself (slice_get a q))

  -- lanes to parties that are left alone
  outs_alone : (a b : Worker O I) → ((q : ℕ) → box_of b q ≡ box_of a q) → b.lanes.outs.items ≡ a.lanes.outs.items → OutsWent a b
  outs_alone a b box same = record {
    steps = λ q. subst (λ (xs : List O). OutStep k.outward.pushed k.outward.same (out_of a q) (slice_get xs q) (box_of a q) (box_of b q) []) (sym same)
        (out_alone k.outward.pushed k.outward.same k.out_itself k.out_later (out_of a q) (box_of a q) (box_of b q) [] (box q ∙ sym (append-nil (box_of a q))));
    faults = faults_alone a.lanes.outs.items b.lanes.outs.items same;
    vain = vain_alone a.lanes.outs.items b.lanes.outs.items same;
  }

  -- one of them took these frames out of its outbox
  outs_put : (a b : Worker O I) (to : ℕ) (o p : O) (now : List (FrameAt Place)) → out_of a to ≡ Some o → b.lanes.outs.items ≡ set a.lanes.outs.items to p → OutDid k o p now
      → now ++ box_of b to ≡ box_of a to → ((q : ℕ) → (q ≡ to → ⊥) → box_of b q ≡ box_of a q) → OutsWent a b
  outs_put a b to o p now at put did own others = record {
    steps = λ q. subst (λ (xs : List O). OutStep k.outward.pushed k.outward.same (out_of a q) (slice_get xs q) (box_of a q) (box_of b q) []) (sym put)
        (out_put k.outward.pushed k.outward.same k.out_itself k.out_later a.lanes.outs.items to q o p (box_of a) (box_of b) at (did.same, (now, did.told, own ∙ sym (append-nil (box_of a to)))) others);
    faults = λ q. subst (λ (xs : List O). OnLane k.outward.faults Stands (out_of a q) (slice_get xs q)) (sym put)
        (on_put k.outward.faults Stands stands_itself a.lanes.outs.items to q o p at did.faults);
    vain = λ q. subst (λ (xs : List O). OnLane k.outward.vain Stood (out_of a q) (slice_get xs q)) (sym put)
        (on_put k.outward.vain Stood stood_itself a.lanes.outs.items to q o p at did.vain);
  }

  -- lanes from parties that are left alone
  ins_alone : (a b : Worker O I) → b.lanes.ins.items ≡ a.lanes.ins.items → InsWent a b (λ q. [])
  ins_alone a b same = record {
    steps = λ q. subst (λ (xs : List I). InStep k.inward.popped k.inward.same (in_of a q) (slice_get xs q) []) (sym same) (in_itself k.inward.popped k.inward.same k.in_itself k.in_later (in_of a q));
    faults = λ q. subst (λ (xs : List I). OnLane k.inward.faults Stands (in_of a q) (slice_get xs q)) (sym same) (on_itself k.inward.faults Stands stands_itself (in_of a q));
    vain = λ q. subst (λ (xs : List I). OnLane k.inward.vain Stood (in_of a q) (slice_get xs q)) (sym same) (on_itself k.inward.vain Stood stood_itself (in_of a q));
    beyond = λ q past. ap (λ (xs : List I). slice_get xs q) same;
    at_end = λ over q. ap (λ (xs : List I). slice_get xs q) same;
  }

  -- from one of them these frames came
  ins_put : (a b : Worker O I) (from : ℕ) (i j : I) (ts : ℕ → List (FrameAt Place)) → in_of a from ≡ Some i → b.lanes.ins.items ≡ set a.lanes.ins.items from j → InDid k i j (ts from)
      → ((q : ℕ) → (q ≡ from → ⊥) → ts q ≡ []) → from < parties_of a.node → clock_of a.node < clock_end → InsWent a b ts
  ins_put a b from i j ts at put did others within before = record {
    steps = λ q. subst (λ (xs : List I). InStep k.inward.popped k.inward.same (in_of a q) (slice_get xs q) (ts q)) (sym put)
        (in_put k.inward.popped k.inward.same k.in_itself k.in_later a.lanes.ins.items from q i j ts at (did.same, did.told) others);
    faults = λ q. subst (λ (xs : List I). OnLane k.inward.faults Stands (in_of a q) (slice_get xs q)) (sym put)
        (on_put k.inward.faults Stands stands_itself a.lanes.ins.items from q i j at did.faults);
    vain = λ q. subst (λ (xs : List I). OnLane k.inward.vain Stood (in_of a q) (slice_get xs q)) (sym put)
        (on_put k.inward.vain Stood stood_itself a.lanes.ins.items from q i j at did.vain);
    beyond = λ q past. ap (λ (xs : List I). slice_get xs q) put ∙ get_set_other a.lanes.ins.items from q j (apart from q (parties_of a.node) within past);
    at_end = λ over q. absurd (not_both (clock_of a.node) clock_end before over);
  }

  -- an event, in which the lanes to parties are left alone
  event : (a b : Worker O I) (deed : Deed Place) → Stepped a.node b.node deed → b.lanes.outs.items ≡ a.lanes.outs.items → InsWent a b (λ q. cons_option (frame_from done q deed) []) → WentBy k None a b
  event a b deed s outs ins = record {
    work = event_lane_work k.outward.pushed k.outward.same k.inward.popped k.inward.same (play_here a.node) max done (party_of a.node) (laned a) (laned b) s.step s.steps s.log
        (λ q. subst (λ (xs : List O). OutStep k.outward.pushed k.outward.same (out_of a q) (slice_get xs q) (box_of a q) (box_of b q) (told_frames done (frames_for q s.step.entry.clock s.step.posts))) (sym outs)
        (out_alone k.outward.pushed k.outward.same k.out_itself k.out_later (out_of a q) (box_of a q) (box_of b q) (told_frames done (frames_for q s.step.entry.clock s.step.posts)) (s.box q)))
        (λ q. subst (λ (d : Deed Place). InStep k.inward.popped k.inward.same (in_of a q) (in_of b q) (cons_option (frame_from done q d) [])) (sym s.is) (ins.steps q));
    play = s.keeps.play;
    party = s.keeps.party;
    parties = s.keeps.parties;
    table = s.keeps.table;
    connects = s.keeps.connects;
    clock = s.keeps.clock;
    faults_out = faults_alone a.lanes.outs.items b.lanes.outs.items outs;
    vain_out = vain_alone a.lanes.outs.items b.lanes.outs.items outs;
    faults_in = ins.faults;
    vain_in = ins.vain;
    beyond = ins.beyond;
    at_end = ins.at_end;
  }

  -- no event
  still : (a b : Worker O I) (lost : Option (LostAt Place)) → Quiet a.node b.node → OutsWent a b → InsWent a b (lost_from lost) → WentBy k lost a b
  still a b lost n outs ins = record {
    work = quiet_lane_work k.outward.pushed k.outward.same k.inward.popped k.inward.same (play_here a.node) max done (party_of a.node) (laned a) (laned b) lost n.node n.log outs.steps ins.steps;
    play = n.keeps.play;
    party = n.keeps.party;
    parties = n.keeps.parties;
    table = n.keeps.table;
    connects = n.keeps.connects;
    clock = n.keeps.clock;
    faults_out = outs.faults;
    vain_out = outs.vain;
    faults_in = ins.faults;
    vain_in = ins.vain;
    beyond = ins.beyond;
    at_end = ins.at_end;
  }

  -- an act
  pub went_acted : (a b : Worker O I) → Stepped a.node b.node Acted → b.lanes ≡ a.lanes → WentBy k None a b
  went_acted a b s lanes = event a b Acted s (λ i. (lanes i).outs.items) (ins_alone a b (λ i. (lanes i).ins.items))

  -- a frame that was popped and delivered
  pub went_came : (a b : Worker O I) (from : ℕ) (f : FrameAt Place) (i j : I) → Stepped a.node b.node (Came from f) → b.lanes.outs.items ≡ a.lanes.outs.items
      → in_of a from ≡ Some i → b.lanes.ins.items ≡ set a.lanes.ins.items from j → InDid k i j (frame_told done f ∷ []) → from < parties_of a.node → clock_of a.node < clock_end → WentBy k None a b
  went_came a b from f i j s outs at put did within before =
      let ts : ℕ → List (FrameAt Place) = λ q. cons_option (frame_from done q (Came from f)) [] in
      let own : ts from ≡ frame_told done f ∷ [] = ap (λ o. cons_option o []) (if_same from (Some (frame_told done f)) None) in
      event a b (Came from f) s outs
      (ins_put a b from i j ts at put (subst (λ (l : List (FrameAt Place)). InDid k i j l) (sym own) did) (λ q h. ap (λ o. cons_option o []) (if_other q from (Some (frame_told done f)) None h)) within before)

  -- a worker whose node and lanes are left alone
  pub went_still : (a b : Worker O I) → Quiet a.node b.node → ((q : ℕ) → outbox_of b.node q ≡ outbox_of a.node q) → b.lanes ≡ a.lanes → WentBy k None a b
  went_still a b n box lanes =
      still a b None n (outs_alone a b (λ q. ap (told_frames done) (box q)) (λ i. (lanes i).outs.items)) (ins_alone a b (λ i. (lanes i).ins.items))

  pub went_itself : (a b : Worker O I) → b.node ≡ a.node → b.lanes ≡ a.lanes → WentBy k None a b
  went_itself a b node lanes =
      went_still a b (subst (λ (n : Node). Quiet a.node n) (sym node) (quiet_itself a.node)) (λ q. ap (λ (n : Node). outbox_of n q) node) lanes

  -- a pop that gave nothing
  pub went_vain : (a b : Worker O I) (from : ℕ) (i j : I) → b.node ≡ a.node → b.lanes.outs.items ≡ a.lanes.outs.items
      → in_of a from ≡ Some i → b.lanes.ins.items ≡ set a.lanes.ins.items from j → InDid k i j [] → from < parties_of a.node → clock_of a.node < clock_end → WentBy k None a b
  went_vain a b from i j node outs at put did within before =
      still a b None (subst (λ (n : Node). Quiet a.node n) (sym node) (quiet_itself a.node))
      (outs_alone a b (λ q. ap (λ (n : Node). told_frames done (outbox_of n q)) node) outs)
      (ins_put a b from i j (λ q. []) at put did (λ q h. refl) within before)

  -- a frame that was popped and refused
  pub went_lost : (a b : Worker O I) (from : ℕ) (f : FrameAt Place) (i j : I) → Quiet a.node b.node → ((q : ℕ) → outbox_of b.node q ≡ outbox_of a.node q) → b.lanes.outs.items ≡ a.lanes.outs.items
      → in_of a from ≡ Some i → b.lanes.ins.items ≡ set a.lanes.ins.items from j → InDid k i j (f ∷ []) → from < parties_of a.node → clock_of a.node < clock_end
      → WentBy k (Some (record { party = from; frame = f })) a b
  went_lost a b from f i j n box outs at put did within before =
      let own : lost_from (Some (record { party = from; frame = f })) from ≡ f ∷ [] = if_same from (f ∷ []) [] in
      still a b (Some (record { party = from; frame = f })) n (outs_alone a b (λ q. ap (told_frames done) (box q)) outs)
      (ins_put a b from i j (lost_from (Some (record { party = from; frame = f }))) at put (subst (λ (l : List (FrameAt Place)). InDid k i j l) (sym own) did) (λ q h. if_other q from (f ∷ []) [] h) within before)

  -- pushes to one party
  pushes : (a b : Worker O I) (to : ℕ) (o p : O) (now : List (FrameAt Place)) → Quiet a.node b.node → out_of a to ≡ Some o → b.lanes.outs.items ≡ set a.lanes.outs.items to p
      → b.lanes.ins.items ≡ a.lanes.ins.items → OutDid k o p now → now ++ box_of b to ≡ box_of a to → ((q : ℕ) → (q ≡ to → ⊥) → box_of b q ≡ box_of a q) → WentBy k None a b
  pushes a b to o p now n at put ins did own others = still a b None n (outs_put a b to o p now at put did own others) (ins_alone a b ins)

  -- a frame that was taken out of its outbox and pushed
  pub went_out : (a b : Worker O I) (to : ℕ) (f : Frame) (o p : O) → TakesOut a.node b.node → waiting_in (outs_of a.node) to ≡ frame_at f ∷ waiting_in (outs_of b.node) to
      → ((q : ℕ) → (q ≡ to → ⊥) → waiting_in (outs_of b.node) q ≡ waiting_in (outs_of a.node) q) → out_of a to ≡ Some o → b.lanes.outs.items ≡ set a.lanes.outs.items to p
      → b.lanes.ins.items ≡ a.lanes.ins.items → OutDid k o p (told_frame f ∷ []) → WentBy k None a b
  went_out a b to f o p out front others at put ins did =
      pushes a b to o p (told_frame f ∷ []) (out_quiet a.node b.node out) at put ins did
      (ap (λ fs. told_frame f ∷ fs) (box_waits b.node to) ∙ ap (map (frame_with (λ s. done))) (sym front) ∙ sym (box_waits a.node to))
      (λ q h. box_waits b.node q ∙ ap (map (frame_with (λ s. done))) (others q h) ∙ sym (box_waits a.node q))

  -- a frame that came back into its outbox
  pub went_back : (a b : Worker O I) (m : Node) (to : ℕ) (f : Frame) (o p : O) → TakesOut a.node m → TakesOut m b.node → waiting_in (outs_of a.node) to ≡ frame_at f ∷ waiting_in (outs_of m) to
      → ((q : ℕ) → (q ≡ to → ⊥) → waiting_in (outs_of m) q ≡ waiting_in (outs_of a.node) q) → waiting_in (outs_of b.node) to ≡ frame_at f ∷ waiting_in (outs_of m) to
      → ((q : ℕ) → (q ≡ to → ⊥) → waiting_in (outs_of b.node) q ≡ waiting_in (outs_of m) q) → out_of a to ≡ Some o → b.lanes.outs.items ≡ set a.lanes.outs.items to p
      → b.lanes.ins.items ≡ a.lanes.ins.items → OutDid k o p [] → WentBy k None a b
  went_back a b m to f o p out back front others own again at put ins did =
      pushes a b to o p [] (quiet_later a.node m b.node (out_quiet a.node m out) (out_quiet m b.node back)) at put ins did
      (box_waits b.node to ∙ ap (map (frame_with (λ s. done))) (own ∙ sym front) ∙ sym (box_waits a.node to))
      (λ q h. box_waits b.node q ∙ ap (map (frame_with (λ s. done))) (again q h ∙ others q h) ∙ sym (box_waits a.node q))

  -- work after work
  pub went_later : (a b c : Worker O I) (lost : Option (LostAt Place)) → WentBy k None a b → WentBy k lost b c → WentBy k lost a c
  went_later a b c lost x y = record {
    work = lane_work_later k.outward.pushed k.outward.same k.inward.popped k.inward.same k.out_itself k.out_later k.in_itself k.in_later (play_here a.node) max done (party_of a.node) (laned a) (laned b) (laned c) lost x.work
        (subst (λ (t : Play Place Program × ℕ). LaneWork k.outward.pushed k.outward.same k.inward.popped k.inward.same t.0 max done t.1 (laned b) (laned c) lost) (λ i. (x.play i, x.party i)) y.work);
    play = y.play ∙ x.play;
    party = y.party ∙ x.party;
    parties = y.parties ∙ x.parties;
    table = y.table ∙ x.table;
    connects = y.connects ∙ x.connects;
    clock = stands_more _ _ _ x.clock y.clock;
    faults_out = λ q. on_later k.outward.faults Stands Stands Stands stands_more (out_of a q) (out_of b q) (out_of c q) (x.faults_out q) (y.faults_out q);
    vain_out = λ q. on_later k.outward.vain Stood Stood Stood stood_more (out_of a q) (out_of b q) (out_of c q) (x.vain_out q) (y.vain_out q);
    faults_in = λ q. on_later k.inward.faults Stands Stands Stands stands_more (in_of a q) (in_of b q) (in_of c q) (x.faults_in q) (y.faults_in q);
    vain_in = λ q. on_later k.inward.vain Stood Stood Stood stood_more (in_of a q) (in_of b q) (in_of c q) (x.vain_in q) (y.vain_in q);
    beyond = λ q past. y.beyond q (subst (λ (n : ℕ). n ≤ q) (sym x.parties) past) ∙ x.beyond q past;
    at_end = λ over q. y.at_end (stands_more clock_end (clock_of a.node) (clock_of b.node) over x.clock) q ∙ x.at_end over q;
  }

  -- what touches neither node nor lanes
  pub went_again : (a b : Worker O I) (lost : Option (LostAt Place)) (answer : Option Outcome) (looks : ℕ) → WentBy k lost a b → WentBy k lost a (record b { answer = answer; looks = looks })
  went_again a b lost answer looks x = record {
    work = x.work;
    play = x.play;
    party = x.party;
    parties = x.parties;
    table = x.table;
    connects = x.connects;
    clock = x.clock;
    faults_out = x.faults_out;
    vain_out = x.vain_out;
    faults_in = x.faults_in;
    vain_in = x.vain_in;
    beyond = x.beyond;
    at_end = x.at_end;
  }
