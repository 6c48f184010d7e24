-- A call of a worker over bytes, as a batch.
use Rattle.std.proofs.Common.{◌≡◌, ℕ, max, List, [], ◌∷◌, ◌++◌, map, take, Option, Some, None, inl, inr, refl, sym, ap, subst, ◌∙◌, append_assoc, append-nil, arith}
use Rattle.std.specs.List.{flat_map}
use Rattle.std.proofs.lemmas.Grind.{flat_map-append}
use Rattle.std.proofs.lemmas.List.{append_cancel_left, take-append-drop}
use Rattle.sj_lang.specs.Place.{Place, done}
use Rattle.sj_rules.specs.Frames.{FrameAt}
use Rattle.sj_rules.specs.Mapped.{frame_with}
use Rattle.sj_rules.specs.NodeRun.{popped_from, posted_to}
use Rattle.sj_rules.specs.Work.{InStep, LaneWork, OutStep, LostAt, lost_from, told_more}
use Rattle.sj_table.specs.Spots.{place_in}
use Rattle.sj_table.specs.declared.table.Spot.{Spot}
use Rattle.sj_lane.specs.Told.{Rose}
use Rattle.sj_lane.specs.declared.lane.OutLane.{Ghosts as OutLane}
use Rattle.sj_lane.specs.declared.lane.InLane.{Ghosts as InLane}
use Rattle.sj_node.specs.Node.{log_of, outbox_of, play_here}
use Rattle.sj_node.specs.Reading.{parties_of, party_of}
use Rattle.sj_wire.specs.Spelling.{spelling}
use Rattle.sj_work.specs.declared.worker.Stop.{Stop}
use Rattle.sj_work.specs.declared.worker.Stop.TheVariants as stops
use Rattle.sj_work.specs.declared.worker.Worker.{Worker}
use Rattle.sj_work.specs.Causes.{Cause, Loses}
use Rattle.sj_work.specs.Counts.{OnLane, RoseBy}
use Rattle.sj_work.specs.Laned.{entries_of, laned}
use Rattle.sj_work.specs.Views.{in_of, node_of, out_of, stop_of}
use Rattle.sj_work.specs.Went.{OutVain}
use Rattle.sj_work.specs.Worked.{Turned, Worked, WorkedBy, kept_stop}
use Rattle.sj_engine.specs.Frames.{IsBroken, frames_in}
use Rattle.sj_engine.specs.Lanes.{SameIn, as_told, popped_on, pushed_on, unread}
use Rattle.sj_engine.specs.Batch.{Batch, Brings, IsAllSent, Sends, SendsAll, StopsBy, waiting}
use Rattle.sj_engine.specs.declared.in_lane.ByteIn.{ByteIn}
use Rattle.sj_engine.specs.declared.out_lane.ByteOut.{ByteOut}
use Rattle.sj_engine.proofs.FrameLemmas.{spelling_with}

some_none : {X : Type 0} (x : X) → Some x ≡ None → ⊥
some_none x e = absurd cc

some_is : {X : Type 0} {x y : X} → Some x ≡ Some y → x ≡ y
some_is e = cc

-- what lanes report is spelt as what was read
told_spelt : (fs : List (FrameAt Spot)) → flat_map spelling (as_told fs) ≡ flat_map spelling fs
told_spelt [] = refl
told_spelt (f ∷ fs) = λ i. spelling_with (λ s. done) f i ++ told_spelt fs i

-- a pop of these frames leaves the bytes after their spellings
pub brought : (i j : ByteIn) (came : List (FrameAt Place)) → SameIn i j → Some (popped_on j) ≡ told_more (Some (popped_on i)) came → unread i ≡ flat_map spelling came ++ unread j
brought i j came same told =
    let bytes = i.bytes.items in
    let lists : popped_on j ≡ popped_on i ++ came = some_is told in
    let now : take j.used j.bytes.items ≡ take i.used bytes ++ flat_map spelling came =
    j.spelt ∙ sym (told_spelt (frames_in (take j.used j.bytes.items))) ∙ ap (flat_map spelling) lists ∙ flat_map-append spelling (popped_on i) came
    ∙ ap (λ (t : List ℕ). t ++ flat_map spelling came) (told_spelt (frames_in (take i.used bytes)) ∙ sym i.spelt) in
    let all : take i.used bytes ++ unread i ≡ take i.used bytes ++ (flat_map spelling came ++ unread j) =
    ap (λ (t : List ℕ). take i.used bytes ++ t) i.left ∙ take-append-drop i.used bytes ∙ sym same.bytes ∙ sym (take-append-drop j.used j.bytes.items)
    ∙ (λ k. now k ++ sym j.left k) ∙ append_assoc (take i.used bytes) (flat_map spelling came) (unread j) in
    append_cancel_left (take i.used bytes) (unread i) (flat_map spelling came ++ unread j) all

brings : (i j : Option ByteIn) (came : List (FrameAt Place)) → InStep (λ x. Some (popped_on x)) SameIn i j came → Brings i j came
brings None None came s = s
brings None (Some j) came s = s
brings (Some i) None came s = s
brings (Some i) (Some j) came s = brought i j came s.0 s.1

-- the frames that were pushed are those that left the outbox
sends : (same : ByteOut → ByteOut → Type 0) (o p : Option ByteOut) (box left posts : List (FrameAt Place)) → OutStep (λ x. Some (pushed_on x)) same o p box left posts → Sends o p box left posts
sends same None None box left posts s = s
sends same None (Some p) box left posts s = s
sends same (Some o) None box left posts s = s
sends same (Some o) (Some p) box left posts s =
    let now = s.1.0 in
    let lists : pushed_on p ≡ pushed_on o ++ now = some_is s.1.1 in
    ap (λ (l : List (FrameAt Place)). l ++ left) lists ∙ append_assoc (pushed_on o) now left ∙ ap (λ (l : List (FrameAt Place)). pushed_on o ++ l) s.1.2

-- nothing happened
stays : (w : Worker ByteOut ByteIn) → Batch None w w
stays w = record {
  steps = [];
  run = refl;
  log = sym (append-nil (entries_of (log_of (node_of w))));
  outs = λ q. keeps (out_of w q) (waiting w q);
  ins = λ q. rests (in_of w q);
  play = refl;
  party = refl;
  parties = refl;
}
  where
    keeps : (o : Option ByteOut) (box : List (FrameAt Place)) → Sends o o box box []
    keeps None box = sym (append-nil box)
    keeps (Some o) box = ap (λ (l : List (FrameAt Place)). pushed_on o ++ l) (sym (append-nil box))

    rests : (i : Option ByteIn) → Brings i i []
    rests None = refl
    rests (Some i) = refl

-- what a call of a worker over bytes did
batch_of : (same : ByteOut → ByteOut → Type 0) (lost : Option (LostAt Place)) (old new : Worker ByteOut ByteIn)
    → LaneWork (λ x. Some (pushed_on x)) same (λ x. Some (popped_on x)) SameIn (play_here (node_of old)) max done (party_of (node_of old)) (laned old) (laned new) lost
    → play_here (node_of new) ≡ play_here (node_of old) → party_of (node_of new) ≡ party_of (node_of old) → parties_of (node_of new) ≡ parties_of (node_of old) → Batch lost old new
batch_of same lost old new work play party parties = record {
  steps = work.steps;
  run = work.run;
  log = work.log;
  outs = λ q. sends same (out_of old q) (out_of new q) (waiting old q) (waiting new q) (posted_to done q work.steps) (work.outs q);
  ins = λ q. brings (in_of old q) (in_of new q) (popped_from done q work.steps ++ lost_from lost q) (work.ins q);
  play = play;
  party = party;
  parties = parties;
}

-- a lane whose count of faults rose has no frame at the front
fault_at : (faults : ByteIn → ℕ) → ((i : ByteIn) → faults i ≡ i.faults) → (a b : ByteIn) → Rose (faults a) (faults b) → IsBroken (unread b)
fault_at faults same a b rose = let x = same b in b.broken (omega (arith, rose, x))

module _ (outward : OutLane ByteOut) (inward : InLane ByteIn) (no_faults : (o : ByteOut) → outward.faults o ≡ 0) (faults : (i : ByteIn) → inward.faults i ≡ i.faults) where
  -- the cause of a stop
  cause_of : (s : Option Stop) (lost : Option (LostAt Place)) (old new : Worker ByteOut ByteIn) → Cause outward inward s 1 lost old new → StopsBy s lost new
  cause_of None lost old new cause = tt
  cause_of (Some stops.Finished) lost old new cause = cause
  cause_of (Some stops.Idle) lost old new cause = cause.idle
  cause_of (Some stops.AtLimit) lost old new cause = cause.limit
  cause_of (Some stops.ClockEnd) lost old new cause = cause
  cause_of (Some stops.NoMemory) lost old new cause = tt
  cause_of (Some stops.Fault) lost old new (inl (q, a, b, x, y, rose)) = let none = no_faults b in absurd (omega (arith, rose, none))
  cause_of (Some stops.Fault) lost old new (inr (q, a, b, x, y, rose)) = (q, b, y, fault_at inward.faults faults a b rose)
  cause_of (Some stops.Unfit) lost old new cause = cause

  -- nothing, or turns up to a stop
  worked_by : (R : Type 0) (k : Option Stop) (old new : Worker ByteOut ByteIn) → kept_stop (stop_of old) ≡ k → WorkedBy outward inward k 1 old new
      → ((kept_stop (stop_of old) ≡ None → ⊥) → new ≡ old → R) → (Turned outward inward 1 old new → R) → R
  worked_by R (Some s) old new is w rests turns = rests (λ none. some_none s (sym is ∙ none)) w
  worked_by R None old new is w rests turns = turns w.1

  -- the lanes report what was pushed and popped
  pub worked_batch : outward.pushed ≡ (λ x. Some (pushed_on x)) → inward.popped ≡ (λ x. Some (popped_on x)) → inward.same ≡ SameIn → (old new : Worker ByteOut ByteIn) → Worked outward inward 1 old new
      → (lost : Option (LostAt Place)) × Loses lost (stop_of new) × Batch lost old new × (kept_stop (stop_of old) ≡ None → StopsBy (stop_of new) lost new)
  worked_batch pushed popped same old new w =
      worked_by ((lost : Option (LostAt Place)) × Loses lost (stop_of new) × Batch lost old new × (kept_stop (stop_of old) ≡ None → StopsBy (stop_of new) lost new)) (kept_stop (stop_of old)) old new refl w
      (λ stays_kept e. subst (λ (n : Worker ByteOut ByteIn). (lost : Option (LostAt Place)) × Loses lost (stop_of n) × Batch lost old n × (kept_stop (stop_of old) ≡ None → StopsBy (stop_of n) lost n)) (sym e)
      (None, tt, stays old, λ none. absurd (stays_kept none)))
      (λ t. (t.lost, t.loses, batch_of outward.same t.lost old new (seen t) t.went.play t.went.party t.went.parties, λ none. cause_of (stop_of new) t.lost old new t.cause))
    where
      seen : (t : Turned outward inward 1 old new) → LaneWork (λ x. Some (pushed_on x)) outward.same (λ x. Some (popped_on x)) SameIn (play_here (node_of old)) max done (party_of (node_of old)) (laned old) (laned new) t.lost
      seen t =
          subst (λ (p : ByteOut → Option (List (FrameAt Place))). LaneWork p outward.same (λ x. Some (popped_on x)) SameIn (play_here (node_of old)) max done (party_of (node_of old)) (laned old) (laned new) t.lost) pushed
          (subst (λ (p : ByteIn → Option (List (FrameAt Place))). LaneWork outward.pushed outward.same p SameIn (play_here (node_of old)) max done (party_of (node_of old)) (laned old) (laned new) t.lost) popped
          (subst (λ (s : ByteIn → ByteIn → Type 0). LaneWork outward.pushed outward.same inward.popped s (play_here (node_of old)) max done (party_of (node_of old)) (laned old) (laned new) t.lost) same t.went.work))

-- a list that isn't without elements not
empty_or : {A : Type 0} (l : List A) → ((l ≡ [] → ⊥) → ⊥) → l ≡ []
empty_or [] h = refl
empty_or (x ∷ l) h = absurd (h (λ e. absurd cc))

-- a count that never rises doesn't rise by one
never_rises : (vain : ByteOut → ℕ) → ((o : ByteOut) → vain o ≡ 0) → (a : Option ByteOut) (o : ByteOut) → OnLane vain (RoseBy 1) a (Some o) → ⊥
never_rises vain none None o h = h
never_rises vain none (Some a) o h = let x = none a in let y = none o in omega (arith, h, x, y)

all_sent : (vain : ByteOut → ℕ) → ((o : ByteOut) → vain o ≡ 0) → (old new : Worker ByteOut ByteIn) → OutVain vain 1 old new → IsAllSent new
all_sent vain none old new tried q o within is =
    empty_or (outbox_of (node_of new) q) (λ some. never_rises vain none (out_of old q) o (subst (λ (b : Option ByteOut). OnLane vain (RoseBy 1) (out_of old q) b) is (tried q within some)))

module _ (outward : OutLane ByteOut) (inward : InLane ByteIn) (none : (o : ByteOut) → outward.vain o ≡ 0) where
  -- a worker that must wait, has ended or is at a limit has tried to push all
  stopped : (result : Stop) (lost : Option (LostAt Place)) (old new : Worker ByteOut ByteIn) → Cause outward inward (Some result) 1 lost old new → SendsAll result new
  stopped stops.Finished lost old new cause = λ q o within is. ap (map (frame_with (place_in (node_of new).table))) (cause.outs q)
  stopped stops.Idle lost old new cause = all_sent outward.vain none old new cause.outs
  stopped stops.AtLimit lost old new cause = all_sent outward.vain none old new cause.outs
  stopped stops.ClockEnd lost old new cause = tt
  stopped stops.NoMemory lost old new cause = tt
  stopped stops.Fault lost old new cause = tt
  stopped stops.Unfit lost old new cause = tt

  -- a stop that stays says nothing of what waits
  kept : (result s : Stop) (new : Worker ByteOut ByteIn) → kept_stop (Some result) ≡ Some s → SendsAll result new
  kept stops.Finished s new e = absurd cc
  kept stops.Idle s new e = absurd cc
  kept stops.AtLimit s new e = absurd cc
  kept stops.ClockEnd s new e = tt
  kept stops.NoMemory s new e = tt
  kept stops.Fault s new e = tt
  kept stops.Unfit s new e = tt

  by_stop : (k : Option Stop) (result : Stop) (old new : Worker ByteOut ByteIn) → kept_stop (stop_of old) ≡ k → WorkedBy outward inward k 1 old new → stop_of new ≡ Some result → SendsAll result new
  by_stop (Some s) result old new is w stop = kept result s new (ap kept_stop (sym stop ∙ ap stop_of w) ∙ is)
  by_stop None result old new is w stop = stopped result w.1.lost old new (subst (λ (s : Option Stop). Cause outward inward s 1 w.1.lost old new) stop w.1.cause)

  pub worked_sent : (result : Stop) (old new : Worker ByteOut ByteIn) → Worked outward inward 1 old new → stop_of new ≡ Some result → SendsAll result new
  worked_sent result old new w stop = by_stop (kept_stop (stop_of old)) result old new refl w stop
