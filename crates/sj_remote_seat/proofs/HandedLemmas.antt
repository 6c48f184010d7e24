-- What a party that code plays hands in.
use Rattle.std.proofs.Common.{◌≡◌, ◌∙◌, ◌<◌, ℕ, ◌+◌, List, [], ◌∷◌, ◌++◌, Option, Some, None, ap, append-nil, get_or, length, map, refl, subst, sym}
use Rattle.std.specs.Prelude.{slice_get}
use Rattle.std.proofs.lemmas.List.{length-map}
use Rattle.sj_end.specs.declared.note.Entry.{Entry}
use Rattle.sj_engine.specs.Lanes.{pushed_on}
use Rattle.sj_engine.specs.Rounds.{GoesHome}
use Rattle.sj_engine.specs.declared.in_lane.ByteIn.{ByteIn}
use Rattle.sj_engine.specs.declared.out_lane.ByteOut.{ByteOut}
use Rattle.sj_lane.specs.declared.lane.Lanes.{Lanes}
use Rattle.sj_lang.specs.FileAt.{FileAt}
use Rattle.sj_lang.specs.Place.{Place, done}
use Rattle.sj_node.specs.Reading.{TakesEntry, TakesOut, parties_of, party_of}
use Rattle.sj_node.specs.declared.node.Node.{Node}
use Rattle.sj_remote_run.proofs.PostLemmas.{clear_none, frames_at, has_entry, lane_frames, waits_entry}
use Rattle.sj_remote_run.specs.Posts.{AreFrames, GoesOut, HandsOver, HasNone, IsOut, Posts, frames_on, has_for, waits_for}
use Rattle.sj_remote_run.specs.Turns.{added_count, batch_text, next_seen}
use Rattle.sj_resp.specs.Spelling.{command_text}
use Rattle.sj_rules.specs.Frames.{FrameAt}
use Rattle.sj_rules.specs.NodeRun.{StepAt, posted_to}
use Rattle.sj_seat.specs.Views.{node_of, worker_of}
use Rattle.sj_seat.specs.declared.guest.Guest.{Guest}
use Rattle.sj_streams.specs.Commands.{read_words}
use Rattle.sj_work.specs.Counts.{OnLane, Stands}
use Rattle.sj_work.specs.Laned.{entries_of}
use Rattle.sj_work.specs.Views as works
use Rattle.sj_work.specs.declared.worker.Worker.{Worker}
use Rattle.sj_remote_seat.specs.Turns.{AreHanded, IsClear, IsLeft, IsSame, Still, has_of, outs_of}

module _ (ks ls : List (List ℕ)) (seen : List ℕ) (f h : FileAt) (p q : ℕ) (ns ms : List Entry) (xs ys : List (List (FrameAt Place))) where
  -- the same batch
  pub batch_same : ks ≡ ls → f ≡ h → p ≡ q → ns ≡ ms → xs ≡ ys → batch_text ks seen f p ns xs ≡ batch_text ls seen h q ms ys
  batch_same a b c d e = λ i. batch_text (a i) seen (b i) (c i) (d i) (e i)

  -- and the same read after it
  pub turn_same : (block : Option ℕ) → ks ≡ ls → f ≡ h → p ≡ q → ns ≡ ms → xs ≡ ys
      → batch_text ks seen f p ns xs ++ command_text (read_words 512 block ks (next_seen p ns seen)) ≡ batch_text ls seen h q ms ys ++ command_text (read_words 512 block ls (next_seen q ms seen))
  turn_same block a b c d e = λ i. batch_text (a i) seen (b i) (c i) (d i) (e i) ++ command_text (read_words 512 block (a i) (next_seen (c i) (d i) seen))

-- the same number
pub number_same : (new old : List ℕ) (p q : ℕ) (ns ms : List Entry) → p ≡ q → ns ≡ ms → get_or new p 0 ≡ get_or old p 0 + added_count ns → get_or new q 0 ≡ get_or old q 0 + added_count ms
number_same new old p q ns ms a b is = subst (λ (x : ℕ). get_or new x 0 ≡ get_or old x 0 + added_count ms) a (subst (λ (x : List Entry). get_or new p 0 ≡ get_or old p 0 + added_count x) b is)

-- what a worker has for another party
abbrev pub has_in : Worker ByteOut ByteIn → ℕ → List (FrameAt Place)
has_in w q = has_for (works.lanes_of w).outs.items (works.node_of w) q

-- what the party sent to itself is carried home: what it has for others stays
home_in : (w v : Worker ByteOut ByteIn) → GoesHome w v → (q : ℕ) → (q ≡ party_of (works.node_of w) → ⊥) → has_in v q ≡ has_in w q
home_in w v h q other =
    let os : List ByteOut = (works.lanes_of w).outs.items in
    let ps : List ByteOut = (works.lanes_of v).outs.items in
    let lanes : frames_on ps q ≡ frames_on os q = frames_at ps q ∙ ap lane_frames (h.lanes.outs q other) ∙ sym (frames_at os q) in
    λ i. lanes i ++ waits_for (h.node i) q

still_bare : (faults : ByteOut → ℕ) (os ps : List ByteOut) (q : ℕ) → os ≡ [] → OnLane faults Stands (slice_get os q) (slice_get ps q) → frames_on ps q ≡ []
still_bare faults os ps q bare on = frames_at ps q ∙ ap lane_frames (no_lane (slice_get ps q) (subst (λ (l : List ByteOut). OnLane faults Stands (slice_get l q) (slice_get ps q)) bare on))
  where
    no_lane : (p : Option ByteOut) → OnLane faults Stands None p → p ≡ None
    no_lane None on = refl
    no_lane (Some p) on = absurd on

no_steps : (ss : List (StepAt Place)) → [] ≡ map (λ s. s.entry) ss → ss ≡ []
no_steps [] none = refl
no_steps (s ∷ ss) none = absurd cc

module _ {G : Type 0} where
  pub home_has : (a b : Guest ByteOut ByteIn G) (w v : Worker ByteOut ByteIn) → w ≡ worker_of a → worker_of b ≡ v → GoesHome w v → (q : ℕ) → (q ≡ party_of (node_of a) → ⊥) → has_of b q ≡ has_of a q
  home_has a b w v from to h q other =
      ap (λ (x : Worker ByteOut ByteIn). has_in x q) to ∙ home_in w v h q (λ is. other (is ∙ ap (λ (x : Worker ByteOut ByteIn). party_of (works.node_of x)) from))
      ∙ ap (λ (x : Worker ByteOut ByteIn). has_in x q) from

  -- a party that was put together with lanes that are clear
  pub clear_put : (b : Guest ByteOut ByteIn G) (ps : List ByteOut) (k : Node) → outs_of b ≡ ps → node_of b ≡ k → HasNone ps k → IsClear b
  clear_put b ps k outs node none = subst (λ (l : List ByteOut). HasNone l (node_of b)) (sym outs) (subst (λ (n : Node). HasNone ps n) (sym node) none)

  -- a party that has no lanes meanwhile
  pub bare_before : (a b : Guest ByteOut ByteIn G) (w : Worker ByteOut ByteIn) (l : Lanes ByteOut ByteIn) (m : Node) → outs_of b ≡ [] → node_of b ≡ m → w ≡ worker_of a → l ≡ works.lanes_of w → TakesEntry (works.node_of w) m
      → (q : ℕ) → frames_on l.outs.items q ++ has_of b q ≡ has_of a q
  bare_before a b w l m bare node from lanes taken q =
      (λ i. frames_on l.outs.items q ++ has_for (bare i) (node i) q) ∙ has_entry l.outs.items (works.node_of w) m taken q
      ∙ ap (λ (x : Lanes ByteOut ByteIn). has_for x.outs.items (works.node_of w) q) lanes ∙ ap (λ (v : Worker ByteOut ByteIn). has_in v q) from

  pub bare_after : (b d z : Guest ByteOut ByteIn G) (w v : Worker ByteOut ByteIn) (lanes later : List ByteOut) (m k : Node) (faults : ByteOut → ℕ) → outs_of b ≡ []
      → ((q : ℕ) → OnLane faults Stands (works.out_of (worker_of b) q) (works.out_of (worker_of d) q)) → w ≡ worker_of d → TakesEntry (works.node_of w) m → GoesOut lanes m later k
      → worker_of z ≡ v → works.node_of v ≡ k → (works.lanes_of v).outs.items ≡ later → (q : ℕ) → (q ≡ party_of (node_of d) → ⊥) → has_of z q ≡ frames_on lanes q ++ has_of d q
  bare_after b d z w v lanes later m k faults bare counts from taken out to node lanes_are q other =
      ap (λ (x : Worker ByteOut ByteIn). has_in x q) to ∙ (λ i. has_for (lanes_are i) (node i) q)
      ∙ out.same q (λ is. other (is ∙ taken.party ∙ ap (λ (x : Worker ByteOut ByteIn). party_of (works.node_of x)) from))
      ∙ ap (λ (t : List (FrameAt Place)). frames_on lanes q ++ t)
      (waits_entry (works.node_of w) m taken q ∙ ap (λ (x : Worker ByteOut ByteIn). waits_for (works.node_of x) q) from
      ∙ ap (λ (t : List (FrameAt Place)). t ++ waits_for (node_of d) q) (sym (still_bare faults (outs_of b) (outs_of d) q bare (counts q))))

  -- what a party that had nothing for the others has for them then are the frames that its steps post
  pub are_handed : (a s : Guest ByteOut ByteIn G) (file : FileAt) (steps : List (StepAt Place)) (frames : List (List (FrameAt Place))) → length file.parties ≡ parties_of (node_of a) → IsSame a s → IsClear a
      → Posts (party_of (node_of a)) steps (has_of a) (has_of s) → AreHanded s frames → AreFrames (length file.parties) (party_of (node_of a)) steps frames
  are_handed a s file steps frames parties same clear posts handed = record {
    count = handed.count ∙ same.parties ∙ sym parties;
    each = λ q less other.
        handed.each q (subst (λ (n : ℕ). q < n) (parties ∙ sym same.parties) less) (λ is. other (is ∙ same.party)) ∙ posts q other
        ∙ ap (λ (l : List (FrameAt Place)). l ++ posted_to done q steps) (clear q (subst (λ (n : ℕ). q < n) parties less) other);
  }

  -- all that a party has for others, where it was taken apart and its frames went to lanes
  pub has_out : (g : Guest ByteOut ByteIn G) (l : Lanes ByteOut ByteIn) (w : Worker ByteOut ByteIn) (m k : Node) (later : List ByteOut) → w ≡ worker_of g → l ≡ works.lanes_of w → TakesEntry (works.node_of w) m
      → GoesOut l.outs.items m later k → (q : ℕ) → (q ≡ party_of (node_of g) → ⊥) → has_for later k q ≡ has_of g q
  has_out g l w m k later from lanes taken out q other =
      out.same q (λ is. other (is ∙ taken.party ∙ ap (λ (v : Worker ByteOut ByteIn). party_of (works.node_of v)) from))
      ∙ has_entry l.outs.items (works.node_of w) m taken q ∙ ap (λ (x : Lanes ByteOut ByteIn). has_for x.outs.items (works.node_of w) q) lanes
      ∙ ap (λ (v : Worker ByteOut ByteIn). has_for (works.lanes_of v).outs.items (works.node_of v) q) from

  pub handed_out : (g : Guest ByteOut ByteIn G) (l : Lanes ByteOut ByteIn) (w : Worker ByteOut ByteIn) (m k : Node) (later : List ByteOut) → w ≡ worker_of g → l ≡ works.lanes_of w → TakesEntry (works.node_of w) m
      → TakesOut m k → GoesOut l.outs.items m later k → AreHanded g (map pushed_on later)
  handed_out g l w m k later from lanes taken goes out =
      let parties : parties_of k ≡ parties_of (node_of g) = goes.parties ∙ taken.parties ∙ ap (λ (v : Worker ByteOut ByteIn). parties_of (works.node_of v)) from in
      record {
        count = length-map later pushed_on ∙ out.out.lanes ∙ parties;
        each = λ q less other.
            sym (append-nil (frames_on later q)) ∙ ap (λ (t : List (FrameAt Place)). frames_on later q ++ t) (sym (out.out.none q (subst (λ (n : ℕ). q < n) (sym parties) less)))
            ∙ has_out g l w m k later from lanes taken out q other;
      }

  -- what is left once something was handed over
  pub left_by : (noted : List Entry) (g new : Guest ByteOut ByteIn G) (later last : List ByteOut) (k : Node) → HandsOver noted later last → outs_of new ≡ last → node_of new ≡ k → parties_of k ≡ parties_of (node_of g) → IsOut later k
      → ((q : ℕ) → (q ≡ party_of (node_of g) → ⊥) → has_for later k q ≡ has_of g q) → IsLeft noted g new
  left_by [] g new later last k hands outs node parties out has = λ q less other.
      (λ i. has_for (outs i) (node i) q) ∙ ap (λ (l : List ByteOut). has_for l k q) hands ∙ has q other
  left_by (e ∷ es) g new later last k hands outs node parties out has =
      subst (λ (l : List ByteOut). HasNone l (node_of new)) (sym outs) (subst (λ (n : Node). HasNone last n) (sym node) (clear_none last k hands out.none))

  -- after a turn that was handed over nothing is left
  pub left_clear : (noted : List Entry) (mid next new : Guest ByteOut ByteIn G) (steps : List (StepAt Place)) → entries_of noted ≡ map (λ s. s.entry) steps → IsClear mid → IsSame mid next
      → Posts (party_of (node_of mid)) steps (has_of mid) (has_of next) → Still next new → IsLeft noted next new → IsClear new
  left_clear [] mid next new steps notes clear same posts still left = λ q less other.
      let parties : parties_of (node_of new) ≡ parties_of (node_of next) = still.nodes.parties in
      let apart : q ≡ party_of (node_of next) → ⊥ = λ is. other (is ∙ sym still.nodes.party) in
      let away : q ≡ party_of (node_of mid) → ⊥ = λ is. apart (is ∙ sym same.party) in
      left q (subst (λ (n : ℕ). q < n) parties less) apart ∙ posts q away ∙ ap (λ (ss : List (StepAt Place)). has_of mid q ++ posted_to done q ss) (no_steps steps notes)
      ∙ append-nil (has_of mid q) ∙ clear q (subst (λ (n : ℕ). q < n) (parties ∙ same.parties) less) away
  left_clear (e ∷ es) mid next new steps notes clear same posts still left = left
