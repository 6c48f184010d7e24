-- Over links that report, where no worker lost a frame. The workers' own nodes, with what waits on
-- the links before their outboxes, are the core world to which the joined logs lead.
use Rattle.std.proofs.Common.{◌≡◌, ◌∙◌, ℕ, ◌<◌, ◌≤◌, max, true, List, [], ◌∷◌, ◌++◌, map, length, Option, Some, None, refl, sym, ap, subst, arith}
use Rattle.std.specs.Prelude.{slice_get}
use Rattle.std.specs.List.{AllByRecursion}
use Rattle.std.proofs.lemmas.List.{length-map, map-append}
use Rattle.sj_lang.specs.Place.{Place, done}
use Rattle.sj_lang.specs.FileAt.{FileAt}
use Rattle.sj_acceptance.specs.Accepted.{IsAccepted}
use Rattle.sj_plain.specs.SharedFile.{without_words}
use Rattle.sj_semantics.specs.Program.{Program}
use Rattle.sj_table.specs.Spots.{place_in}
use Rattle.sj_end.specs.declared.frames.Frame.{Frame}
use Rattle.sj_end.specs.Views.{frame_at}
use Rattle.sj_rules.specs.Frames.{FrameAt, IsNoGive}
use Rattle.sj_rules.specs.History.{IsHistory, IsLog}
use Rattle.sj_rules.specs.Log.{IsJoined, LineAt, logs_below}
use Rattle.sj_rules.specs.Mapped.{body_with, frame_with}
use Rattle.sj_rules.specs.NodeRun.{told_frames}
use Rattle.sj_rules.specs.Party.{play_of}
use Rattle.sj_rules.specs.Record.{BodyAt, Carry, Fin, Claim, Signal, Ack, Give, Open}
use Rattle.sj_rules.specs.Start.{core_start, first_node}
use Rattle.sj_rules.specs.Work.{LanedAt, lost_from}
use Rattle.sj_rules.specs.World.{WorldAt}
use Rattle.sj_joined_lemmas.specs.Whole.{IsBetween, IsLeft}
use Rattle.sj_joined_lemmas.proofs.WholeLemmas.{is_whole}
use Rattle.sj_joined_lemmas.proofs.WorkLemmas.{list_of, told_by}
use Rattle.sj_lane.specs.declared.lane.OutLane.{Ghosts as OutLane}
use Rattle.sj_lane.specs.declared.lane.InLane.{Ghosts as InLane}
use Rattle.sj_lane.specs.Square.{KeepsLists, in_in, out_in}
use Rattle.sj_lane.specs.Told.{told_frame, told_list}
use Rattle.sj_lane.proofs.BackLemmas.{slice_get_some as there_is}
use Rattle.sj_node.specs.declared.node.Node.{Node}
use Rattle.sj_node.specs.Gives.{HasNoGive}
use Rattle.sj_node.specs.Node.{log_of, outbox_of}
use Rattle.sj_node.specs.Outs.{waiting_in}
use Rattle.sj_node.specs.Reading.{TakesEntry, outs_of, table_of}
use Rattle.sj_core.specs.Nodes.{AreSeated, box_or, node_or, world_by}
use Rattle.sj_core.proofs.FirstLemmas.{core_start_same, first_same}
use Rattle.sj_work.specs.declared.worker.Stop.TheVariants as stops
use Rattle.sj_work.specs.declared.worker.Worker.{Worker}
use Rattle.sj_work.specs.Laned.{laned}
use Rattle.sj_work.specs.Views.{in_of, lanes_of, node_of, out_of}
use Rattle.sj_work.proofs.LaneLemmas.{told_all_with}
use Rattle.sj_run.specs.Handed.{AreHandedIn, AreLogless, AreOver, IsHandedIn}
use Rattle.sj_run.specs.Shown.{LinksAt}
use Rattle.sj_run.specs.Workers.{AllWorked, NoneStopped, logs_in}
use Rattle.sj_run.proofs.JoinLemmas.{core, lost_none, team, works}
use Rattle.sj_run.proofs.RunLemmas.{joins_below, told_history}
use Rattle.sj_run.proofs.TeamLemmas.{losts, mapped_at, new_or, news, none_there, team_play, turned}

-- a frame with another place still is no Give
plain_body : {P R : Type 0} (f : P → R) (b : BodyAt P) → IsNoGive b → IsNoGive (body_with f b)
plain_body f (Carry to conn number taken msg) plain = tt
plain_body f (Fin to conn number) plain = tt
plain_body f (Claim of) plain = tt
plain_body f (Signal to conn party taken) plain = tt
plain_body f (Ack of conn) plain = tt
plain_body f (Give e resend) plain = absurd plain
plain_body f (Open sess) plain = tt

plain_all : {P R : Type 0} (f : P → R) (xs : List (FrameAt P)) → HasNoGive xs → AllByRecursion (λ x. IsNoGive x.body) (map (frame_with f) xs)
plain_all f [] plain = tt
plain_all f (x ∷ xs) plain = (plain_body f x.body plain.0, plain_all f xs plain.1)

-- frames as lanes report them
told_each : (frames : List Frame) → map (frame_with (λ s. done)) (map frame_at frames) ≡ told_list frames
told_each [] = refl
told_each (f ∷ frames) = ap (λ fs. told_frame f ∷ fs) (told_each frames)

-- an outbox as lanes report it
box_told : (m : Node) (q : ℕ) → told_frames done (outbox_of m q) ≡ map (frame_with (λ s. done)) (waiting_in (outs_of m) q)
box_told m q = told_all_with (place_in (table_of m)) (waiting_in (outs_of m) q)

module _ {O I : Type 0} (outward : OutLane O) (inward : InLane I) (joined : O → I → Type 0) (file : FileAt) (accepted : IsAccepted file)
    (looks : ℕ) (workers : List (Worker O I)) (all : AllWorked outward inward joined file looks true workers) (links : LinksAt)
    (keeps : KeepsLists outward.pushed inward.popped outward.vain inward.vain (map lanes_of workers) links.sent links.got links.vain_out links.vain_in)
    (lines : List LineAt) (joins : IsJoined (logs_in workers) lines)
    (remembers : NoneStopped workers stops.NoMemory) (faultless : NoneStopped workers stops.Fault) (over : AreOver file workers)
    (bare after : List Node) (logless : AreLogless workers bare) (handed : AreHandedIn outward.pushed inward.popped (map lanes_of workers) bare after) where
  abbrev n : ℕ
  n = length file.parties

  abbrev new : ℕ → LanedAt Place Program O I
  new = news outward inward joined file looks true workers all

  abbrev party : ℕ → Rattle.sj_rules.specs.Joined.WorkerAt Place Program
  party = team outward inward joined file accepted looks workers all links keeps

  abbrev lost : ℕ → ℕ → List (FrameAt Place)
  lost p = lost_from (losts outward inward joined file looks true workers all p)

  abbrev below : IsJoined (logs_below (λ p. (party p).log) (length file.parties)) lines
  below = joins_below outward inward joined file accepted looks workers all links keeps lines joins

  abbrev v : WorldAt Place Program
  v = world_by (without_words file) after

  -- of which worker a node comes
  record From (p : ℕ) (m : Node) : Type 0 where
    worker : Worker O I
    there : slice_get workers p ≡ Some worker
    mid : Node
    taken : TakesEntry (node_of worker) mid
    empty : log_of mid ≡ []
    hands : IsHandedIn outward.pushed inward.popped (map lanes_of workers) p mid m

  from : (p : ℕ) (m : Node) → slice_get after p ≡ Some m → From p m
  from p m is =
      let h = handed.each p m is in
      let w = logless.each p h.0 h.1 in
      record { worker = w.0; there = w.1; mid = h.0; taken = w.2; empty = w.3; hands = h.2 }

  node_there : (p : ℕ) → p < n → (m : Node) × (slice_get after p ≡ Some m)
  node_there p lt = there_is after p (omega (arith, lt, handed.count, logless.count, all.count))

  worker_there : (p : ℕ) → p < n → (w : Worker O I) × (slice_get workers p ≡ Some w)
  worker_there p lt = there_is workers p (omega (arith, lt, all.count))

  none_after : (p : ℕ) → n ≤ p → slice_get after p ≡ None
  none_after p le = none_there after p (omega (arith, le, handed.count, logless.count, all.count))

  many : length (map lanes_of workers) ≡ n
  many = length-map workers lanes_of ∙ all.count

  new_is : (p : ℕ) (w : Worker O I) → slice_get workers p ≡ Some w → new p ≡ laned w
  new_is p w there = ap (λ (o : Option (Worker O I)). new_or outward inward joined file looks true workers all p o) there

  lanes_at : (p : ℕ) (w : Worker O I) → slice_get workers p ≡ Some w → slice_get (map lanes_of workers) p ≡ Some (lanes_of w)
  lanes_at p w there = mapped_at lanes_of workers p w there

  -- what a party's worker pushed, and what it popped
  pushed_is : (p q : ℕ) (w : Worker O I) → slice_get workers p ≡ Some w → (party p).pushed q ≡ told_by outward.pushed (out_of w q)
  pushed_is p q w there = ap (λ (l : LanedAt Place Program O I). told_by outward.pushed (l.outs q)) (new_is p w there)

  popped_is : (p q : ℕ) (w : Worker O I) → slice_get workers q ≡ Some w → (party q).popped p ≡ told_by inward.popped (in_of w p)
  popped_is p q w there = ap (λ (l : LanedAt Place Program O I). told_by inward.popped (l.ins p)) (new_is q w there)

  box_is : (p q : ℕ) (w : Worker O I) → slice_get workers p ≡ Some w → (party p).box q ≡ map (frame_with (λ s. done)) (waiting_in (outs_of (node_of w)) q)
  box_is p q w there = ap (λ (l : LanedAt Place Program O I). l.box q) (new_is p w there) ∙ box_told (node_of w) q

  -- a lane of the world
  lane_is : (p q : ℕ) (m : Node) → slice_get after p ≡ Some m → told_frames done (v.lanes p q) ≡ map (frame_with (λ s. done)) (waiting_in (outs_of m) q)
  lane_is p q m is = ap (λ (o : Option Node). told_frames done (box_or o q)) is ∙ box_told m q

  between : (p q : ℕ) → p < n → q < n → IsBetween done party v p q
  between p q lt mt =
      let m = node_there p lt in
      let f = from p m.0 m.1 in
      let t = f.hands.taken q (omega (arith, mt, many)) in
      let u = worker_there q mt in
      let out : out_of f.worker q ≡ Some t.rest.out = sym (ap (λ l. out_in l q) (lanes_at p f.worker f.there)) ∙ t.rest.there in
      let into : in_of u.0 p ≡ Some t.rest.into = sym (ap (λ l. in_in l p) (lanes_at q u.0 u.1)) ∙ t.rest.here in
      let got : (party q).popped p ≡ t.rest.got = popped_is p q u.0 u.1 ∙ ap (told_by inward.popped) into ∙ ap list_of t.rest.popped_is in
      let sent : (party p).pushed q ≡ t.rest.got ++ told_list t.frames = pushed_is p q f.worker f.there ∙ ap (told_by outward.pushed) out ∙ ap list_of t.rest.pushed_is in
      let tail : map (frame_with (λ s. done)) (waiting_in (outs_of f.mid) q) ≡ (party p).box q =
      ap (λ outs. map (frame_with (λ s. done)) (waiting_in outs q)) f.taken.outs ∙ sym (box_is p q f.worker f.there) in
      record {
        rest = told_list t.frames;
        pushed = sent ∙ ap (λ xs. xs ++ told_list t.frames) (sym got);
        lane =
            lane_is p q m.0 m.1
            ∙ ap (map (frame_with (λ s. done))) t.waits
            ∙ map-append (frame_with (λ s. done)) (map frame_at t.frames) (waiting_in (outs_of f.mid) q)
            ∙ ap (λ xs. xs ++ map (frame_with (λ s. done)) (waiting_in (outs_of f.mid) q)) (told_each t.frames)
            ∙ ap (λ xs. told_list t.frames ++ xs) tail;
      }

  beyond : (p q : ℕ) → p < n → n ≤ q → told_frames done (v.lanes p q) ≡ (party p).pushed q ++ (party p).box q
  beyond p q lt le =
      let m = node_there p lt in
      let f = from p m.0 m.1 in
      let sq = all.square p (lanes_of f.worker) (lanes_at p f.worker f.there) in
      let none : out_of f.worker q ≡ None = none_there (lanes_of f.worker).outs.items q (omega (arith, le, sq.0, many, (lanes_of f.worker).outs.ok)) in
      let sent : (party p).pushed q ≡ [] = pushed_is p q f.worker f.there ∙ ap (told_by outward.pushed) none in
      lane_is p q m.0 m.1
      ∙ ap (map (frame_with (λ s. done))) (f.hands.beyond q (omega (arith, le, many)))
      ∙ ap (λ outs. map (frame_with (λ s. done)) (waiting_in outs q)) f.taken.outs
      ∙ sym (box_is p q f.worker f.there)
      ∙ ap (λ xs. xs ++ (party p).box q) (sym sent)

  node_same : (p : ℕ) → p < n → v.nodes p ≡ (party p).node
  node_same p lt =
      let m = node_there p lt in
      let f = from p m.0 m.1 in
      ap (λ (o : Option Node). node_or (first_node (without_words file) p) o) m.1
      ∙ f.hands.same.node
      ∙ f.taken.node
      ∙ sym (ap (λ (l : LanedAt Place Program O I). l.node) (new_is p f.worker f.there))

  no_give : (p q : ℕ) → p < n → AllByRecursion (λ f. IsNoGive f.body) (v.lanes p q)
  no_give p q lt =
      let m = node_there p lt in
      let f = from p m.0 m.1 in
      subst (λ (o : Option Node). AllByRecursion (λ x. IsNoGive x.body) (box_or o q)) (sym m.1)
      (plain_all (place_in (table_of m.0)) (waiting_in (outs_of m.0) q) (f.hands.plain q))

  is_left : IsLeft done n (core_start file) party lost v
  is_left = record {
    none = λ p q lt mt. lost_none outward inward joined file accepted looks workers all links keeps lines below remembers faultless q (slice_get workers q) refl p;
    nodes = node_same;
    others = λ p le. ap (λ (o : Option Node). node_or (first_node (without_words file) p) o) (none_after p le) ∙ first_same file p;
    between = between;
    beyond = beyond;
    empty = λ p q le. ap (λ (o : Option Node). box_or o q) (none_after p le);
    no_give = no_give;
  }

  core_is : core outward inward joined file accepted looks workers all links keeps lines below ≡ v
  core_is =
      is_whole (team_play outward inward joined file looks true workers all) max done n (core_start file) party lost
      (works outward inward joined file accepted looks workers all links keeps) lines below v is_left

  -- the lines lead to that world
  pub left_history : IsHistory max file lines v
  left_history = subst (λ (w : WorldAt Place Program). IsHistory max file lines w) core_is (told_history outward inward joined file accepted looks workers all links keeps lines joins)

  -- without words too
  pub kept_history : IsHistory max (without_words file) lines v
  kept_history = subst (λ (s : WorldAt Place Program). IsLog (play_of file) max s lines v) (sym (core_start_same file)) left_history

  -- of which these are the nodes
  pub are_seated : AreSeated (without_words file) after
  are_seated = record {
    table = over.table;
    starts = over.starts;
    count = handed.count ∙ logless.count ∙ all.count;
    each = λ p m is.
        let f = from p m is in
        let t = turned outward inward joined file looks true workers all p f.worker f.there in
        let first = (all.each p f.worker f.there).first in
        record {
          party = f.hands.same.party ∙ f.taken.party ∙ t.went.party ∙ first.party;
          parties = f.hands.same.parties ∙ f.taken.parties ∙ t.went.parties ∙ first.parties;
          table = f.hands.same.table ∙ f.taken.table ∙ over.over p f.worker f.there;
          connects = f.hands.same.connects ∙ f.taken.connects ∙ over.connects p f.worker f.there;
          log = f.hands.same.log ∙ f.empty;
        };
  }
