-- What a party has for the others: it goes on, it pushes, and its lanes are cleared.
use Rattle.std.proofs.Common.{◌≡◌, ◌≢◌, ◌⊎◌, inl, inr, ℕ, zero, suc, ◌+◌, ◌<◌, ◌≤◌, List, [], ◌∷◌, ◌++◌, Option, Some, None, Result, Ok, Err, Bool, true, false, map, length, get_or, take, refl, sym, ap, subst, ◌∙◌, append_assoc, append-nil, arith}
use Rattle.std.specs.Prelude.{slice_get}
use Rattle.std.specs.Option.{option_map, unwrap_or}
use Rattle.std.specs.Result.{is_err}
use Rattle.std.proofs.Math.ListN.{set}
use Rattle.std.proofs.lemmas.Bool.{cases_eq, cases_lt}
use Rattle.std.proofs.lemmas.List.{get_or-set_other, get_or-set_same, length-map, length-set, map-set, take_at}
use Rattle.std.proofs.lemmas.List.Concat.{flat_map-append}
use Rattle.std.proofs.lemmas.Option.{slice_get-map, slice_get_past, slice_get_read, unwrap_or-slice_get}
use Rattle.sj_end.specs.Views.{frame_at}
use Rattle.sj_end.specs.declared.frames.Frame.{Frame}
use Rattle.sj_end.specs.declared.note.Entry.{Entry}
use Rattle.sj_engine.specs.Batch.{Sends, waiting}
use Rattle.sj_engine.specs.Home.{AtHome, CarriesHome}
use Rattle.sj_engine.specs.Lanes.{pushed_on}
use Rattle.sj_engine.specs.Rounds.{Rounds}
use Rattle.sj_engine.specs.declared.in_lane.ByteIn.{ByteIn}
use Rattle.sj_engine.specs.declared.out_lane.ByteOut.{ByteOut}
use Rattle.sj_lane.specs.Told.{pushed_by, told_frame, told_more}
use Rattle.sj_lane.specs.declared.lane.PushRefusal.{PushRefusal}
use Rattle.sj_lane.specs.declared.lane.Lanes.{Lanes}
use Rattle.sj_lang.specs.Place.{Place, done}
use Rattle.sj_node.specs.declared.node.Node.{Node}
use Rattle.sj_node.specs.Node.{outbox_of}
use Rattle.sj_node.specs.Outs.{waiting_in}
use Rattle.sj_node.specs.Reading.{TakesEntry, TakesOut, outs_of, parties_of, party_of}
use Rattle.sj_rules.specs.Frames.{FrameAt}
use Rattle.sj_rules.specs.Mapped.{frame_with}
use Rattle.sj_rules.specs.NodeRun.{StepAt, frame_told, posted_to, told_frames}
use Rattle.sj_rules.specs.Frames.{frames_for}
use Rattle.sj_rules.specs.Work.{LostAt}
use Rattle.sj_table.specs.Spots.{place_in}
use Rattle.sj_work.proofs.LaneLemmas.{some_is, told_all_with}
use Rattle.sj_work.proofs.RestLemmas.{takes_later}
use Rattle.sj_work.specs.Views.{lanes_of, node_of, out_of}
use Rattle.sj_work.specs.declared.worker.Worker.{Worker}
use Rattle.sj_remote_run.specs.Posts.{AreClear, AreFrames, GoesOut, GoesTo, HandsOver, HasNone, IsOut, Posts, frames_on, has_for, waits_for}

abbrev pub Frames : Type 0
Frames = List (FrameAt Place)

-- the frames on a lane, and none where there is no lane
abbrev pub lane_frames : Option ByteOut → Frames
lane_frames o = unwrap_or (option_map pushed_on o) []

pub frames_at : (outs : List ByteOut) (q : ℕ) → frames_on outs q ≡ lane_frames (slice_get outs q)
frames_at outs q = sym (unwrap_or-slice_get (map pushed_on outs) q []) ∙ ap (λ (o : Option Frames). unwrap_or o []) (slice_get-map pushed_on outs q)

-- the frames on the lane that is read
frames_read : (outs : List ByteOut) (q : ℕ) (o : ByteOut) → q < length outs → o ≡ get_or outs q o → frames_on outs q ≡ pushed_on o
frames_read outs q o less is = frames_at outs q ∙ ap lane_frames (slice_get_read outs (length outs) q o refl less is)

-- one lane is another now
frames_set : (outs : List ByteOut) (to : ℕ) (p : ByteOut) → to < length outs → frames_on (set outs to p) to ≡ pushed_on p
frames_set outs to p less =
    ap (λ (l : List Frames). get_or l to []) (map-set pushed_on outs to p) ∙ get_or-set_same (map pushed_on outs) to (pushed_on p) [] (subst (λ (n : ℕ). to < n) (sym (length-map outs pushed_on)) less)

frames_beside : (outs : List ByteOut) (to q : ℕ) (p : ByteOut) → (q ≡ to → ⊥) → frames_on (set outs to p) q ≡ frames_on outs q
frames_beside outs to q p other = ap (λ (l : List Frames). get_or l q []) (map-set pushed_on outs to p) ∙ get_or-set_other (map pushed_on outs) to q (pushed_on p) [] other

-- lanes that are cleared one after another
pub clear_more : (outs : List ByteOut) (at : ℕ) (p : ByteOut) → at < length outs → pushed_on p ≡ [] → ((q : ℕ) → q < at → frames_on outs q ≡ []) → (q : ℕ) → q < at + 1 → frames_on (set outs at p) q ≡ []
clear_more outs at p less none before q lt = of (cases_eq q at)
  where
    of : (q ≡ at) ⊎ (q ≡ at → ⊥) → frames_on (set outs at p) q ≡ []
    of (inl is) = ap (frames_on (set outs at p)) is ∙ frames_set outs at p less ∙ none
    of (inr other) = frames_beside outs at q p other ∙ before q (omega (arith, lt, other))

pub clear_all : (outs : List ByteOut) (n : ℕ) → length outs ≤ n → ((q : ℕ) → q < n → frames_on outs q ≡ []) → AreClear outs
clear_all outs n le before q = of (cases_lt q n)
  where
    of : (q < n) ⊎ (n ≤ q) → frames_on outs q ≡ []
    of (inl lt) = before q lt
    of (inr ge) = frames_at outs q ∙ ap lane_frames (slice_get_past outs q (omega (arith, le, ge)))

-- the lanes of a party, as they are written back
pub written_clear : (n : ℕ) (outs others : List ByteOut) → length outs ≡ n → AreClear outs → AreClear (take n (outs ++ others))
written_clear n outs others long clear q = ap (λ (l : List ByteOut). frames_on l q) (take_at outs others n long) ∙ clear q

-- one lane more, on which nothing was pushed
pub clear_push : (outs : List ByteOut) (p : ByteOut) → AreClear outs → pushed_on p ≡ [] → AreClear (outs ++ p ∷ [])
clear_push [] p clear none zero = none
clear_push [] p clear none (suc q) = refl
clear_push (o ∷ outs) p clear none zero = clear zero
clear_push (o ∷ outs) p clear none (suc q) = clear_push outs p (λ k. clear (suc k)) none q

-- steps one after another
pub posts_none : (party : ℕ) (before after : ℕ → Frames) → ((q : ℕ) → (q ≡ party → ⊥) → after q ≡ before q) → Posts party [] before after
posts_none party before after same q other = same q other ∙ sym (append-nil (before q))

pub posts_then : (party : ℕ) (xs ys : List (StepAt Place)) (a b c : ℕ → Frames) → Posts party xs a b → Posts party ys b c → Posts party (xs ++ ys) a c
posts_then party xs ys a b c x y q other =
    y q other ∙ ap (λ (l : Frames). l ++ posted_to done q ys) (x q other) ∙ append_assoc (a q) (posted_to done q xs) (posted_to done q ys)
    ∙ ap (λ (l : Frames). a q ++ l) (sym (flat_map-append (λ (s : StepAt Place). told_frames done (frames_for q s.entry.clock s.posts)) xs ys))

pub posts_still : (party : ℕ) (xs : List (StepAt Place)) (a b c : ℕ → Frames) → Posts party xs a b → ((q : ℕ) → (q ≡ party → ⊥) → c q ≡ b q) → Posts party xs a c
posts_still party xs a b c x same q other = same q other ∙ x q other

pub posts_since : (party : ℕ) (xs : List (StepAt Place)) (a b c : ℕ → Frames) → ((q : ℕ) → (q ≡ party → ⊥) → b q ≡ a q) → Posts party xs b c → Posts party xs a c
posts_since party xs a b c same x q other = x q other ∙ ap (λ (l : Frames). l ++ posted_to done q xs) (same q other)

-- one step, whose frames wait
pub posts_step : (party : ℕ) (s : StepAt Place) (outs : List ByteOut) (n m : Node)
    → ((q : ℕ) → waits_for m q ≡ waits_for n q ++ told_frames done (frames_for q s.entry.clock s.posts)) → Posts party (s ∷ []) (has_for outs n) (has_for outs m)
posts_step party s outs n m box q other =
    ap (λ (l : Frames). frames_on outs q ++ l) (box q) ∙ sym (append_assoc (frames_on outs q) (waits_for n q) (told_frames done (frames_for q s.entry.clock s.posts)))
    ∙ ap (λ (l : Frames). has_for outs n q ++ l) (sym (append-nil (told_frames done (frames_for q s.entry.clock s.posts))))

-- the batches of a worker
has_sends : (o p : Option ByteOut) (box left posts : Frames) → Sends o p box left posts → lane_frames p ++ left ≡ (lane_frames o ++ box) ++ posts
has_sends None None box left posts s = s
has_sends None (Some p) box left posts s = absurd s
has_sends (Some o) None box left posts s = absurd s
has_sends (Some o) (Some p) box left posts s = s ∙ sym (append_assoc (pushed_on o) box posts)

pub rounds_posts : (lost : Option (LostAt Place)) (a b : Worker ByteOut ByteIn) (r : Rounds lost a b)
    → Posts (party_of (node_of a)) r.steps (has_for (lanes_of a).outs.items (node_of a)) (has_for (lanes_of b).outs.items (node_of b))
rounds_posts lost a b r q other =
    ap (λ (l : Frames). l ++ waits_for (node_of b) q) (frames_at (lanes_of b).outs.items q)
    ∙ has_sends (out_of a q) (out_of b q) (waiting a q) (waiting b q) (posted_to done q r.steps) (r.outs q other)
    ∙ ap (λ (l : Frames). (l ++ waits_for (node_of a) q) ++ posted_to done q r.steps) (sym (frames_at (lanes_of a).outs.items q))

-- where the log alone goes, the outboxes stay
pub waits_entry : (n m : Node) → TakesEntry n m → (q : ℕ) → waits_for m q ≡ waits_for n q
waits_entry n m t q = λ i. told_frames done (map (frame_with (place_in (t.table i))) (waiting_in (t.outs i) q))

pub has_entry : (outs : List ByteOut) (n m : Node) → TakesEntry n m → (q : ℕ) → has_for outs m q ≡ has_for outs n q
has_entry outs n m t q = ap (λ (l : Frames). frames_on outs q ++ l) (waits_entry n m t q)

-- what was posted by a party that had nothing for the others is what lanes have
pub are_frames : (outs later : List ByteOut) (n m : Node) (steps : List (StepAt Place)) → HasNone outs n → Posts (party_of n) steps (has_for outs n) (has_for later m) → IsOut later m → parties_of m ≡ parties_of n
    → AreFrames (parties_of n) (party_of n) steps (map pushed_on later)
are_frames outs later n m steps none posts out parties = record {
  count = length-map later pushed_on ∙ out.lanes ∙ parties;
  each = λ q less other.
      sym (append-nil (frames_on later q)) ∙ ap (λ (l : Frames). frames_on later q ++ l) (sym (out.none q (subst (λ (k : ℕ). q < k) (sym parties) less)))
      ∙ posts q other ∙ ap (λ (l : Frames). l ++ posted_to done q steps) (none q less other);
}

-- lanes that were cleared have nothing
pub clear_none : (outs : List ByteOut) (n : Node) → AreClear outs → ((q : ℕ) → q < parties_of n → waits_for n q ≡ []) → HasNone outs n
clear_none outs n clear none q less other = ap (λ (l : Frames). l ++ waits_for n q) (clear q) ∙ none q less

no_steps : {A : Type 0} (f : StepAt Place → A) (ss : List (StepAt Place)) → [] ≡ map f ss → ss ≡ []
no_steps f [] none = refl
no_steps f (s ∷ ss) none = absurd cc

-- after a batch was handed over nothing is left
pub hands_none : {A : Type 0} (f : StepAt Place → A) (g : Entry → A) (noted : List Entry) (outs later last : List ByteOut) (n m : Node) (steps : List (StepAt Place))
    → map g noted ≡ map f steps → HasNone outs n → Posts (party_of n) steps (has_for outs n) (has_for later m) → IsOut later m → parties_of m ≡ parties_of n → party_of m ≡ party_of n → HandsOver noted later last → HasNone last m
hands_none f g [] outs later last n m steps notes none posts out parties party hands q less other =
    ap (λ (l : List ByteOut). has_for l m q) hands ∙ posts q (λ is. other (is ∙ sym party)) ∙ ap (λ (ss : List (StepAt Place)). has_for outs n q ++ posted_to done q ss) (no_steps f steps notes)
    ∙ append-nil (has_for outs n q) ∙ none q (subst (λ (k : ℕ). q < k) parties less) (λ is. other (is ∙ sym party))
hands_none f g (e ∷ es) outs later last n m steps notes none posts out parties party hands q less other = clear_none last m hands out.none q less other

-- what waits, as lanes report it
waits_told : (n : Node) (q : ℕ) → waits_for n q ≡ map (frame_with (λ s. done)) (waiting_in (outs_of n) q)
waits_told n q = told_all_with (place_in n.table) (waiting_in (outs_of n) q)

waits_same : (n m : Node) (q : ℕ) → waiting_in (outs_of m) q ≡ waiting_in (outs_of n) q → waits_for m q ≡ waits_for n q
waits_same n m q same = waits_told m q ∙ ap (map (frame_with (λ s. done))) same ∙ sym (waits_told n q)

pub waits_none : (n : Node) (q : ℕ) → waiting_in (outs_of n) q ≡ [] → waits_for n q ≡ []
waits_none n q none = waits_told n q ∙ ap (map (frame_with (λ s. done))) none

-- what a lane took is what it reports
pub told_ok : (f : Frame) (r : Result (Unit {0}) (Frame × PushRefusal)) → is_err r ≡ false → pushed_by f r ≡ told_frame f ∷ []
told_ok f (Ok u) is = refl
told_ok f (Err e) is = absurd cc

-- no frame went to the lane yet
pub goes_none : (to : ℕ) (o : ByteOut) (n : Node) → GoesTo to o n o n
goes_none to o n = record { all = refl; others = λ q other. refl; node = record { node = refl; log = refl; party = refl; parties = refl; table = refl; connects = refl } }

module _ (to : ℕ) (o p : ByteOut) (n m k : Node) (g : GoesTo to o n p m) (taken : TakesOut m k) (others : (q : ℕ) → (q ≡ to → ⊥) → waiting_in (outs_of k) q ≡ waiting_in (outs_of m) q) where
  -- one more frame went there
  pub goes_more : (r : ByteOut) (f : Frame) → waiting_in (outs_of m) to ≡ frame_at f ∷ waiting_in (outs_of k) to → Some (pushed_on r) ≡ told_more (Some (pushed_on p)) (told_frame f ∷ []) → GoesTo to o n r k
  goes_more r f front told =
      let lists : pushed_on r ≡ pushed_on p ++ told_frame f ∷ [] = some_is (pushed_on r) (pushed_on p ++ told_frame f ∷ []) told in
      let box : waits_for m to ≡ told_frame f ∷ waits_for k to = waits_told m to ∙ ap (map (frame_with (λ s. done))) front ∙ ap (λ (l : Frames). told_frame f ∷ l) (sym (waits_told k to)) in
      record {
        all = ap (λ (l : Frames). l ++ waits_for k to) lists ∙ append_assoc (pushed_on p) (told_frame f ∷ []) (waits_for k to) ∙ ap (λ (l : Frames). pushed_on p ++ l) (sym box) ∙ g.all;
        others = λ q other. waits_same m k q (others q other) ∙ g.others q other;
        node = takes_later n m k g.node taken;
      }

  -- none was left
  pub goes_last : waiting_in (outs_of m) to ≡ [] → waiting_in (outs_of k) to ≡ [] → GoesTo to o n p k
  goes_last none empty = record {
    all = ap (λ (l : Frames). pushed_on p ++ l) (waits_same m k to (empty ∙ sym none)) ∙ g.all;
    others = λ q other. waits_same m k q (others q other) ∙ g.others q other;
    node = takes_later n m k g.node taken;
  }

-- what waited for the parties before that one went to their lanes
pub record Pushing (outs : List ByteOut) (n : Node) (later : List ByteOut) (m : Node) (to : ℕ) : Type 0 where
  pub same : (q : ℕ) → has_for later m q ≡ has_for outs n q
  pub before : (q : ℕ) → q < to → waits_for m q ≡ []
  pub after : (q : ℕ) → to ≤ q → waits_for m q ≡ waits_for n q
  pub lanes : length later ≡ length outs
  pub node : TakesOut n m

pub pushing_none : (outs : List ByteOut) (n : Node) → Pushing outs n outs n 0
pushing_none outs n = record {
  same = λ q. refl;
  before = λ q less. absurd (omega (arith, less));
  after = λ q le. refl;
  lanes = refl;
  node = record { node = refl; log = refl; party = refl; parties = refl; table = refl; connects = refl };
}

module _ (outs : List ByteOut) (n : Node) (later : List ByteOut) (m : Node) (to : ℕ) (x : Pushing outs n later m to) (o p : ByteOut) (k : Node)
    (less : to < length later) (is : o ≡ get_or later to o) (g : GoesTo to o m p k) (none : waits_for k to ≡ []) where
  here : (q : ℕ) → (q ≡ to) ⊎ (q ≡ to → ⊥) → has_for (set later to p) k q ≡ has_for later m q
  here q (inl at) =
      subst (λ (r : ℕ). has_for (set later to p) k r ≡ has_for later m r) (sym at)
      (ap (λ (l : Frames). l ++ waits_for k to) (frames_set later to p less) ∙ g.all ∙ ap (λ (l : Frames). l ++ waits_for m to) (sym (frames_read later to o less is)))
  here q (inr other) = (λ i. frames_beside later to q p other i ++ g.others q other i)

  gone : (q : ℕ) → q < to + 1 → (q ≡ to) ⊎ (q ≡ to → ⊥) → waits_for k q ≡ []
  gone q lt (inl at) = ap (λ (r : ℕ). waits_for k r) at ∙ none
  gone q lt (inr other) = g.others q other ∙ x.before q (omega (arith, lt, other))

  pub pushing_more : Pushing outs n (set later to p) k (to + 1)
  pushing_more = record {
    same = λ q. here q (cases_eq q to) ∙ x.same q;
    before = λ q lt. gone q lt (cases_eq q to);
    after = λ q le. g.others q (λ at. absurd (omega (arith, le, at))) ∙ x.after q (omega (arith, le));
    lanes = length-set later to p ∙ x.lanes;
    node = takes_later n m k x.node g.node;
  }

-- how many lanes there are at one place
abbrev lane_count : Option ByteOut → ℕ
lane_count None = 0
lane_count (Some o) = 1

home_count : (o : Option ByteOut) (i : Option ByteIn) (p : Option ByteOut) (j : Option ByteIn) → AtHome o i p j → lane_count p ≡ lane_count o
home_count None i p j h = ap lane_count h.0
home_count (Some o) None p j h = ap lane_count h.0
home_count (Some o) (Some i) None None h = absurd h
home_count (Some o) (Some i) None (Some j) h = absurd h
home_count (Some o) (Some i) (Some p) None h = absurd h
home_count (Some o) (Some i) (Some p) (Some j) h = refl

same_length : (xs ys : List ByteOut) → ((q : ℕ) → lane_count (slice_get ys q) ≡ lane_count (slice_get xs q)) → length ys ≡ length xs
same_length [] [] h = refl
same_length [] (y ∷ ys) h = let e : 1 ≡ 0 = h zero in absurd (omega (arith, e))
same_length (x ∷ xs) [] h = let e : 0 ≡ 1 = h zero in absurd (omega (arith, e))
same_length (x ∷ xs) (y ∷ ys) h = ap suc (same_length xs ys (λ q. h (suc q)))

module _ (outs : List ByteOut) (n m : Node) (to : ℕ) (a b : Lanes ByteOut ByteIn) (x : Pushing outs n a.outs.items m to) (h : CarriesHome (party_of n) a b) where
  home_at : (q : ℕ) → (q ≡ party_of n) ⊎ (q ≡ party_of n → ⊥) → lane_count (slice_get b.outs.items q) ≡ lane_count (slice_get a.outs.items q)
  home_at q (inl at) =
      subst (λ (r : ℕ). lane_count (slice_get b.outs.items r) ≡ lane_count (slice_get a.outs.items r)) (sym at)
      (home_count (slice_get a.outs.items (party_of n)) (slice_get a.ins.items (party_of n)) (slice_get b.outs.items (party_of n)) (slice_get b.ins.items (party_of n)) h.home)
  home_at q (inr other) = ap lane_count (h.outs q other)

  home_same : (q : ℕ) → (q ≡ party_of n → ⊥) → frames_on b.outs.items q ≡ frames_on a.outs.items q
  home_same q other = frames_at b.outs.items q ∙ ap lane_frames (h.outs q other) ∙ sym (frames_at a.outs.items q)

  waited : ((q : ℕ) → to ≤ q → q < parties_of n → waiting_in (outs_of n) q ≡ []) → (q : ℕ) → q < parties_of n → (q < to) ⊎ (to ≤ q) → waits_for m q ≡ []
  waited none q less (inl lt) = x.before q lt
  waited none q less (inr le) = x.after q le ∙ waits_none n q (none q le less)

  -- all went out, and what is for the party itself came home
  pub goes_home : ((q : ℕ) → to ≤ q → q < parties_of n → waiting_in (outs_of n) q ≡ []) → length outs ≡ parties_of n → GoesOut outs n b.outs.items m
  goes_home none long = record {
    same = λ q other. ap (λ (l : Frames). l ++ waits_for m q) (home_same q other) ∙ x.same q;
    out = record {
      lanes = same_length a.outs.items b.outs.items (λ q. home_at q (cases_eq q (party_of n))) ∙ x.lanes ∙ long ∙ sym x.node.parties;
      none = λ q less. waited none q (subst (λ (k : ℕ). q < k) x.node.parties less) (cases_lt q to);
    };
  }

-- what is handed over
pub hands_same : (noted : List Entry) (outs later : List ByteOut) → noted ≡ [] → later ≡ outs → HandsOver noted outs later
hands_same noted outs later none same = subst (λ (es : List Entry). HandsOver es outs later) (sym none) same

pub hands_clear : (noted : List Entry) (outs later : List ByteOut) → (noted ≡ [] → ⊥) → AreClear later → HandsOver noted outs later
hands_clear [] outs later some clear = absurd (some refl)
hands_clear (e ∷ es) outs later some clear = clear
