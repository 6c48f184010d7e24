-- The joined logs of the parties are a log of the core: one event after the other, up to each
-- party's last node.
use Rattle.std.proofs.Common.{◌≡◌, ℕ, ◌≤◌, List, [], ◌∷◌, ◌++◌, refl, sym, ap, subst, ◌∙◌, arith, append-nil, append_assoc}
use Rattle.std.specs.Prelude.{Bool, true, false, ◌==◌, if◌then◌else◌, Option, Some, None, map}
use Rattle.std.specs.List.{AllByRecursion, cons_option}
use Rattle.std.proofs.lemmas.Bool.{eqb-true}
use Rattle.std.proofs.lemmas.List.{map-append}
use Rattle.sj_rules.specs.Record.{Mail}
use Rattle.sj_rules.specs.Node.{Play, NodeAt}
use Rattle.sj_rules.specs.Frames.{FrameAt, frames_for}
use Rattle.sj_rules.specs.World.{WorldAt, happens}
use Rattle.sj_rules.specs.Log.{EntryAt, LineAt, IsBefore, IsInOrder, IsJoined, part_of}
use Rattle.sj_rules.specs.History.{IsLog, due}
use Rattle.sj_rules.specs.Posts.{line_posts, posts_of, event_done, all_posts, from_there}
use Rattle.sj_rules.specs.NodeRun.{StepAt, Steps, NodeRun, popped_from, posted_to, frame_told, told_frames}
use Rattle.sj_rules.specs.Joined.{WorkerAt, AllWork, Works, Holds, left_in}
use Rattle.sj_joined_lemmas.proofs.OrderLemmas.{part_here, part_others}
use Rattle.sj_joined_lemmas.proofs.OwnStepLemmas.{stepped, step_happens, step_due, step_posts}
use Rattle.sj_joined_lemmas.proofs.LateLemmas.{NoneBefore, posts_late, part_late}
use Rattle.sj_joined_lemmas.proofs.OnwardLemmas.{put_steps, IsOnward, FedLanes, feeds, next, step_here, goes_onward}

-- what the log has of these steps
abbrev entries : {P : Type 0} → List (StepAt P) → List EntryAt
entries steps = map (λ s. s.entry) steps

-- the first step is that of the first entry
record First {P : Type 0} (e : EntryAt) (es : List EntryAt) (steps : List (StepAt P)) : Type 0 where
  step : StepAt P
  rest : List (StepAt P)
  is : steps ≡ step ∷ rest
  entry : e ≡ step.entry
  others : es ≡ entries rest

-- where there is an entry, there is a step
first_of : {P : Type 0} → (e : EntryAt) (es : List EntryAt) (steps : List (StepAt P)) → e ∷ es ≡ entries steps → First e es steps
first_of e es [] same = absurd (cc same)
first_of e es (s ∷ ss) same = record { step = s; rest = ss; is = refl; entry = cc same; others = cc same }

-- where no entry is left, no steps are
none_left : {P : Type 0} → (steps : List (StepAt P)) → [] ≡ entries steps → steps ≡ []
none_left [] same = refl
none_left (s ∷ ss) same = absurd (cc same)

-- no line of a party is earlier than the first of all
none_earlier : (p : ℕ) (l : LineAt) (ls : List LineAt) → AllByRecursion (IsBefore l) ls → AllByRecursion (λ e. l.entry.clock ≤ e.clock) (part_of p (l ∷ ls))
none_earlier p l ls all = by (p == l.party)
  where
    by : (b : Bool) → AllByRecursion (λ e. l.entry.clock ≤ e.clock) (cons_option (if b then Some l.entry else None) (part_of p ls))
    by true = (omega arith, part_late l p ls all)
    by false = part_late l p ls all

module _ {P Q : Type 0} (play : Play P Q) (pick : ℕ → ℕ → ℕ) (blank : P) (last : ℕ → NodeAt P Q) (left : ℕ → ℕ → List (FrameAt P)) where
  -- the world that the lines lead to, and what their events post
  pub record Reached (posted : ℕ → ℕ → List (FrameAt P)) (w : WorldAt P Q) (lines : List LineAt) : Type 0 where
    pub world : WorldAt P Q
    pub log : IsLog play pick w lines world
    pub holds : Holds blank world last left
    pub posts : (p q : ℕ) → told_frames blank (all_posts play pick p q lines w) ≡ posted p q

  -- the world after the first line
  record Begun (w : WorldAt P Q) (before : ℕ → List (StepAt P)) (l : LineAt) (ls : List LineAt) : Type 0 where
    world : WorldAt P Q
    steps : ℕ → List (StepAt P)
    posts : (p q : ℕ) → told_frames blank (line_posts play pick w l p q) ++ posted_to blank q (steps p) ≡ posted_to blank q (before p)
    row : happens play pick w l.party l.entry.event ≡ Some world
    line : due play pick w l.party l.entry.event ≡ Some l
    onward : IsOnward play pick blank last left world steps
    parts : (p : ℕ) → part_of p ls ≡ entries (steps p)

  -- the first line is a step
  begins : (w : WorldAt P Q) (steps : ℕ → List (StepAt P)) → IsOnward play pick blank last left w steps → (l : LineAt) (ls : List LineAt) →
      AllByRecursion (IsBefore l) ls → ((p : ℕ) → part_of p (l ∷ ls) ≡ entries (steps p)) → Begun w steps l ls
  begins w steps onward l ls all parts = by (first_of l.entry (part_of p ls) (steps p) (sym (part_here p l ls refl) ∙ parts p))
    where
      p : ℕ
      p = l.party

      by : First l.entry (part_of p ls) (steps p) → Begun w steps l ls
      by f = record {
        world = after;
        steps = put_steps p f.rest steps;
        posts = λ q d. posts q d (q == p) refl;
        row = subst (λ (e : EntryAt). happens play pick w p e.event ≡ Some after) (sym f.entry) (step_happens play pick blank w p f.step here fed.after st fed.fed);
        line = subst (λ (e : EntryAt). due play pick w p e.event ≡ Some (record { party = p; entry = e })) (sym f.entry)
            (step_due play pick blank w p f.step here fed.after st fed.fed);
        onward = goes_onward play pick blank last left w steps onward p f.step f.rest f.is fed;
        parts = λ q. others q (q == p) refl;
      }
        where
          late : (q b : ℕ) → NoneBefore f.step.entry.clock (posted_to blank b (steps q))
          late q b =
              posts_late blank f.step.entry.clock b (steps q)
              (subst (λ (es : List EntryAt). AllByRecursion (λ e. f.step.entry.clock ≤ e.clock) es) (parts q)
              (subst (λ (e : EntryAt). AllByRecursion (λ d. e.clock ≤ d.clock) (part_of q (l ∷ ls))) f.entry (none_earlier q l ls all)))

          fed : FedLanes blank p w.lanes f.step.deed
          fed = feeds play pick blank last left w steps onward p f.step f.rest f.is (λ q. late q p)

          here : NodeAt P Q
          here = next play pick blank last left w steps onward p f.step f.rest f.is

          st : Steps play pick p (w.nodes p) f.step here
          st = step_here play pick blank last left w steps onward p f.step f.rest f.is

          after : WorldAt P Q
          after = stepped play pick blank w p f.step here fed.after st fed.fed

          posts : (q d : ℕ) (b : Bool) → (q == p) ≡ b →
              told_frames blank (if b then frames_for d l.entry.clock (posts_of (event_done play pick w p l.entry.event)) else []) ++ posted_to blank d (if b then f.rest else steps q)
              ≡ posted_to blank d (steps q)
          posts q d true e =
              let all : posted_to blank d (steps q) ≡ told_frames blank (frames_for d f.step.entry.clock f.step.posts) ++ posted_to blank d f.rest = rw (eqb-true q p e, f.is) in
              subst (λ (i : EntryAt). told_frames blank (frames_for d i.clock (posts_of (event_done play pick w p i.event))) ++ posted_to blank d f.rest ≡ posted_to blank d (steps q)) (sym f.entry)
              (ap (λ (ms : List (Mail P)). told_frames blank (frames_for d f.step.entry.clock ms) ++ posted_to blank d f.rest) (step_posts play pick blank w p f.step here fed.after st fed.fed) ∙ sym all)
          posts q d false e = refl

          others : (q : ℕ) (b : Bool) → (q == p) ≡ b → part_of q ls ≡ entries (if b then f.rest else steps q)
          others q true e = rw (eqb-true q p e) f.others
          others q false e = sym (part_others q l ls e) ∙ parts q

  -- so are all lines, one after the other
  pub reaches : (lines : List LineAt) (w : WorldAt P Q) (steps : ℕ → List (StepAt P)) → IsInOrder lines → ((p : ℕ) → part_of p lines ≡ entries (steps p)) →
      IsOnward play pick blank last left w steps → Reached (λ p q. posted_to blank q (steps p)) w lines
  reaches [] w steps order parts onward = record { world = w; log = refl; holds = record { nodes = ended; lanes = rested }; posts = λ p q. none_posted p q }
    where
      none : (p : ℕ) → steps p ≡ []
      none p = none_left (steps p) (parts p)

      ended : (p : ℕ) → w.nodes p ≡ last p
      ended p = subst (λ (l : List (StepAt P)). NodeRun play pick p (w.nodes p) l (last p)) (none p) (onward.runs p)

      none_posted : (p q : ℕ) → [] ≡ posted_to blank q (steps p)
      none_posted p q = rw (none p)

      rested : (p q : ℕ) → told_frames blank (w.lanes p q) ≡ left p q
      rested p q =
          let posts : posted_to blank q (steps p) ≡ [] = rw (none p) in
          let pops : popped_from blank p (steps q) ≡ [] = rw (none q) in
          sym (append-nil (told_frames blank (w.lanes p q))) ∙ ap (λ l. told_frames blank (w.lanes p q) ++ l) (sym posts) ∙ onward.lanes p q ∙ ap (λ l. l ++ left p q) pops
  reaches (l ∷ ls) w steps order parts onward =
      let b : Begun w steps l ls = begins w steps onward l ls order.0 parts in
      let r : Reached (λ p q. posted_to blank q (b.steps p)) b.world ls = reaches ls b.world b.steps order.1 b.parts b.onward in
      record {
        world = r.world;
        log = (b.world, b.row, b.line, r.log);
        holds = r.holds;
        posts = λ p q. posts b.world b.row p q ∙ ap (λ frames. told_frames blank (line_posts play pick w l p q) ++ frames) (r.posts p q) ∙ b.posts p q;
      }
    where
      posts : (v : WorldAt P Q) → happens play pick w l.party l.entry.event ≡ Some v → (p q : ℕ) →
          told_frames blank (all_posts play pick p q (l ∷ ls) w) ≡ told_frames blank (line_posts play pick w l p q) ++ told_frames blank (all_posts play pick p q ls v)
      posts v is p q =
          map-append (frame_told blank) (line_posts play pick w l p q) (from_there (all_posts play pick p q ls) (happens play pick w l.party l.entry.event))
          ∙ ap (λ (h : Option (WorldAt P Q)). told_frames blank (line_posts play pick w l p q) ++ told_frames blank (from_there (all_posts play pick p q ls) h)) is

module _ {P Q : Type 0} (play : Play P Q) (pick : ℕ → ℕ → ℕ) (blank : P) (start : WorldAt P Q) (workers : ℕ → WorkerAt P Q)
    (lost waiting : ℕ → ℕ → List (FrameAt P)) (all : AllWork play pick blank start workers lost waiting) where
  -- what a party posted is what the other popped, and what is left
  all_posted : (p q : ℕ) → told_frames blank (start.lanes p q) ++ posted_to blank q ((all.each p).steps) ≡ popped_from blank p ((all.each q).steps) ++ left_in workers lost waiting p q
  all_posted p q =
      let a : Works play pick blank p _ (workers p) (lost p) = all.each p in
      let b : Works play pick blank q _ (workers q) (lost q) = all.each q in
      let none : told_frames blank (start.lanes p q) ≡ [] = ap (told_frames blank) (all.empty p q) in
      let pops : List (FrameAt P) = popped_from blank p b.steps in
      let pushed : a.now q ≡ pops ++ (lost q p ++ waiting p q) =
      sym (a.pushed q) ∙ all.front p q ∙ ap (λ l. l ++ waiting p q) (b.popped p) ∙ append_assoc pops (lost q p) (waiting p q) in
      ap (λ l. l ++ posted_to blank q a.steps) none ∙ sym (a.posted q) ∙ ap (λ l. l ++ (workers p).box q) pushed
      ∙ append_assoc pops (lost q p ++ waiting p q) ((workers p).box q)

  -- the joined logs are a log of the core, with the product's choice: it ends with each party's
  -- last node, and with what is left in the lanes. Its events post what each party pushed, and then
  -- its outbox
  pub joined_logs_run : (lines : List LineAt) → IsJoined (λ p. (workers p).log) lines →
      Reached play pick blank (λ p. (workers p).node) (left_in workers lost waiting) (λ p q. (workers p).pushed q ++ (workers p).box q) start lines
  joined_logs_run lines joined =
      let r : Reached play pick blank (λ p. (workers p).node) (left_in workers lost waiting) (λ p q. posted_to blank q ((all.each p).steps)) start lines =
      reaches play pick blank (λ p. (workers p).node) (left_in workers lost waiting) lines start (λ p. (all.each p).steps) joined.order
      (λ p. joined.parts p ∙ (all.each p).log) (record { runs = λ p. (all.each p).run; lanes = all_posted }) in
      record { world = r.world; log = r.log; holds = r.holds; posts = λ p q. r.posts p q ∙ pushed p q }
    where
      pushed : (p q : ℕ) → posted_to blank q ((all.each p).steps) ≡ (workers p).pushed q ++ (workers p).box q
      pushed p q =
          let a : Works play pick blank p _ (workers p) (lost p) = all.each p in
          sym (a.posted q) ∙ ap (λ l. l ++ (workers p).box q) (sym (a.pushed q))
