-- A worker's calls one after the other: nothing done, and work after work.
use Rattle.std.proofs.Common.{◌≡◌, ℕ, List, [], ◌∷◌, ◌++◌, refl, sym, ap, subst, ◌∙◌, append-nil, append_assoc}
use Rattle.std.specs.Prelude.{Option, Some, None, map}
use Rattle.std.specs.List.{cons_option}
use Rattle.std.proofs.lemmas.List.{map-append}
use Rattle.std.proofs.lemmas.List.Elements.{filter_map-append}
use Rattle.std.proofs.lemmas.Grind.{flat_map-append}
use Rattle.sj_rules.specs.Node.{Play}
use Rattle.sj_rules.specs.Frames.{FrameAt, frames_for}
use Rattle.sj_rules.specs.NodeRun.{StepAt, Steps, frame_from, popped_from, posted_to, told_frames}
use Rattle.sj_rules.specs.Work.{LanedAt, LostAt, lost_from, told_more, OutStep, InStep, LaneWork}
use Rattle.sj_joined_lemmas.proofs.WorkerLemmas.{runs_joined}

-- more and more is more by both
told_more_later : {P : Type 0} → (l : Option (List (FrameAt P))) (xs ys : List (FrameAt P)) → told_more (told_more l xs) ys ≡ told_more l (xs ++ ys)
told_more_later None xs ys = refl
told_more_later (Some l) xs ys = ap Some (append_assoc l xs ys)

-- and nothing more is nothing new
told_more_none : {P : Type 0} → (l : Option (List (FrameAt P))) → l ≡ told_more l []
told_more_none None = refl
told_more_none (Some l) = ap Some (sym (append-nil l))

module _ {P L : Type 0} (tells : L → Option (List (FrameAt P))) (same : L → L → Type 0) (same_itself : (x : L) → same x x) (same_later : (x y z : L) → same x y → same y z → same x z) where
  -- a lane to a party that is left alone
  pub out_itself : (o : Option L) (box : List (FrameAt P)) → OutStep tells same o o box box []
  out_itself None box = sym (append-nil box)
  out_itself (Some o) box = (same_itself o, ([], told_more_none (tells o), sym (append-nil box)))

  -- a lane from a party that is left alone
  pub in_itself : (i : Option L) → InStep tells same i i []
  in_itself None = refl
  in_itself (Some i) = (same_itself i, told_more_none (tells i))

  -- a lane to a party, call after call
  pub out_later : (a b c : Option L) (box mid left ps qs : List (FrameAt P)) → OutStep tells same a b box mid ps → OutStep tells same b c mid left qs → OutStep tells same a c box left (ps ++ qs)
  out_later None None None box mid left ps qs x y = y ∙ ap (λ l. l ++ qs) x ∙ append_assoc box ps qs
  out_later None None (Some c) box mid left ps qs x y = absurd y
  out_later None (Some b) c box mid left ps qs x y = absurd x
  out_later (Some a) None c box mid left ps qs x y = absurd x
  out_later (Some a) (Some b) None box mid left ps qs x y = absurd y
  out_later (Some a) (Some b) (Some c) box mid left ps qs x y = (
    same_later a b c x.0 y.0,
    (
      x.1.0 ++ y.1.0,
      y.1.1 ∙ ap (λ l. told_more l y.1.0) x.1.1 ∙ told_more_later (tells a) x.1.0 y.1.0,
      append_assoc x.1.0 y.1.0 left ∙ ap (λ l. x.1.0 ++ l) y.1.2 ∙ sym (append_assoc x.1.0 mid qs) ∙ ap (λ l. l ++ qs) x.1.2 ∙ append_assoc box ps qs,
    ),
  )

  -- a lane from a party, call after call
  pub in_later : (a b c : Option L) (xs ys : List (FrameAt P)) → InStep tells same a b xs → InStep tells same b c ys → InStep tells same a c (xs ++ ys)
  in_later None None None xs ys x y = ap (λ l. l ++ ys) x ∙ y
  in_later None None (Some c) xs ys x y = absurd y
  in_later None (Some b) c xs ys x y = absurd x
  in_later (Some a) None c xs ys x y = absurd x
  in_later (Some a) (Some b) None xs ys x y = absurd y
  in_later (Some a) (Some b) (Some c) xs ys x y =
      (same_later a b c x.0 y.0, y.1 ∙ ap (λ l. told_more l ys) x.1 ∙ told_more_later (tells a) xs ys)

module _ {P Q O I : Type 0} (pushed : O → Option (List (FrameAt P))) (same_out : O → O → Type 0) (popped : I → Option (List (FrameAt P))) (same_in : I → I → Type 0)
    (out_same : (x : O) → same_out x x) (out_same_later : (x y z : O) → same_out x y → same_out y z → same_out x z)
    (in_same : (x : I) → same_in x x) (in_same_later : (x y z : I) → same_in x y → same_in y z → same_in x z)
    (play : Play P Q) (pick : ℕ → ℕ → ℕ) (blank : P) (party : ℕ) where
  -- a call that does nothing
  pub lane_work_itself : (w : LanedAt P Q O I) → LaneWork pushed same_out popped same_in play pick blank party w w None
  lane_work_itself w = record {
    steps = [];
    run = refl;
    log = sym (append-nil w.log);
    outs = λ q. out_itself pushed same_out out_same out_same_later (w.outs q) (w.box q);
    ins = λ q. in_itself popped same_in in_same in_same_later (w.ins q);
  }

  -- work after work in which no frame was lost
  pub lane_work_later : (a b c : LanedAt P Q O I) (lost : Option (LostAt P)) → LaneWork pushed same_out popped same_in play pick blank party a b None →
      LaneWork pushed same_out popped same_in play pick blank party b c lost → LaneWork pushed same_out popped same_in play pick blank party a c lost
  lane_work_later a b c lost x y = record {
    steps = x.steps ++ y.steps;
    run = runs_joined play pick blank party x.steps y.steps a.node b.node c.node x.run y.run;
    log = y.log ∙ ap (λ l. l ++ map (λ s. s.entry) y.steps) x.log ∙ append_assoc a.log (map (λ s. s.entry) x.steps) (map (λ s. s.entry) y.steps)
        ∙ ap (λ l. a.log ++ l) (sym (map-append (λ (s : StepAt P). s.entry) x.steps y.steps));
    outs = outs;
    ins = ins;
  }
    where
      outs : (q : ℕ) → OutStep pushed same_out (a.outs q) (c.outs q) (a.box q) (c.box q) (posted_to blank q (x.steps ++ y.steps))
      outs q =
          let both : posted_to blank q (x.steps ++ y.steps) ≡ posted_to blank q x.steps ++ posted_to blank q y.steps =
          flat_map-append (λ (s : StepAt P). told_frames blank (frames_for q s.entry.clock s.posts)) x.steps y.steps in
          subst (λ (l : List (FrameAt P)). OutStep pushed same_out (a.outs q) (c.outs q) (a.box q) (c.box q) l) (sym both)
          (out_later pushed same_out out_same out_same_later (a.outs q) (b.outs q) (c.outs q) (a.box q) (b.box q) (c.box q)
          (posted_to blank q x.steps) (posted_to blank q y.steps) (x.outs q) (y.outs q))

      ins : (q : ℕ) → InStep popped same_in (a.ins q) (c.ins q) (popped_from blank q (x.steps ++ y.steps) ++ lost_from lost q)
      ins q =
          let both : popped_from blank q (x.steps ++ y.steps) ≡ popped_from blank q x.steps ++ popped_from blank q y.steps =
          filter_map-append (λ (s : StepAt P). frame_from blank q s.deed) x.steps y.steps in
          let first : InStep popped same_in (a.ins q) (b.ins q) (popped_from blank q x.steps) =
          subst (λ (l : List (FrameAt P)). InStep popped same_in (a.ins q) (b.ins q) l) (append-nil (popped_from blank q x.steps)) (x.ins q) in
          let all : (popped_from blank q x.steps) ++ (popped_from blank q y.steps ++ lost_from lost q) ≡ popped_from blank q (x.steps ++ y.steps) ++ lost_from lost q =
          sym (append_assoc (popped_from blank q x.steps) (popped_from blank q y.steps) (lost_from lost q)) ∙ ap (λ l. l ++ lost_from lost q) (sym both) in
          subst (λ (l : List (FrameAt P)). InStep popped same_in (a.ins q) (c.ins q) l) all
          (in_later popped same_in in_same in_same_later (a.ins q) (b.ins q) (c.ins q) (popped_from blank q x.steps)
          (popped_from blank q y.steps ++ lost_from lost q) first (y.ins q))

-- one event, or none: what the lanes do beside it
module _ {P Q O I : Type 0} (pushed : O → Option (List (FrameAt P))) (same_out : O → O → Type 0) (popped : I → Option (List (FrameAt P))) (same_in : I → I → Type 0)
    (play : Play P Q) (pick : ℕ → ℕ → ℕ) (blank : P) (party : ℕ) (a b : LanedAt P Q O I) where
  -- an act, or a frame that was popped and delivered
  pub event_lane_work : (s : StepAt P) → Steps play pick party a.node s b.node → b.log ≡ a.log ++ s.entry ∷ [] →
      ((q : ℕ) → OutStep pushed same_out (a.outs q) (b.outs q) (a.box q) (b.box q) (told_frames blank (frames_for q s.entry.clock s.posts))) →
      ((q : ℕ) → InStep popped same_in (a.ins q) (b.ins q) (cons_option (frame_from blank q s.deed) [])) →
      LaneWork pushed same_out popped same_in play pick blank party a b None
  event_lane_work s st log outs ins = record {
    steps = s ∷ [];
    run = (b.node, st, refl);
    log = log;
    outs = λ q. subst (λ (l : List (FrameAt P)). OutStep pushed same_out (a.outs q) (b.outs q) (a.box q) (b.box q) l)
        (sym (append-nil (told_frames blank (frames_for q s.entry.clock s.posts)))) (outs q);
    ins = λ q. subst (λ (l : List (FrameAt P)). InStep popped same_in (a.ins q) (b.ins q) l)
        (sym (append-nil (cons_option (frame_from blank q s.deed) []))) (ins q);
  }

  -- pushes of outboxes, and at most one frame that was popped and lost
  pub quiet_lane_work : (lost : Option (LostAt P)) → a.node ≡ b.node → b.log ≡ a.log →
      ((q : ℕ) → OutStep pushed same_out (a.outs q) (b.outs q) (a.box q) (b.box q) []) → ((q : ℕ) → InStep popped same_in (a.ins q) (b.ins q) (lost_from lost q)) →
      LaneWork pushed same_out popped same_in play pick blank party a b lost
  quiet_lane_work lost node log outs ins = record { steps = []; run = node; log = log ∙ sym (append-nil a.log); outs = outs; ins = ins }
