-- Each old event on a world is the same event on the world read as if each Open had been delivered.
use Rattle.std.proofs.Common.{◌≡◌, ℕ, ◌+◌, List, ◌∷◌, ◌++◌, refl, sym, ap, subst, ◌∙◌, max}
use Rattle.std.specs.Prelude.{⊤, Bool, true, false, ◌==◌, if◌then◌else◌, Option, Some, None, option_map}
use Rattle.std.proofs.lemmas.Bool.{eqb-true}
use Rattle.sj_base.specs.declared.EndId.{EndId}
use Rattle.sj_rules.specs.Record.{HeldAt, Held}
use Rattle.sj_rules.specs.Opened.{opener_of, new_held, is_open, opened_in}
use Rattle.sj_rules.specs.Frames.{FrameAt, is_proper}
use Rattle.sj_rules.specs.Rows.{Worked}
use Rattle.sj_rules.specs.Node.{Play, NodeAt, comes, comes_or_opens, arrives, acts}
use Rattle.sj_rules.specs.World.{WorldAt, Act, Deliver, happens, delivery_of, after_event, with_lane, lanes_with}
use Rattle.sj_rules.specs.Shown.{bodies}
use Rattle.sj_rules.specs.Linked.{subject_of}
use Rattle.sj_rules.specs.Reading.{is_opening, without_opens, reading}
use Rattle.sj_rules.proofs.ArrivalLemmas.{comes_unopened}
use Rattle.sj_opened_lemmas.proofs.NodeReadLemmas.{read_main, IsReadAs, Agree, WantsNoLate, comes_agrees, acts_agree}
use Rattle.sj_opened_lemmas.proofs.PostedLemmas.{AreUnopened, PostsNone, OpensNone, comes_none, acts_none}
use Rattle.sj_opened_lemmas.proofs.LaneReadLemmas.{OpensSame, popped_same, posted_same, posted_without, set_without, front_without}

-- an end in an Open is Held so, where it goes
abbrev pub late_held : {P : Type 0} → (blank : P) → (opening : Bool) → EndId → Option (HeldAt P)
late_held blank true e = Some (new_held e blank (opener_of e.sess))
late_held blank false e = None

-- at that party
abbrev pub late_at : {P Q : Type 0} → (blank : P) → WorldAt P Q → ℕ → EndId → Option (HeldAt P)
late_at blank w p e = late_held blank (is_opening w p e) e

-- and those sessions are offered after the others
abbrev pub more_at : {P Q : Type 0} → WorldAt P Q → ℕ → ℕ → List ℕ
more_at w p q = opened_in (bodies (w.lanes q p))

-- no party has a record of an end in an Open to it
abbrev pub AreBare : {P Q : Type 0} → WorldAt P Q → Type 0
AreBare w = (p : ℕ) (e : EndId) → is_opening w p e ≡ true → (w.nodes p).main e ≡ None

-- u is w, read so
pub record IsReading {P Q : Type 0} (blank : P) (u w : WorldAt P Q) : Type 0 where
  pub nodes : (p : ℕ) → IsReadAs (late_at blank w p) (more_at w p) (u.nodes p) (w.nodes p)
  pub clocks : (p : ℕ) → (u.nodes p).clock ≡ (w.nodes p).clock
  pub lanes : (from to : ℕ) → u.lanes from to ≡ without_opens (w.lanes from to)

module _ {P Q : Type 0} (blank : P) where
  -- an end that isn't in an Open isn't late
  pub not_late : (w : WorldAt P Q) (p : ℕ) (e : EndId) → is_opening w p e ≡ false → late_at blank w p e ≡ None
  not_late w p e i = ap (λ b. late_held blank b e) i

  -- the reading is
  pub reading_reads : (w : WorldAt P Q) → AreBare w → IsReading blank (reading blank w) w
  reading_reads w bare = record {
    nodes = λ p. record {
      mains = λ e. by p e (is_opening w p e);
      olds = λ e. refl;
      program = refl;
      requests = refl;
      offers = λ q. refl;
      bare = λ e h l. at p e h (is_opening w p e) refl l;
    };
    clocks = λ p. refl;
    lanes = λ from to. refl;
  }
    where
      by : (p : ℕ) (e : EndId) (b : Bool) → (if b then Some (Held (new_held e blank (opener_of e.sess))) else (w.nodes p).main e) ≡ read_main (late_held blank b e) ((w.nodes p).main e)
      by p e true = refl
      by p e false = refl

      at : (p : ℕ) (e : EndId) (h : HeldAt P) (b : Bool) → is_opening w p e ≡ b → late_held blank b e ≡ Some h → (w.nodes p).main e ≡ None
      at p e h true i l = bare p e i
      at p e h false i l = absurd (cc l)

  -- what is late is the same in two worlds with the same Opens
  read_like : (w v : WorldAt P Q) (p : ℕ) → OpensSame v.lanes w.lanes → (m n : NodeAt P Q) → IsReadAs (late_at blank w p) (more_at w p) m n → IsReadAs (late_at blank v p) (more_at v p) m n
  read_like w v p same m n r = record {
    mains = λ e. r.mains e ∙ ap (λ b. read_main (late_held blank b e) (n.main e)) (sym (same.opens (opener_of e.sess) p e));
    olds = r.olds;
    program = r.program;
    requests = r.requests;
    offers = λ q. r.offers q ∙ ap (λ l. n.offers q ++ l) (sym (same.opened q p));
    bare = λ e h l. r.bare e h (ap (λ b. late_held blank b e) (sym (same.opens (opener_of e.sess) p e)) ∙ l);
  }

  -- two outcomes: no event fits, or the one world is the other, read so
  abbrev pub WorldsAgree : Option (WorldAt P Q) → Option (WorldAt P Q) → Type 0
  WorldsAgree None None = ⊤
  WorldsAgree (Some u) (Some v) = IsReading blank u v
  WorldsAgree None (Some v) = ⊥
  WorldsAgree (Some u) None = ⊥

  module _ (u w : WorldAt P Q) (reads : IsReading blank u w) (p : ℕ) (ulanes wlanes : ℕ → ℕ → List (FrameAt P)) (same : OpensSame wlanes w.lanes) (without : (from to : ℕ) → ulanes from to ≡ without_opens (wlanes from to)) where
    -- after a rule that does the same at both and posts no Open
    after_reads : (clock : ℕ) (a b : Worked P (NodeAt P Q)) → AreUnopened b.posts → a.posts ≡ b.posts → IsReadAs (late_at blank w p) (more_at w p) a.state b.state →
        IsReading blank (after_event u p clock ulanes a) (after_event w p clock wlanes b)
    after_reads clock a b none posts state = record { nodes = λ k. by k (k == p) refl; clocks = λ k. at k (k == p); lanes = λ from to. lane from to }
      where
        v : WorldAt P Q
        v = after_event w p clock wlanes b

        all : OpensSame v.lanes w.lanes
        all = record {
          opens = λ from to e. (posted_same p clock b.posts wlanes none).opens from to e ∙ same.opens from to e;
          opened = λ from to. (posted_same p clock b.posts wlanes none).opened from to ∙ same.opened from to;
        }

        clocked : (m n : NodeAt P Q) → IsReadAs (late_at blank w p) (more_at w p) m n → IsReadAs (late_at blank w p) (more_at w p) (record m { clock = clock }) (record n { clock = clock })
        clocked m n r = record { mains = r.mains; olds = r.olds; program = r.program; requests = r.requests; offers = r.offers; bare = r.bare }

        by : (k : ℕ) (z : Bool) → (k == p) ≡ z → IsReadAs (late_at blank v k) (more_at v k) (if z then record a.state { clock = clock } else u.nodes k) (if z then record b.state { clock = clock } else w.nodes k)
        by k true i =
            let j : k ≡ p = eqb-true k p i in
            subst (λ n. IsReadAs (late_at blank v n) (more_at v n) (record a.state { clock = clock }) (record b.state { clock = clock })) (sym j) (read_like w v p all _ _ (clocked a.state b.state state))
        by k false i = read_like w v k all _ _ (reads.nodes k)

        at : (k : ℕ) (z : Bool) → (if z then record a.state { clock = clock } else u.nodes k).clock ≡ (if z then record b.state { clock = clock } else w.nodes k).clock
        at k true = refl
        at k false = reads.clocks k

        lane : (from to : ℕ) → lanes_with p clock a.posts ulanes from to ≡ without_opens (lanes_with p clock b.posts wlanes from to)
        lane from to = ap (λ l. lanes_with p clock l ulanes from to) posts ∙ ap (λ (l : ℕ → ℕ → List (FrameAt P)). lanes_with p clock b.posts l from to) (λ i x y. without x y i) ∙ sym (posted_without p clock b.posts wlanes none from to)

    -- where both rules do the same
    agree_after : (clock : ℕ) (a b : Option (Worked P (NodeAt P Q))) → PostsNone b → Agree (late_at blank w p) (more_at w p) a b → WorldsAgree (option_map (after_event u p clock ulanes) a) (option_map (after_event w p clock wlanes) b)
    agree_after clock None None none agree = tt
    agree_after clock (Some a) (Some b) none agree = after_reads clock a b none agree.0 agree.1
    agree_after clock None (Some b) none agree = absurd agree
    agree_after clock (Some a) None none agree = absurd agree

  module _ (play : Play P Q) (pick : ℕ → ℕ → ℕ) (u w : WorldAt P Q) (reads : IsReading blank u w) where
    -- an act that opens and accepts no session, on ends that are in no Open, is the same on both
    pub act_read : (p : ℕ) → WantsNoLate (late_at blank w p) (more_at w p) (w.nodes p) (play.wants (w.nodes p).program) → OpensNone play (play.wants (w.nodes p).program) →
        WorldsAgree (happens play pick u p Act) (happens play pick w p Act)
    act_read p wants old =
        subst (λ (c : ℕ). WorldsAgree (option_map (after_event u p (c + 1) u.lanes) (acts play p (u.nodes p))) (happens play pick w p Act)) (sym (reads.clocks p))
        (agree_after u w reads p u.lanes w.lanes (record { opens = λ from to e. refl; opened = λ from to. refl }) reads.lanes ((w.nodes p).clock + 1) (acts play p (u.nodes p)) (acts play p (w.nodes p))
        (acts_none play p (w.nodes p) old) (acts_agree (late_at blank w p) (more_at w p) play p (u.nodes p) (w.nodes p) (reads.nodes p) wants))

    -- so is the delivery of a frame that is no Open, about an end that is in no Open to that party
    pub delivery_read : (q p : ℕ) (f : FrameAt P) (rest : List (FrameAt P)) → w.lanes q p ≡ f ∷ rest → is_open f.body ≡ false → is_opening w p (subject_of f.body) ≡ false →
        WorldsAgree (happens play pick u p (Deliver q)) (happens play pick w p (Deliver q))
    delivery_read q p f rest front plain there = rw (lane, front) both
      where
        lane : u.lanes q p ≡ f ∷ without_opens rest
        lane = reads.lanes q p ∙ ap without_opens front ∙ front_without f rest plain

        comes_alike : Agree (late_at blank w p) (more_at w p) (comes_or_opens play.blank pick (u.nodes p) q f.body) (comes_or_opens play.blank pick (w.nodes p) q f.body)
        comes_alike =
            subst (λ o. Agree (late_at blank w p) (more_at w p) o (comes_or_opens play.blank pick (w.nodes p) q f.body)) (sym (comes_unopened play.blank pick (u.nodes p) q f.body plain))
            (subst (λ o. Agree (late_at blank w p) (more_at w p) (comes pick (u.nodes p) q f.body) o) (sym (comes_unopened play.blank pick (w.nodes p) q f.body plain))
            (comes_agrees (late_at blank w p) (more_at w p) pick (u.nodes p) (w.nodes p) (reads.nodes p) q f.body (not_late w p (subject_of f.body) there)))

        none : PostsNone (comes_or_opens play.blank pick (w.nodes p) q f.body)
        none = subst PostsNone (sym (comes_unopened play.blank pick (w.nodes p) q f.body plain)) (comes_none pick (w.nodes p) q f.body)

        after : (k : Bool) → WorldsAgree (option_map (after_event u p (max (w.nodes p).clock f.clock + 1) (with_lane q p (without_opens rest) u.lanes)) (if k then comes_or_opens play.blank pick (u.nodes p) q f.body else None))
            (option_map (after_event w p (max (w.nodes p).clock f.clock + 1) (with_lane q p rest w.lanes)) (if k then comes_or_opens play.blank pick (w.nodes p) q f.body else None))
        after true =
            agree_after u w reads p (with_lane q p (without_opens rest) u.lanes) (with_lane q p rest w.lanes) (popped_same q p f rest w.lanes front plain)
            (λ from to. ap (λ (l : ℕ → ℕ → List (FrameAt P)). with_lane q p (without_opens rest) l from to) (λ i x y. reads.lanes x y i) ∙ sym (set_without q p rest w.lanes from to))
            (max (w.nodes p).clock f.clock + 1) (comes_or_opens play.blank pick (u.nodes p) q f.body) (comes_or_opens play.blank pick (w.nodes p) q f.body) none comes_alike
        after false = tt

        both : WorldsAgree (delivery_of play pick u p q (f ∷ without_opens rest)) (delivery_of play pick w p q (f ∷ rest))
        both =
            subst (λ (c : ℕ). WorldsAgree (option_map (after_event u p (max c f.clock + 1) (with_lane q p (without_opens rest) u.lanes)) (arrives play.blank play.parties pick (u.nodes p) q f)) (delivery_of play pick w p q (f ∷ rest))) (sym (reads.clocks p))
            (after (is_proper play.parties f))
