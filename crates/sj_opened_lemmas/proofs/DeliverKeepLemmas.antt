-- A frame that is no Open is delivered: the world with Opens stays kept.
use Rattle.std.proofs.Common.{◌≡◌, ℕ, ◌+◌, ◌<◌, List, ◌∷◌, ◌++◌, refl, sym, ap, subst, ◌∙◌, max}
use Rattle.std.specs.Prelude.{Bool, true, false, ◌==◌, if◌then◌else◌, Option, Some, None, option_map}
use Rattle.std.proofs.lemmas.Bool.{eqb-true}
use Rattle.sj_base.specs.declared.EndId.{EndId}
use Rattle.sj_rules.specs.Record.{HeldAt, MainAt, Held, offered_end}
use Rattle.sj_rules.specs.Opened.{opener_of, new_held, is_open, opened_in}
use Rattle.sj_rules.specs.Frames.{FrameAt, is_proper}
use Rattle.sj_rules.specs.Rows.{Worked, IsPick}
use Rattle.sj_rules.specs.Node.{Play, NodeAt, comes, arrives}
use Rattle.sj_rules.specs.World.{WorldAt, Deliver, happens, after_event, with_lane}
use Rattle.sj_rules.specs.Shown.{bodies}
use Rattle.sj_rules.specs.PlainSide.{PlainAt}
use Rattle.sj_rules.specs.PlainChanges.{CountsHold}
use Rattle.sj_rules.specs.Linked.{IsKept, subject_of}
use Rattle.sj_rules.specs.Reading.{is_opening, without_opens, reading, OpensLead, IsOpenKept}
use Rattle.sj_rules.proofs.ArrivalLemmas.{arrived_comes}
use Rattle.sj_world_lemmas.proofs.FrontLemmas.{front_side}
use Rattle.sj_world_lemmas.proofs.RunKeeps.{front_always_fits}
use Rattle.sj_opened_lemmas.proofs.NodeReadLemmas.{read_main}
use Rattle.sj_opened_lemmas.proofs.PostedLemmas.{AreUnopened, PostsNone, comes_none}
use Rattle.sj_opened_lemmas.proofs.LaneReadLemmas.{OpensSame, popped_same, posted_same, front_without}
use Rattle.sj_opened_lemmas.proofs.WorldReadLemmas.{IsReading, late_held, reading_reads, WorldsAgree, delivery_read}
use Rattle.sj_opened_lemmas.proofs.StaysLemmas.{Stays, StaysBy, comes_stays}
use Rattle.sj_opened_lemmas.proofs.LeadLemmas.{lead_posted, lead_popped}
use Rattle.sj_opened_lemmas.proofs.OldKeepLemmas.{kept_like, front_apart}

-- a main record that is read, is one by the other spelling
pub read_is : {P : Type 0} → (blank : P) (b : Bool) (e : EndId) (r : Option (MainAt P)) → (if b then Some (Held (new_held e blank (opener_of e.sess))) else r) ≡ read_main (late_held blank b e) r
read_is blank true e r = refl
read_is blank false e r = refl

-- one that isn't there is read as none only where no Open holds the end
pub read_none : {P : Type 0} → (blank : P) (b : Bool) (e : EndId) (r : Option (MainAt P)) → (if b then Some (Held (new_held e blank (opener_of e.sess))) else r) ≡ None → (b ≡ false) × (r ≡ None)
read_none blank true e r i = absurd (cc i)
read_none blank false e r i = (refl, i)

module _ {P Q : Type 0} (IsOver : P → Type 0) (binds : Q → EndId → Bool) (blank : P) (w : WorldAt P Q) (plain : PlainAt P Q) (kept : IsOpenKept IsOver binds blank w plain)
    (u : WorldAt P Q) (p clock : ℕ) (lanes : ℕ → ℕ → List (FrameAt P)) (done : Worked P (NodeAt P Q)) where
  -- the world after a rule that opens and accepts nothing is kept, where the world read so is
  pub stays_open_kept : OpensSame lanes w.lanes → ((from to : ℕ) → OpensLead (bodies (lanes from to))) → AreUnopened done.posts → Stays (w.nodes p) done.state →
      IsReading blank u (after_event w p clock lanes done) → IsKept IsOver binds u plain → IsOpenKept IsOver binds blank (after_event w p clock lanes done) plain
  stays_open_kept same_lanes lead none stays read ukept = record {
    kept = kept_like IsOver binds (reading blank v) u plain (record {
      mains = λ k e. read_is blank (is_opening v k e) e ((v.nodes k).main e) ∙ sym ((read.nodes k).mains e);
      olds = λ k e. sym ((read.nodes k).olds e);
      lanes = λ from to. ap bodies (sym (read.lanes from to));
    }) (λ k. sym (read.nodes k).program) ukept;
    requests = λ k. by_requests k (k == p) refl ∙ kept.requests k;
    offers = λ from k. ap (λ l. (v.nodes k).offers from ++ l) (all.opened from k) ∙ ap (λ l. l ++ opened_in (bodies (w.lanes from k))) (by_offers k from (k == p) refl) ∙ kept.offers from k;
    rising = kept.rising;
    openers = kept.openers;
    below = kept.below;
    offered = kept.offered;
    held = λ from k s c. let h : (h : HeldAt P) × (((reading blank w).nodes k).main (offered_end s) ≡ Some (Held h)) = kept.held from k s c in by_held k (offered_end s) h.0 (is_opening w k (offered_end s)) refl h.1;
    unbound = kept.unbound;
    lead = lead_posted p clock done.posts lanes none lead;
    bare = λ k e i. (read.nodes k).bare e (new_held e blank (opener_of e.sess)) (ap (λ b. late_held blank b e) i);
    unopened = λ s n k e is low.
        let a : (((reading blank w).nodes k).main e ≡ None) × ((w.nodes k).old e ≡ None) = kept.unopened s n k e is low in
        let c : (is_opening w k e ≡ false) × ((w.nodes k).main e ≡ None) = read_none blank (is_opening w k e) e ((w.nodes k).main e) a.0 in
        by_absent k e (all.opens (opener_of e.sess) k e ∙ c.0) c.1 a.1 (k == p) refl;
  }
    where
      v : WorldAt P Q
      v = after_event w p clock lanes done

      all : OpensSame v.lanes w.lanes
      all = record {
        opens = λ from to e. (posted_same p clock done.posts lanes none).opens from to e ∙ same_lanes.opens from to e;
        opened = λ from to. (posted_same p clock done.posts lanes none).opened from to ∙ same_lanes.opened from to;
      }

      by_requests : (k : ℕ) (b : Bool) → (k == p) ≡ b → (if b then record done.state { clock = clock } else w.nodes k).requests ≡ (w.nodes k).requests
      by_requests k true i = let at : k ≡ p = eqb-true k p i in rw at stays.requests
      by_requests k false i = refl

      by_offers : (k from : ℕ) (b : Bool) → (k == p) ≡ b → (if b then record done.state { clock = clock } else w.nodes k).offers from ≡ (w.nodes k).offers from
      by_offers k from true i = let at : k ≡ p = eqb-true k p i in rw at (stays.offers from)
      by_offers k from false i = refl

      still_held : (k : ℕ) (e : EndId) (h : HeldAt P) → (w.nodes k).main e ≡ Some (Held h) → (b : Bool) → (k == p) ≡ b → (g : HeldAt P) × ((if b then record done.state { clock = clock } else w.nodes k).main e ≡ Some (Held g))
      still_held k e h i true j = let at : k ≡ p = eqb-true k p j in stays.held e h (sym (ap (λ n. (w.nodes n).main e) at) ∙ i)
      still_held k e h i false j = (h, i)

      by_held : (k : ℕ) (e : EndId) (h : HeldAt P) (b : Bool) → is_opening w k e ≡ b → (if b then Some (Held (new_held e blank (opener_of e.sess))) else (w.nodes k).main e) ≡ Some (Held h) → (g : HeldAt P) × (((reading blank v).nodes k).main e ≡ Some (Held g))
      by_held k e h true i l = let o : is_opening v k e ≡ true = all.opens (opener_of e.sess) k e ∙ i in (new_held e blank (opener_of e.sess), rw o refl)
      by_held k e h false i l =
          let o : is_opening v k e ≡ false = all.opens (opener_of e.sess) k e ∙ i in
          let g : (g : HeldAt P) × ((v.nodes k).main e ≡ Some (Held g)) = still_held k e h l (k == p) refl in
          (g.0, rw o g.1)

      by_absent : (k : ℕ) (e : EndId) → is_opening v k e ≡ false → (w.nodes k).main e ≡ None → (w.nodes k).old e ≡ None → (b : Bool) → (k == p) ≡ b → (((reading blank v).nodes k).main e ≡ None) × ((v.nodes k).old e ≡ None)
      by_absent k e o i j true l =
          let at : k ≡ p = eqb-true k p l in
          let a : (done.state.main e ≡ None) × (done.state.old e ≡ None) = stays.absent e (sym (ap (λ n. (w.nodes n).main e) at) ∙ i) (sym (ap (λ n. (w.nodes n).old e) at) ∙ j) in
          (rw (o, l) a.0, rw l a.1)
      by_absent k e o i j false l = (rw (o, l) i, rw l j)

module _ {P Q : Type 0} (IsOver : P → Type 0) (binds : Q → EndId → Bool) (play : Play P Q) (w : WorldAt P Q) (plain : PlainAt P Q) (kept : IsOpenKept IsOver binds play.blank w plain) where
  -- what was done where a frame was delivered
  delivered : (pick : ℕ → ℕ → ℕ) (q p : ℕ) (f : FrameAt P) (rest : List (FrameAt P)) → w.lanes q p ≡ f ∷ rest → is_open f.body ≡ false → (v : WorldAt P Q) → happens play pick w p (Deliver q) ≡ Some v →
      (done : Worked P (NodeAt P Q)) × (comes pick (w.nodes p) q f.body ≡ Some done) × (v ≡ after_event w p (max (w.nodes p).clock f.clock + 1) (with_lane q p rest w.lanes) done)
  delivered pick q p f rest front plain_frame v e = by (arrives play.blank play.parties pick (w.nodes p) q f) refl (rw front at e)
    where
      by : (o : Option (Worked P (NodeAt P Q))) → arrives play.blank play.parties pick (w.nodes p) q f ≡ o → option_map (after_event w p (max (w.nodes p).clock f.clock + 1) (with_lane q p rest w.lanes)) o ≡ Some v →
          (done : Worked P (NodeAt P Q)) × (comes pick (w.nodes p) q f.body ≡ Some done) × (v ≡ after_event w p (max (w.nodes p).clock f.clock + 1) (with_lane q p rest w.lanes) done)
      by None i l = absurd (cc l)
      by (Some done) i l = (done, arrived_comes play.blank play.parties pick (w.nodes p) q f done i plain_frame, sym (cc l))

  -- the front frame of a lane, where it is no Open and within the limits, fits a row, and the world
  -- stays kept
  pub old_front_fits : (pick : ℕ → ℕ → ℕ) → IsPick pick → CountsHold plain → (q p : ℕ) (f : FrameAt P) (rest : List (FrameAt P)) → w.lanes q p ≡ f ∷ rest → is_open f.body ≡ false → is_proper play.parties f ≡ true →
      (v : WorldAt P Q) × (happens play pick w p (Deliver q) ≡ Some v) × IsOpenKept IsOver binds play.blank v plain
  old_front_fits pick picks counts q p f rest front plain_frame proper = by (happens play pick w p (Deliver q)) refl agree
    where
      u : WorldAt P Q
      u = reading play.blank w

      reads : IsReading play.blank u w
      reads = reading_reads play.blank w kept.bare

      ufront : u.lanes q p ≡ f ∷ without_opens rest
      ufront = ap without_opens front ∙ front_without f rest plain_frame

      after : (u' : WorldAt P Q) × (happens play pick u p (Deliver q) ≡ Some u') × IsKept IsOver binds u' plain
      after = front_always_fits IsOver binds play pick picks u plain kept.kept counts q p f (without_opens rest) ufront plain_frame proper

      low : (subject_of f.body).side < 2
      low = front_side (u.lanes q p) f (without_opens rest) ufront (kept.kept.sessions.proper q p)

      agree : WorldsAgree play.blank (Some after.0) (happens play pick w p (Deliver q))
      agree = subst (λ o. WorldsAgree play.blank o (happens play pick w p (Deliver q))) after.1 (delivery_read play.blank play pick u w reads q p f rest front plain_frame (front_apart IsOver binds play.blank w plain kept q p f rest front ufront plain_frame low))

      keeps : (v : WorldAt P Q) → happens play pick w p (Deliver q) ≡ Some v → IsReading play.blank after.0 v → IsOpenKept IsOver binds play.blank v plain
      keeps v e read =
          let d : (done : Worked P (NodeAt P Q)) × (comes pick (w.nodes p) q f.body ≡ Some done) × (v ≡ after_event w p (max (w.nodes p).clock f.clock + 1) (with_lane q p rest w.lanes) done) = delivered pick q p f rest front plain_frame v e in
          let none : AreUnopened d.0.posts = subst PostsNone d.1 (comes_none pick (w.nodes p) q f.body) in
          let stays : Stays (w.nodes p) d.0.state = subst (StaysBy (w.nodes p)) d.1 (comes_stays (w.nodes p) pick q f.body) in
          subst (λ z. IsOpenKept IsOver binds play.blank z plain) (sym d.2)
          (stays_open_kept IsOver binds play.blank w plain kept after.0 p (max (w.nodes p).clock f.clock + 1) (with_lane q p rest w.lanes) d.0 (popped_same q p f rest w.lanes front plain_frame) (lead_popped q p f rest w.lanes front kept.lead) none stays
          (subst (λ z. IsReading play.blank after.0 z) d.2 read) after.2)

      by : (o : Option (WorldAt P Q)) → happens play pick w p (Deliver q) ≡ o → WorldsAgree play.blank (Some after.0) o → (v : WorldAt P Q) × (happens play pick w p (Deliver q) ≡ Some v) × IsOpenKept IsOver binds play.blank v plain
      by None e a = absurd a
      by (Some v) e a = (v, e, keeps v e a)
