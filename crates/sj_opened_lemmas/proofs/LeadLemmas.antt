-- Opens lead in a lane, once others were posted after them.
use Rattle.std.proofs.Common.{◌≡◌, ℕ, List, [], ◌∷◌, ◌++◌, sym, subst, ◌∙◌}
use Rattle.std.specs.Prelude.{Bool, true, false, ◌&&◌, ◌==◌, if◌then◌else◌}
use Rattle.sj_base.specs.declared.EndId.{EndId}
use Rattle.sj_rules.specs.Record.{Mail}
use Rattle.sj_rules.specs.Opened.{opens}
use Rattle.sj_rules.specs.Frames.{FrameAt, frames_for}
use Rattle.sj_rules.specs.World.{with_lane, lanes_with}
use Rattle.sj_rules.specs.Shown.{bodies}
use Rattle.sj_rules.specs.Linked.{subject_of}
use Rattle.sj_rules.specs.Reading.{OpensLead}
use Rattle.sj_opened_lemmas.proofs.PostedLemmas.{AreUnopened}
use Rattle.sj_opened_lemmas.proofs.LaneReadLemmas.{first_frame, posts_open, behind_opens}

module _ {P : Type 0} where
  -- with others after them that hold none of its Opens
  pub lead_append : (fs gs : List (FrameAt P)) → OpensLead (bodies fs) → ((e : EndId) → opens e (bodies gs) ≡ false) → OpensLead (bodies gs) → OpensLead (bodies (fs ++ gs))
  lead_append [] gs a none b = b
  lead_append (f ∷ fs) gs a none b = (behind_opens (subject_of f.body) fs gs (none (subject_of f.body)) ∙ a.0, lead_append fs gs a.1 none b)

  lead_more : (b : Bool) (clock : ℕ) (m : Mail P) (fs : List (FrameAt P)) → opens (subject_of m.body) (bodies fs) ≡ false → OpensLead (bodies fs) → OpensLead (bodies (if b then record { clock = clock; body = m.body } ∷ fs else fs))
  lead_more true clock m fs i a = (i, a)
  lead_more false clock m fs i a = a

  -- frames that are no Opens
  lead_posts : (to clock : ℕ) (posts : List (Mail P)) → AreUnopened posts → OpensLead (bodies (frames_for to clock posts))
  lead_posts to clock [] u = tt
  lead_posts to clock (m ∷ ms) u =
      subst (λ l. OpensLead (bodies l)) (sym (first_frame to clock m ms))
      (lead_more (to == m.party) clock m (frames_for to clock ms) (posts_open (subject_of m.body) to clock ms u.1) (lead_posts to clock ms u.1))

  -- so in all lanes once such frames were posted
  pub lead_posted : (p clock : ℕ) (posts : List (Mail P)) (lanes : ℕ → ℕ → List (FrameAt P)) → AreUnopened posts → ((from to : ℕ) → OpensLead (bodies (lanes from to))) → (from to : ℕ) → OpensLead (bodies (lanes_with p clock posts lanes from to))
  lead_posted p clock posts lanes u lead from to = by (from == p)
    where
      by : (b : Bool) → OpensLead (bodies (if b then lanes from to ++ frames_for to clock posts else lanes from to))
      by true = lead_append (lanes from to) (frames_for to clock posts) (lead from to) (λ e. posts_open e to clock posts u) (lead_posts to clock posts u)
      by false = lead from to

  -- and once the front frame was taken
  pub lead_popped : (q p : ℕ) (f : FrameAt P) (rest : List (FrameAt P)) (lanes : ℕ → ℕ → List (FrameAt P)) → lanes q p ≡ f ∷ rest → ((from to : ℕ) → OpensLead (bodies (lanes from to))) → (from to : ℕ) → OpensLead (bodies (with_lane q p rest lanes from to))
  lead_popped q p f rest lanes front lead from to = by ((from == q) && (to == p))
    where
      by : (b : Bool) → OpensLead (bodies (if b then rest else lanes from to))
      by true = (subst (λ l. OpensLead (bodies l)) front (lead q p)).1
      by false = lead from to
