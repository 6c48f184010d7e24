-- The session message of a Parked end is taken, at the world's level.
use Rattle.std.proofs.Common.{◌≡◌, ℕ, ◌<◌, List, [], ◌∷◌, ◌++◌, refl, ◌∙◌}
use Rattle.std.specs.Prelude.{Bool, true, false, ◌&&◌, ◌==◌, if◌then◌else◌, Some}
use Rattle.std.proofs.lemmas.Bool.{eq-eqb}
use Rattle.sj_base.specs.declared.EndId.{EndId}
use Rattle.sj_rules.specs.Record.{EndAt, BodyAt, Claim, Mail, Expected, other_end}
use Rattle.sj_rules.specs.Node.{NodeAt, with_main}
use Rattle.sj_rules.specs.World.{WorldAt}
use Rattle.sj_rules.specs.Seat.{parked, claimed, Side, side_of}
use Rattle.sj_rules.specs.Shown.{Shows, goes_to, is_claim, is_give, main_shown, old_shown}
use Rattle.sj_rules.specs.PlainSide.{PlainSide}
use Rattle.sj_rules.specs.Numbers.{Pace}
use Rattle.sj_rules.specs.Invariant.{IsSound}
use Rattle.sj_world_lemmas.proofs.LaneLemmas.{post_seen}
use Rattle.sj_world_lemmas.proofs.TableLemmas.{with_tables, mains_after, olds_after}
use Rattle.sj_world_lemmas.proofs.PostLemmas.{with_posts, posts_apart, unseen_posts, sent_cons}
use Rattle.sj_world_lemmas.proofs.OutcomeLemmas.{Outcome}
use Rattle.sj_world_lemmas.proofs.EventLemmas.{same_end, not_other, shown_beside}
use Rattle.sj_world_lemmas.proofs.QuietLemmas.{same_source}
use Rattle.sj_world_lemmas.proofs.ActLemmas.{OwnTables, acted, other_tabled}

-- the session message of a parked end is taken
module _ {P Q : Type 0} (IsOver : P → Type 0) (w : WorldAt P Q) (clock : ℕ) (id : EndId) (low : id.side < 2) (x y : PlainSide P) (s : Side P) (place : P) (old live : List (BodyAt P)) (pace : Pace)
    (b u : ℕ) (e : EndAt P) (m : NodeAt P Q) (mains : (d : EndId) → m.main d ≡ (w.nodes u).main d) (olds : (d : EndId) → m.old d ≡ (w.nodes u).old d)
    (shows : Shows w s.seat (side_of id place (parked b e) old live)) (shown : Shows w (parked b e) s)
    (others : s.id ≡ other_end id) where
  -- the tables with the new Expected record
  abbrev claiming : NodeAt P Q
  claiming = with_main id (Some (Expected b place [])) m

  -- the Claim for the keeper
  abbrev claims_posted : List (Mail P)
  claims_posted = record { party = b; body = Claim id } ∷ []

  -- the end is claimed
  claimed_shows : Shows (with_posts (with_tables w u clock claiming) u clock claims_posted) s.seat (side_of id place (claimed b u e) old live)
  claimed_shows = record {
    mains = mains_after w u clock claiming id (main_shown 0 place (claimed b u e)) (rw (same_end id, eq-eqb u u refl) refl) (λ p i. shows.mains p ∙ rw i refl);
    olds = olds_after w u clock claiming id (old_shown (claimed b u e)) (olds id ∙ shows.olds u) (λ p i. shows.olds p);
    frames = λ p q c. unseen_posts (with_tables w u clock claiming) u clock claims_posted (goes_to id c) (refl, tt) p q ∙ shows.frames p q c ∙ rw (same_source s.seat (claimed b u e) (parked b e) refl) refl;
    claims = λ p q. post_seen (is_claim id) u clock claims_posted w.lanes p q ∙ rw (shows.claims p q, sent_cons (is_claim {P = P} id) q (record { party = b; body = Claim id }) [], same_end id) (by (p == u) (q == b));
    gives = λ p q. unseen_posts (with_tables w u clock claiming) u clock claims_posted (is_give id) (refl, tt) p q ∙ shows.gives p q;
  }
    where
      by : (k l : Bool) → ◌≡◌ {A = List (BodyAt P)} ([] ++ (if k then (if l && true then Claim id ∷ [] else []) ++ [] else [])) (if k && l then Claim id ∷ [] else [])
      by true true = refl
      by true false = refl
      by false l = refl

  -- the end is claimed, and its Claim is on the way
  pub claims_end : IsSound IsOver pace x y s (side_of id place (claimed b u e) old live) →
      Outcome IsOver w (with_posts (with_tables w u clock claiming) u clock claims_posted) id pace x y s (side_of id place (claimed b u e) old live)
  claims_end sound1 =
      let own : OwnTables id (w.nodes u) claiming = record { mains = λ d i. rw i (mains d); olds = λ d i. olds d } in
      acted IsOver w u clock claiming claims_posted id low own (refl, tt) (low, tt) pace x y s (side_of id place (claimed b u e) old live) refl others sound1 claimed_shows
      (posts_apart (with_tables w u clock claiming) u clock claims_posted (claimed b u e) s (rw others (not_other id low), tt)
      (shown_beside _ (parked b e) (claimed b u e) s refl (other_tabled IsOver w u clock claiming claims_posted id low own (parked b e) s others shown)))
