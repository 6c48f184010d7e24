-- What a step leaves that requests or accepts a session.
use Rattle.std.proofs.Common.{◌≡◌, ℕ, List, [], ◌∷◌, slice_get, Some, refl, ap, sym, ◌∙◌, subst, inl, inr}
use Rattle.std.specs.Bool.{⊤}
use Rattle.std.proofs.lemmas.Bool.{cases_eq}
use Rattle.sj_base.specs.declared.EndId.{EndId}
use Rattle.sj_lang.specs.Place.{Place}
use Rattle.sj_lang.specs.Dual.{dual_of}
use Rattle.sj_lang.specs.Meet.{StandsFor}
use Rattle.sj_lang.proofs.MeetLemmas.{meets_dual}
use Rattle.sj_lang.specs.FileAt.{ProtocolAt, body_named, named}
use Rattle.sj_semantics.specs.Program.{Program}
use Rattle.sj_semantics.specs.Steps.{opened_of}
use Rattle.sj_semantics.specs.World.{World}
use Rattle.sj_semantics.specs.Ends.{Session, EndAt, other_end, nowhere, end_at}
use Rattle.sj_semantics.specs.Uses.{Use, begins, end_after, after_uses}
use Rattle.sj_semantics_laws.specs.Bound.{IsBound}
use Rattle.sj_semantics_laws.specs.Unshared.{IsUnshared, IsToCome}
use Rattle.sj_semantics_laws.proofs.BoundLemmas.{named_is_bound}
use Rattle.sj_semantics_laws.proofs.EndLemmas.{touched, IsUnusedBy, end_at-touched_other, end_at-after_uses_other}
use Rattle.sj_headline_laws.proofs.TypedLemmas.{OpeningFits, KeepsPlaces}
use Rattle.sj_headline_laws.proofs.LeadLemmas.{coming, Pair}
use Rattle.sj_headline_laws.proofs.BeginPairLemmas.{pair_begins, pair_unused}
use Rattle.sj_headline_laws.proofs.PairLemmas.{AllKept, pair_kept}
use Rattle.sj_headline_laws.proofs.TouchedLemmas.{side, PairAt, touched_here, same_session, other_session_other_end}
use Rattle.sj_headline_laws.proofs.UnnamedLemmas.{unnamed, keeps_by_name, all_kept, pairs_after, come_uncarried, come_apart}
use Rattle.sj_headline_laws.proofs.AfterLemmas.{AllPairs, After}

-- each of the ends that are used is to come
abbrev AllToCome : World → List (EndId × Use) → Type 0
AllToCome w [] = ⊤
AllToCome w (u ∷ us) = IsToCome w u.0 × AllToCome w us

module _ (ps : List ProtocolAt) (parties : List ℕ) (w : World) (p : ℕ) (g : Program) (one : IsUnshared w) (pairs : AllPairs w.sessions) (there : slice_get w.parties p ≡ Some g) where
  bound_name : (x : ℕ) (e : EndId) → named g.ends x ≡ Some e → IsBound e g.ends
  bound_name x e h = named_is_bound g.ends x e h

  kept_by_come : (f : EndId) (us : List (EndId × Use)) → IsBound f g.ends → AllToCome w us → IsUnusedBy f us
  kept_by_come f [] b come = tt
  kept_by_come f (u ∷ us) b come = (come_apart w p g u.0 f one there b come.0, kept_by_come f us b come.1)

  come_keeps : (us : List (EndId × Use)) → AllToCome w us → KeepsPlaces g.ends w.sessions (after_uses p us w.sessions)
  come_keeps us come n f h = ap (λ t. t.place) (end_at-after_uses_other p us w.sessions f (kept_by_come f us (bound_name n f h) come))

  pub after_accepting : (n s : ℕ) → IsToCome w (side s 1) → StandsFor (end_at w.sessions (side s 1)).place (body_named ps n) → OpeningFits ps parties w.sessions g n
      → After ps parties (touched p w.sessions (side s 1, begins (body_named ps n))) (opened_of g (side s 1))
  after_accepting n s come stands o =
      let y : EndId = side s 1 in
      let place : Place = body_named ps n in
      let new : List Session = touched p w.sessions (y, begins place) in
      record {
        pairs = pairs_after p w.sessions y (begins place) (come_uncarried w y one come) pairs (λ pair. pair_begins new (end_at w.sessions y) (end_at w.sessions (other_end y)) p place pair stands);
        own = o.onward new y (come_keeps ((y, begins place) ∷ []) (come, tt)) (ap (λ t. t.place) (touched_here p w.sessions y (begins place)));
      }

  -- both ends of a session that isn't there begin, at a place and at its dual
  module _ (n s : ℕ) (come : (d : ℕ) → IsToCome w (side s d)) (unused : (d : ℕ) → end_at w.sessions (side s d) ≡ nowhere) where
    abbrev place : Place
    place = body_named ps n

    abbrev begun : List Session
    begun = touched p w.sessions (side s 0, begins place)

    abbrev pub both : List Session
    both = touched p begun (side s 1, begins (dual_of place))

    first_is : end_at both (side s 0) ≡ end_after p (begins place) nowhere
    first_is =
        end_at-touched_other p begun (side s 1, begins (dual_of place)) (side s 0) (same_session s 1 0 refl)
        ∙ touched_here p w.sessions (side s 0) (begins place) ∙ ap (end_after p (begins place)) (unused 0)

    pub second_is : end_at both (side s 1) ≡ end_after p (begins (dual_of place)) nowhere
    second_is =
        touched_here p begun (side s 1) (begins (dual_of place))
        ∙ ap (end_after p (begins (dual_of place))) (end_at-touched_other p w.sessions (side s 0, begins place) (side s 1) (same_session s 0 1 refl) ∙ unused 1)

    new_pair : PairAt both both s
    new_pair =
        subst (λ (a : EndAt). Pair both a (end_at both (side s 1))) (sym first_is)
        (subst (λ (b : EndAt). Pair both (end_after p (begins place) nowhere) b) (sym second_is)
        (pair_unused both (end_after p (begins place) nowhere) (end_after p (begins (dual_of place)) nowhere) refl refl refl refl (meets_dual place)))

    -- what is on its way names neither
    kept_for : (f : EndId) → AllKept w.sessions begun (coming (end_at w.sessions f) (end_at w.sessions (other_end f)))
    kept_for f = all_kept p w.sessions (side s 0) f (begins place) (come_uncarried w (side s 0) one (come 0))

    kept_then : (f : EndId) → AllKept begun both (coming (end_at w.sessions f) (end_at w.sessions (other_end f)))
    kept_then f j x h = keeps_by_name p begun (side s 1) (begins (dual_of place)) x.msg (unnamed (side s 1) f w.sessions j x (come_uncarried w (side s 1) one (come 1)) h)

    other_end_kept : (t d : ℕ) → (s ≡ t → ⊥) → end_at both (side t d) ≡ end_at w.sessions (side t d)
    other_end_kept t d ne =
        end_at-touched_other p begun (side s 1, begins (dual_of place)) (side t d) (other_session_other_end s t 1 d ne)
        ∙ end_at-touched_other p w.sessions (side s 0, begins place) (side t d) (other_session_other_end s t 0 d ne)

    old_pair : (t : ℕ) → (s ≡ t → ⊥) → PairAt both both t
    old_pair t ne =
        let a = end_at w.sessions (side t 0) in
        let b = end_at w.sessions (side t 1) in
        subst (λ (c : EndAt). Pair both c (end_at both (side t 1))) (sym (other_end_kept t 0 ne))
        (subst (λ (c : EndAt). Pair both a c) (sym (other_end_kept t 1 ne))
        (pair_kept begun both a b (kept_then (side t 0)) (kept_then (side t 1)) (pair_kept w.sessions begun a b (kept_for (side t 0)) (kept_for (side t 1)) (pairs t))))

    pub after_requesting : OpeningFits ps parties w.sessions g n → After ps parties both (opened_of g (side s 0))
    after_requesting o = record {
      pairs = λ t. elim (cases_eq s t) [
        | inl it ↦ subst (PairAt both both) it new_pair
        | inr other ↦ old_pair t other
      ];
      own = o.onward both (side s 0) (come_keeps ((side s 0, begins place) ∷ (side s 1, begins (dual_of place)) ∷ []) (come 0, (come 1, tt))) (ap (λ t. t.place) first_is);
    }
