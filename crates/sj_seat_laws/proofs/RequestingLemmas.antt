-- A request by the party leaves its world guarded, and each open end is where it can be.
use Rattle.std.proofs.Common.{◌≡◌, ℕ, ◌+◌, ◌<◌, ◌≤◌, false, List, [], ◌∷◌, ◌++◌, length, None, refl, ap, sym, ◌∙◌, subst, arith, inl, inr}
use Rattle.std.proofs.lemmas.Bool.{cases_Bool, cases_eq}
use Rattle.sj_base.specs.declared.EndId.{EndId}
use Rattle.sj_lang.specs.Dual.{dual_of}
use Rattle.sj_lang.specs.FileAt.{FileAt, body_named, number_of_name, party_names}
use Rattle.sj_lang.specs.Place.{Place}
use Rattle.sj_lang.proofs.MeetLemmas.{meets_dual}
use Rattle.sj_semantics.specs.Ends.{EndAt, Session, end_at, is_end, nowhere, other_end}
use Rattle.sj_semantics.specs.Requests.{Request, limit_of_requests, opened_number, requests}
use Rattle.sj_semantics.specs.Uses.{Use, begins, end_after}
use Rattle.sj_semantics.specs.World.{World}
use Rattle.sj_semantics_laws.specs.Unshared.{IsToCome, to_open}
use Rattle.sj_semantics_laws.proofs.BoundLemmas.{is_end_sym_false}
use Rattle.sj_semantics_laws.proofs.ClaimLemmas.{carried-begins, one_if}
use Rattle.sj_semantics_laws.proofs.EndLemmas.{IsUnusedBy, end_at-touched_other, touched}
use Rattle.sj_headline_laws.proofs.AfterLemmas.{AllPairs}
use Rattle.sj_headline_laws.proofs.BeginPairLemmas.{pair_unused}
use Rattle.sj_headline_laws.proofs.GoesLemmas.{came_from_other, held, offered, on_its_way}
use Rattle.sj_headline_laws.proofs.LeadLemmas.{Pair, coming}
use Rattle.sj_headline_laws.proofs.PairLemmas.{AllKept, pair_kept}
use Rattle.sj_headline_laws.proofs.RequestLemmas.{request_kept, request_there}
use Rattle.sj_headline_laws.proofs.TouchedLemmas.{PairAt, other_session_other_end, same_session, side, touched_here}
use Rattle.sj_headline_laws.proofs.UnnamedLemmas.{all_kept, come_uncarried, keeps_by_name, unnamed}
use Rattle.sj_headline_laws.proofs.WhereLemmas.{coming_stays}
use Rattle.sj_headline_laws.proofs.WorldLemmas.{Asks, Sound}
use Rattle.sj_seat_laws.specs.Calls.{Ends}
use Rattle.sj_seat_laws.specs.SeatedWorld.{no_name, world_opened}
use Rattle.sj_seat_laws.proofs.GuardLemmas.{Guarded}
use Rattle.sj_seat_laws.proofs.LocatedLemmas.{AllFound, IsFound}
use Rattle.sj_seat_laws.proofs.OpeningLemmas.{opened_is_guarded}

module _ (file : FileAt) (p : ℕ) (w : World) (sound : Sound file w) (few : length (w.requests p) < limit_of_requests) (n b q : ℕ) (asks : Asks file p n b) (to_it : number_of_name (party_names file.parties) b ≡ q) where
  abbrev s : ℕ
  s = opened_number p (length (w.requests p))

  abbrev place : Place
  place = body_named file.protocols n

  abbrev r : Request
  r = record { to = q; first = no_name; second = None }

  abbrev us : List (EndId × Use)
  us = (side s 0, begins place) ∷ (side s 1, begins (dual_of place)) ∷ []

  abbrev begun : List Session
  begun = touched p w.sessions (side s 0, begins place)

  abbrev both : List Session
  both = touched p begun (side s 1, begins (dual_of place))

  pub comes : (d : ℕ) → IsToCome w (side s d)
  comes d = to_open p (length (w.requests p)) (omega arith) few refl

  none : (d : ℕ) → end_at w.sessions (side s d) ≡ nowhere
  none d = sound.unopened p (length (w.requests p)) d (omega arith) few

  pub first_is : end_at both (side s 0) ≡ end_after p (begins place) nowhere
  first_is =
      end_at-touched_other p begun (side s 1, begins (dual_of place)) (side s 0) (same_session s 1 0 refl)
      ∙ touched_here p w.sessions (side s 0) (begins place) ∙ ap (end_after p (begins place)) (none 0)

  second_is : end_at both (side s 1) ≡ end_after p (begins (dual_of place)) nowhere
  second_is =
      touched_here p begun (side s 1) (begins (dual_of place))
      ∙ ap (end_after p (begins (dual_of place))) (end_at-touched_other p w.sessions (side s 0, begins place) (side s 1) (same_session s 0 1 refl) ∙ none 1)

  new_pair : PairAt both both s
  new_pair =
      subst (λ (a : EndAt). Pair both a (end_at both (side s 1))) (sym first_is)
      (subst (λ (c : EndAt). Pair both (end_after p (begins place) nowhere) c) (sym second_is)
      (pair_unused both (end_after p (begins place) nowhere) (end_after p (begins (dual_of place)) nowhere) refl refl refl refl (meets_dual place)))

  kept_for : (f : EndId) → AllKept w.sessions begun (coming (end_at w.sessions f) (end_at w.sessions (other_end f)))
  kept_for f = all_kept p w.sessions (side s 0) f (begins place) (come_uncarried w (side s 0) sound.unshared (comes 0))

  kept_then : (f : EndId) → AllKept begun both (coming (end_at w.sessions f) (end_at w.sessions (other_end f)))
  kept_then f j x h = keeps_by_name p begun (side s 1) (begins (dual_of place)) x.msg (unnamed (side s 1) f w.sessions j x (come_uncarried w (side s 1) sound.unshared (comes 1)) h)

  other_kept : (t d : ℕ) → (s ≡ t → ⊥) → end_at both (side t d) ≡ end_at w.sessions (side t d)
  other_kept t d ne =
      end_at-touched_other p begun (side s 1, begins (dual_of place)) (side t d) (other_session_other_end s t 1 d ne)
      ∙ end_at-touched_other p w.sessions (side s 0, begins place) (side t d) (other_session_other_end s t 0 d ne)

  old_pair : (t : ℕ) → (s ≡ t → ⊥) → PairAt both both t
  old_pair t ne =
      let a = end_at w.sessions (side t 0) in
      let c = end_at w.sessions (side t 1) in
      subst (λ (x : EndAt). Pair both x (end_at both (side t 1))) (sym (other_kept t 0 ne))
      (subst (λ (x : EndAt). Pair both a x) (sym (other_kept t 1 ne))
      (pair_kept begun both a c (kept_then (side t 0)) (kept_then (side t 1)) (pair_kept w.sessions begun a c (kept_for (side t 0)) (kept_for (side t 1)) (sound.pairs t))))

  requested_pairs : AllPairs both
  requested_pairs t = elim (cases_eq s t) [
    | inl it ↦ subst (PairAt both both) it new_pair
    | inr other ↦ old_pair t other
  ]

  pub request_unused : (f : EndId) → ((e : EndId) → IsToCome w e → is_end e f ≡ false) → IsUnusedBy f us
  request_unused f apart = (apart (side s 0) (comes 0), (apart (side s 1) (comes 1), tt))

  pub guards_request : (bs : Ends) → Guarded file w bs → Guarded file (world_opened p (requests r) us w) (bs ++ (side s 0, place) ∷ [])
  guards_request bs g =
      opened_is_guarded file p w sound (requests r) us few (λ f. omega (arith, carried-begins f p w.sessions (side s 0) place, carried-begins f p begun (side s 1) (dual_of place))) request_unused
      (λ f come other. (other_session_other_end s f.sess 0 f.side other, (other_session_other_end s f.sess 1 f.side other, tt))) requested_pairs
      (record { protocol = n; party = b; asks = asks; to_it = to_it; at = ap (λ (x : EndAt). x.place) second_is })
      bs g (side s 0) place (λ e. refl)

  -- ---- where each open end is

  pub request_finds : (k l : EndId → ℕ) → AllFound w k → ((f : EndId) → k f + one_if (is_end f (side s 0)) ≤ l f) → AllFound (world_opened p (requests r) us w) l
  request_finds k l all le f is_open = elim (cases_Bool (is_end f (side s 1))) [
    | inl it ↦ inl (offered (record { by = p; number = length (w.requests p); request = r; there = request_there p r (w.requests p); none = refl; it_is = it }))
    | inr other ↦ elim (cases_Bool (is_end f (side s 0))) [
      | inl it ↦ inr (omega (arith, le f, ap {B = ℕ} one_if it))
      | inr neither ↦ old (all f (came_from_other p w.sessions (side s 0) (begins place) f (is_end_sym_false f (side s 0) neither) (came_from_other p begun (side s 1) (begins (dual_of place)) f (is_end_sym_false f (side s 1) other) is_open)))
    ]
  ]
    where
      old : IsFound w k f → IsFound (world_opened p (requests r) us w) l f
      old (inl (held c g at h)) = inl (held c g at h)
      old (inl (on_its_way e c)) = inl (on_its_way e (coming_stays p begun (side s 1) (begins (dual_of place)) f e tt (coming_stays p w.sessions (side s 0) (begins place) f e tt c)))
      old (inl (offered i)) = inl (offered (record { by = i.by; number = i.number; request = i.request; there = request_kept p i.by r (w.requests i.by) i.number i.request i.there; none = i.none; it_is = i.it_is }))
      old (inr h) = inr (omega (arith, h, le f))
