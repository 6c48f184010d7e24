-- What the rules see of the ends of a session that the party requests or accepts.
use Rattle.std.proofs.Common.{◌≡◌, ℕ, ◌<◌, ◌≤◌, ◌==◌, Bool, true, false, cond, List, length, Some, None, refl, ap, ◌∙◌, arith}
use Rattle.std.proofs.lemmas.Bool.{and_parts, and_right, eqb-true}
use Rattle.sj_base.specs.declared.EndId.{EndId}
use Rattle.sj_lang.specs.Dual.{dual_of}
use Rattle.sj_lang.specs.Place.{Place}
use Rattle.sj_semantics.specs.Ends.{EndAt, Session, end_at, nowhere}
use Rattle.sj_semantics.specs.Requests.{Request, accepts, after_opening, first_offer, limit_of_requests, opened_number, requests}
use Rattle.sj_semantics.specs.Uses.{begins, end_after}
use Rattle.sj_semantics.specs.World.{World}
use Rattle.sj_semantics_laws.proofs.EndLemmas.{end_at-touched_other, touched}
use Rattle.sj_rules.specs.Acts.{plain_accepted, plain_opened}
use Rattle.sj_rules.specs.Plain.{plain_side, side_at}
use Rattle.sj_rules.specs.PlainSide.{PlainSide}
use Rattle.sj_rules.specs.Record.{is_same_end, offered_end, requested_end}
use Rattle.sj_rules_laws.proofs.OfferSeenLemmas.{accept_else, accept_offered_not, first_unoffered, requested_else, requested_offered}
use Rattle.sj_rules_laws.proofs.SeenLemmas.{sides_changed}
use Rattle.sj_seat_laws.specs.SeatedWorld.{no_name}

-- two ends of one session
near_or_far : {X : Type 0} → (b c : Bool) (x y z : X) → (b ≡ true → c ≡ true → ⊥) → cond c y (cond b x z) ≡ cond b x (cond c y z)
near_or_far true true x y z apart = absurd (apart refl refl)
near_or_far true false x y z apart = refl
near_or_far false true x y z apart = refl
near_or_far false false x y z apart = refl

two_sides : (d : EndId) (s : ℕ) → is_same_end d (requested_end s) ≡ true → is_same_end d (offered_end s) ≡ true → ⊥
two_sides d s a b =
    let near : d.side ≡ 0 = eqb-true d.side 0 (and_parts (d.sess == s) (d.side == 0) a).1 in
    let far : d.side ≡ 1 = eqb-true d.side 1 (and_parts (d.sess == s) (d.side == 1) b).1 in
    absurd (omega (arith, near, far))

-- ---- a request

module _ (w : World) (p : ℕ) (place : Place) (to : ℕ) (few : length (w.requests p) < limit_of_requests) (unopened : (d : ℕ) → end_at w.sessions (record { sess = opened_number p (length (w.requests p)); side = d }) ≡ nowhere) where
  abbrev s : ℕ
  s = opened_number p (length (w.requests p))

  abbrev r : Request
  r = record { to = to; first = no_name; second = None }

  abbrev mid : List Session
  mid = touched p w.sessions (requested_end s, begins place)

  near_seen : (d : EndId) → plain_side w.requests mid d ≡ cond (is_same_end d (requested_end s)) (plain_opened place false) (plain_side w.requests w.sessions d)
  near_seen =
      sides_changed w.requests w.requests p w.sessions (requested_end s) (begins place) (λ x. plain_opened place false) (omega arith) (λ d other. refl)
      (ap (λ (b : Bool). side_at b (end_after p (begins place) (end_at w.sessions (requested_end s)))) (first_unoffered w.requests (requested_end s) refl)
      ∙ ap (λ (a : EndAt). side_at false (end_after p (begins place) a)) (unopened 0))

  far_seen : (d : EndId) → plain_side (after_opening p (requests r) w.requests) (touched p mid (offered_end s, begins (dual_of place))) d
      ≡ cond (is_same_end d (offered_end s)) (plain_opened (dual_of place) true) (plain_side w.requests mid d)
  far_seen =
      sides_changed w.requests (after_opening p (requests r) w.requests) p mid (offered_end s) (begins (dual_of place)) (λ x. plain_opened (dual_of place) true) (omega arith)
      (requested_else w.requests p r refl few)
      (ap (λ (b : Bool). side_at b (end_after p (begins (dual_of place)) (end_at mid (offered_end s)))) (requested_offered w.requests p r refl few)
      ∙ ap (λ (a : EndAt). side_at true (end_after p (begins (dual_of place)) a))
      (end_at-touched_other p w.sessions (requested_end s, begins place) (offered_end s) (and_right (s == s) false refl) ∙ unopened 1))

  pub requested_sides : (d : EndId) → plain_side (after_opening p (requests r) w.requests) (touched p mid (offered_end s, begins (dual_of place))) d
      ≡ cond (is_same_end d (requested_end s)) (plain_opened place false) (cond (is_same_end d (offered_end s)) (plain_opened (dual_of place) true) (plain_side w.requests w.sessions d))
  requested_sides d =
      far_seen d ∙ ap (λ (x : PlainSide Place). cond (is_same_end d (offered_end s)) (plain_opened (dual_of place) true) x) (near_seen d)
      ∙ near_or_far (is_same_end d (requested_end s)) (is_same_end d (offered_end s)) (plain_opened place false) (plain_opened (dual_of place) true) (plain_side w.requests w.sessions d) (two_sides d s)

-- ---- an accept

pub accepted_sides : (w : World) (p : ℕ) (place : Place) (from k : ℕ) → length (w.requests from) ≤ limit_of_requests → first_offer p (w.requests from) ≡ Some k → (d : EndId)
    → plain_side (after_opening p (accepts from k no_name) w.requests) (touched p w.sessions (offered_end (opened_number from k), begins place)) d
    ≡ cond (is_same_end d (offered_end (opened_number from k))) (plain_accepted (plain_side w.requests w.sessions d) place) (plain_side w.requests w.sessions d)
accepted_sides w p place from k few first =
    let y : EndId = offered_end (opened_number from k) in
    sides_changed w.requests (after_opening p (accepts from k no_name) w.requests) p w.sessions y (begins place) (λ x. plain_accepted x place) (omega arith)
    (accept_else w.requests p from k no_name first few)
    (ap (λ (b : Bool). side_at b (end_after p (begins place) (end_at w.sessions y))) (accept_offered_not w.requests p from k no_name first few))
