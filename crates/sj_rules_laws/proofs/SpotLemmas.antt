-- Each end lies once or is gone.
use Rattle.std.proofs.Common.{◌≡◌, ℕ, ◌==◌, ◌<◌, ◌≤◌, Bool, true, false, ◌&&◌, cond, List, [], ◌∷◌, length, Option, Some, None, refl, ap, sym, ◌∙◌, subst, inl, inr, ◌⊎◌, arith}
use Rattle.std.specs.List.{filter}
use Rattle.std.specs.Prelude.{◌≢◌, ◌↔◌}
use Rattle.std.proofs.lemmas.Bool.{eq-eqb, eqb-true, and_from}
use Rattle.sj_base.specs.declared.EndId.{EndId}
use Rattle.sj_rules.specs.Record.{BodyAt, Give, Mail, MainAt, Held, Closed, Expected, OldAt, Parked, Signalled, other_end}
use Rattle.sj_rules.specs.World.{WorldAt}
use Rattle.sj_rules.specs.Seat.{Seat, held, parked, claimed, signalled, given, closed, gone, Side, source_for}
use Rattle.sj_rules.specs.Shown.{Shows, bodies, main_shown, old_shown, gives_in, is_give, is_lane}
use Rattle.sj_rules.specs.PlainSide.{PlainAt}
use Rattle.sj_rules.specs.Linked.{IsKept}
use Rattle.sj_rules.specs.Opened.{opens}
use Rattle.sj_rules.specs.Reading.{reading, IsOpenKept}
use Rattle.sj_opened_lemmas.proofs.OfferLemmas.{none_open, open_there, open_is_of_opener}
use Rattle.sj_opened_lemmas.proofs.OpenSpotLemmas.{no_opens, lies_once_read}
use Rattle.sj_rules.specs.Spots.{Spot, at_main, at_old, on_way, in_open, HasMain, HasOld, LiesAt, LiesOnce}
use Rattle.sj_rules.specs.Worked.{mails_of}
use Rattle.sj_world_lemmas.proofs.ToldLemmas.{Has, contains_has, has_contains, has_filter, has_kept, has_passed}

abbrev pub spot_of : {P : Type 0} → Seat P → Option Spot
spot_of (held at h) = Some (at_main at)
spot_of (parked at e) = Some (at_old at)
spot_of (claimed at to e) = Some (at_old at)
spot_of (signalled at to e ds) = Some (at_old at)
spot_of (given at to e q ds) = Some (on_way at to)
spot_of (closed at e) = Some (at_main at)
spot_of gone = None

abbrev pub awaiter_of : {P : Type 0} → Seat P → Option ℕ
awaiter_of (held at h) = None
awaiter_of (parked at e) = None
awaiter_of (claimed at to e) = Some to
awaiter_of (signalled at to e ds) = Some to
awaiter_of (given at to e q ds) = Some to
awaiter_of (closed at e) = None
awaiter_of gone = None

-- no seat is in an Open
never_in_open : {P : Type 0} → (seat : Seat P) (p q : ℕ) → spot_of seat ≡ Some (in_open p q) → ⊥
never_in_open (held at h) p q k = cc k
never_in_open (parked at e) p q k = cc k
never_in_open (claimed at to e) p q k = cc k
never_in_open (signalled at to e ds) p q k = cc k
never_in_open (given at to e r ds) p q k = cc k
never_in_open (closed at e) p q k = cc k
never_in_open gone p q k = cc k

-- ---- main records

here : {P : Type 0} → (p at : ℕ) (m : MainAt P) (b : Bool) → (p == at) ≡ b → HasMain (cond b (Some m) None) → at ≡ p
here p at m true t h = sym (eqb-true p at t)
here p at m false t h = absurd h

not_awaited : {P : Type 0} → (keeper : ℕ) (place : P) (late : List (Mail P)) (b : Bool) → HasMain (cond b (Some (Expected keeper place late)) None) → ⊥
not_awaited keeper place late true h = h
not_awaited keeper place late false h = h

module _ {P : Type 0} (from : ℕ) (place : P) where
  main_lies : (seat : Seat P) (p : ℕ) → HasMain (main_shown from place seat p) → spot_of seat ≡ Some (at_main p)
  main_lies (held at h) p k = ap (λ n. Some (at_main n)) (here p at (Held h) (p == at) refl k)
  main_lies (parked at e) p k = absurd k
  main_lies (claimed at to e) p k = absurd (not_awaited at place [] (p == to) k)
  main_lies (signalled at to e ds) p k = absurd (not_awaited at place (mails_of from ds) (p == to) k)
  main_lies (given at to e q ds) p k = absurd (not_awaited at place (mails_of from ds) (p == to) k)
  main_lies (closed at e) p k = ap (λ n. Some (at_main n)) (here p at (Closed e) (p == at) refl k)
  main_lies gone p k = absurd k

  main_is_shown : (seat : Seat P) (p : ℕ) → spot_of seat ≡ Some (at_main p) → HasMain (main_shown from place seat p)
  main_is_shown (held at h) p k = let it : at ≡ p = cc k in subst HasMain (sym (ap (λ b. cond b (Some (Held h)) None) (eq-eqb p at (sym it)))) tt
  main_is_shown (parked at e) p k = absurd (cc k)
  main_is_shown (claimed at to e) p k = absurd (cc k)
  main_is_shown (signalled at to e ds) p k = absurd (cc k)
  main_is_shown (given at to e q ds) p k = absurd (cc k)
  main_is_shown (closed at e) p k = let it : at ≡ p = cc k in subst HasMain (sym (ap (λ b. cond b (Some (Closed e)) None) (eq-eqb p at (sym it)))) tt
  main_is_shown gone p k = absurd (cc k)

-- ---- old records

here_old : {P : Type 0} → (p at : ℕ) (o : OldAt P) (b : Bool) → (p == at) ≡ b → HasOld (cond b (Some o) None) → at ≡ p
here_old p at o true t h = sym (eqb-true p at t)
here_old p at o false t h = absurd h

module _ {P : Type 0} where
  old_lies : (seat : Seat P) (p : ℕ) → HasOld (old_shown seat p) → spot_of seat ≡ Some (at_old p)
  old_lies (held at h) p k = absurd k
  old_lies (parked at e) p k = ap (λ n. Some (at_old n)) (here_old p at (Parked e) (p == at) refl k)
  old_lies (claimed at to e) p k = ap (λ n. Some (at_old n)) (here_old p at (Parked e) (p == at) refl k)
  old_lies (signalled at to e ds) p k = ap (λ n. Some (at_old n)) (here_old p at (Signalled e to) (p == at) refl k)
  old_lies (given at to e q ds) p k = absurd k
  old_lies (closed at e) p k = absurd k
  old_lies gone p k = absurd k

  shown_old : (p at : ℕ) (o : OldAt P) → at ≡ p → HasOld (cond (p == at) (Some o) None)
  shown_old p at o it = subst HasOld (sym (ap (λ b. cond b (Some o) None) (eq-eqb p at (sym it)))) tt

  old_is_shown : (seat : Seat P) (p : ℕ) → spot_of seat ≡ Some (at_old p) → HasOld (old_shown seat p)
  old_is_shown (held at h) p k = absurd (cc k)
  old_is_shown (parked at e) p k = shown_old p at (Parked e) cc
  old_is_shown (claimed at to e) p k = shown_old p at (Parked e) cc
  old_is_shown (signalled at to e ds) p k = shown_old p at (Signalled e to) cc
  old_is_shown (given at to e q ds) p k = absurd (cc k)
  old_is_shown (closed at e) p k = absurd (cc k)
  old_is_shown gone p k = absurd (cc k)

  -- ---- Gives

  in_lane : (p q at to : ℕ) (l : List (BodyAt P)) (b c : Bool) → (p == at) ≡ b → (q == to) ≡ c → cond (b && c) l [] ≢ [] → (at ≡ p) × (to ≡ q)
  in_lane p q at to l true true t u h = (sym (eqb-true p at t), sym (eqb-true q to u))
  in_lane p q at to l true false t u h = absurd (h refl)
  in_lane p q at to l false c t u h = absurd (h refl)

  give_lies : (seat : Seat P) (p q : ℕ) → gives_in seat p q ≢ [] → spot_of seat ≡ Some (on_way p q)
  give_lies (given at to e r ds) p q k = let l = in_lane p q at to (Give e r ∷ []) (p == at) (q == to) refl refl k in rw (l.0, l.1) refl
  give_lies (held at h) p q k = absurd (k refl)
  give_lies (parked at e) p q k = absurd (k refl)
  give_lies (claimed at to e) p q k = absurd (k refl)
  give_lies (signalled at to e ds) p q k = absurd (k refl)
  give_lies (closed at e) p q k = absurd (k refl)
  give_lies gone p q k = absurd (k refl)

  give_is_shown : (seat : Seat P) (p q : ℕ) → spot_of seat ≡ Some (on_way p q) → (give : BodyAt P) × (gives_in seat p q ≡ give ∷ [])
  give_is_shown (given at to e r ds) p q k =
      let a : p ≡ at = cc k in
      let b : q ≡ to = cc k in
      (Give e r, ap (λ c. cond c (Give e r ∷ []) []) (and_from (p == at) (q == to) (eq-eqb p at a) (eq-eqb q to b)))
  give_is_shown (held at h) p q k = absurd (cc k)
  give_is_shown (parked at e) p q k = absurd (cc k)
  give_is_shown (claimed at to e) p q k = absurd (cc k)
  give_is_shown (signalled at to e ds) p q k = absurd (cc k)
  give_is_shown (closed at e) p q k = absurd (cc k)
  give_is_shown gone p q k = absurd (cc k)

  few_if : (b : Bool) (give : BodyAt P) → length (cond b (give ∷ []) []) ≤ 1
  few_if true give = omega arith
  few_if false give = omega arith

  few_gives : (seat : Seat P) (p q : ℕ) → length (gives_in seat p q) ≤ 1
  few_gives (given at to e r ds) p q = few_if (is_lane p q at to) (Give e r)
  few_gives (held at h) p q = omega arith
  few_gives (parked at e) p q = omega arith
  few_gives (claimed at to e) p q = omega arith
  few_gives (signalled at to e ds) p q = omega arith
  few_gives (closed at e) p q = omega arith
  few_gives gone p q = omega arith

-- ---- Expected records

awaited_here : {P : Type 0} → (p to at : ℕ) (place : P) (ds : List (Mail P)) (keeper : ℕ) (spot : P) (late : List (Mail P)) (b : Bool) → (p == to) ≡ b
    → ◌≡◌ {A = Option (MainAt P)} (cond b (Some (Expected at place ds)) None) (Some (Expected keeper spot late)) → (to ≡ p) × (at ≡ keeper)
awaited_here p to at place ds keeper spot late true t h = (sym (eqb-true p to t), cc h)
awaited_here p to at place ds keeper spot late false t h = absurd (cc h)

never_awaited : {P : Type 0} → (m : MainAt P) (keeper : ℕ) (spot : P) (late : List (Mail P)) (b : Bool) → (m ≡ Expected keeper spot late → ⊥) → ◌≡◌ {A = Option (MainAt P)} (cond b (Some m) None) (Some (Expected keeper spot late)) → ⊥
never_awaited m keeper spot late true never h = never cc
never_awaited m keeper spot late false never h = cc h

module _ {P : Type 0} (from : ℕ) (place : P) where
  pub awaited_from : (seat : Seat P) (p keeper : ℕ) (spot : P) (late : List (Mail P)) → main_shown from place seat p ≡ Some (Expected keeper spot late)
      → (awaiter_of seat ≡ Some p) × ((spot_of seat ≡ Some (at_old keeper)) ⊎ (spot_of seat ≡ Some (on_way keeper p)))
  awaited_from (claimed at to e) p keeper spot late h = let l = awaited_here p to at place [] keeper spot late (p == to) refl h in (ap Some l.0, inl (ap (λ n. Some (at_old n)) l.1))
  awaited_from (signalled at to e ds) p keeper spot late h = let l = awaited_here p to at place (mails_of from ds) keeper spot late (p == to) refl h in (ap Some l.0, inl (ap (λ n. Some (at_old n)) l.1))
  awaited_from (given at to e q ds) p keeper spot late h = let l = awaited_here p to at place (mails_of from ds) keeper spot late (p == to) refl h in (ap Some l.0, inr (rw (l.0, l.1) refl))
  awaited_from (held at k) p keeper spot late h = absurd (never_awaited (Held k) keeper spot late (p == at) (λ t. cc t) h)
  awaited_from (closed at e) p keeper spot late h = absurd (never_awaited (Closed e) keeper spot late (p == at) (λ t. cc t) h)
  awaited_from (parked at e) p keeper spot late h = absurd (cc h)
  awaited_from gone p keeper spot late h = absurd (cc h)

-- ---- in a world

module _ {P Q : Type 0} (w : WorldAt P Q) (other : Seat P) (r : Side P) (shows : Shows w other r) (shut : (p q : ℕ) → opens r.id (bodies (w.lanes p q)) ≡ false) where
  lies_there : (at : Spot) → LiesAt w r.id at ↔ (spot_of r.seat ≡ Some at)
  lies_there (at_main p) = (
    λ h. main_lies (source_for other r.seat) r.place r.seat p (subst HasMain (shows.mains p) h),
    λ h. subst HasMain (sym (shows.mains p)) (main_is_shown (source_for other r.seat) r.place r.seat p h),
  )
  lies_there (at_old p) = (λ h. old_lies r.seat p (subst HasOld (shows.olds p) h), λ h. subst HasOld (sym (shows.olds p)) (old_is_shown r.seat p h))
  lies_there (on_way p q) = (
    λ h.
        let kept = has_kept (is_give r.id) h.0 (bodies (w.lanes p q)) (contains_has h.0 (bodies (w.lanes p q)) h.1) h.2 in
        give_lies r.seat p q (λ none. subst (Has h.0) (shows.gives p q ∙ none) kept),
    λ h.
        let g = give_is_shown r.seat p q h in
        let lane : List (BodyAt P) = bodies (w.lanes p q) in
        let kept : Has g.0 (filter (is_give r.id) lane) = subst (Has g.0) (sym (shows.gives p q ∙ g.1)) (inl refl) in
        (g.0, has_contains g.0 lane (has_filter (is_give r.id) g.0 lane kept), has_passed (is_give r.id) g.0 lane kept),
  )
  lies_there (in_open p q) = (
    λ h. let o : opens r.id (bodies (w.lanes p q)) ≡ true = open_there r.id (bodies (w.lanes p q)) h.0 h.1 h.2 in absurd (cc (shut p q, o)),
    λ h. absurd (never_in_open r.seat p q h),
  )

  shown_once : LiesOnce w r.id
  shown_once = record {
    spot = spot_of r.seat;
    lies = lies_there;
    one_give = λ p q. subst (λ l. length l ≤ 1) (sym (shows.gives p q)) (few_gives r.seat p q);
    one_open = λ p q. subst (λ l. length l ≤ 1) (sym (none_open r.id (bodies (w.lanes p q)) (shut p q))) (omega arith);
    awaiter = awaiter_of r.seat;
    awaits = λ p keeper place late h. awaited_from (source_for other r.seat) r.place r.seat p keeper place late (sym (shows.mains p) ∙ h);
  }

lies_once : {P Q : Type 0} → (IsOver : P → Type 0) (binds : Q → EndId → Bool) (w : WorldAt P Q) (plain : PlainAt P Q) → IsKept IsOver binds w plain → (e : EndId) → e.side < 2 → ((p q : ℕ) → opens e (bodies (w.lanes p q)) ≡ false) → LiesOnce w e
lies_once IsOver binds w plain kept e low shut =
    subst (LiesOnce w) (kept.sessions.ids e)
    (shown_once w (kept.sessions.sides (other_end e)).seat (kept.sessions.sides e) (kept.sessions.shows e low) (λ p q. ap (λ d. opens d (bodies (w.lanes p q))) (kept.sessions.ids e) ∙ shut p q))

-- in a world with Opens too
pub open_lies_once : {P Q : Type 0} → (IsOver : P → Type 0) (binds : Q → EndId → Bool) (blank : P) (w : WorldAt P Q) (plain : PlainAt P Q) → IsOpenKept IsOver binds blank w plain → (e : EndId) → e.side < 2 → LiesOnce w e
open_lies_once IsOver binds blank w plain kept e low =
    lies_once_read blank w kept.bare kept.lead e (λ from to. open_is_of_opener IsOver binds blank w plain kept from to e)
    (lies_once IsOver binds (reading blank w) plain kept.kept e low (λ from to. no_opens e (w.lanes from to)))
