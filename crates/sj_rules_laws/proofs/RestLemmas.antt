-- Where the world has come to rest nobody awaits an end, and an end is parked only where its
-- message waits.
use Rattle.std.proofs.Common.{◌≡◌, ℕ, ◌==◌, ◌<◌, Bool, true, false, cond, [], Option, Some, None, refl, ap, sym, subst, ◌∙◌}
use Rattle.std.proofs.lemmas.Bool.{eqb-true}
use Rattle.sj_base.specs.declared.EndId.{EndId}
use Rattle.sj_rules.specs.Record.{EndAt, OldAt, Parked, Signalled, other_end}
use Rattle.sj_rules.specs.World.{WorldAt}
use Rattle.sj_rules.specs.Seat.{Seat, held, parked, claimed, signalled, given, closed, gone, source_for}
use Rattle.sj_rules.specs.Shown.{old_shown}
use Rattle.sj_rules.specs.PlainSide.{PlainAt}
use Rattle.sj_rules.specs.Linked.{IsKept, IsParkedAt}
use Rattle.sj_rules.specs.Spots.{IsAtRest}
use Rattle.sj_rules_laws.proofs.QuietSeatLemmas.{IsLeft}
use Rattle.sj_rules_laws.proofs.QuietWorldLemmas.{is_left, read_empty, same_main, same_offers}
use Rattle.sj_rules.specs.Reading.{reading, IsOpenKept}
use Rattle.std.specs.Prelude.{Contains}
use Rattle.sj_rules_laws.proofs.SpotLemmas.{awaiter_of, awaited_from}

nobody_awaits : {P : Type 0} → (seat : Seat P) (p : ℕ) → IsLeft seat → awaiter_of seat ≡ Some p → ⊥
nobody_awaits (held at h) p l k = cc k
nobody_awaits (parked at e) p l k = cc k
nobody_awaits (closed at e) p l k = cc k
nobody_awaits gone p l k = cc k
nobody_awaits (claimed at to e) p l k = l
nobody_awaits (signalled at to e ds) p l k = l
nobody_awaits (given at to e q ds) p l k = l

never_signalled : {P : Type 0} → (e k : EndAt P) (to : ℕ) (b : Bool) → ◌≡◌ {A = Option (OldAt P)} (cond b (Some (Parked e)) None) (Some (Signalled k to)) → ⊥
never_signalled e k to true h = cc h
never_signalled e k to false h = cc h

none_signalled_left : {P : Type 0} → (seat : Seat P) (p to : ℕ) (k : EndAt P) → IsLeft seat → old_shown seat p ≡ Some (Signalled k to) → ⊥
none_signalled_left (parked at e) p to k l h = never_signalled e k to (p == at) h
none_signalled_left (held at g) p to k l h = cc h
none_signalled_left (closed at e) p to k l h = cc h
none_signalled_left gone p to k l h = cc h
none_signalled_left (claimed at u e) p to k l h = l
none_signalled_left (signalled at u e ds) p to k l h = l
none_signalled_left (given at u e q ds) p to k l h = l

parked_here : {P : Type 0} → (p at : ℕ) (e k : EndAt P) (b : Bool) → (p == at) ≡ b → ◌≡◌ {A = Option (OldAt P)} (cond b (Some (Parked e)) None) (Some (Parked k)) → at ≡ p
parked_here p at e k true t h = sym (eqb-true p at t)
parked_here p at e k false t h = absurd (cc h)

parked_left : {P : Type 0} → (seat : Seat P) (p : ℕ) (k : EndAt P) → IsLeft seat → old_shown seat p ≡ Some (Parked k) → IsParkedAt p seat
parked_left (parked at e) p k l h = parked_here p at e k (p == at) refl h
parked_left (held at g) p k l h = absurd (cc h)
parked_left (closed at e) p k l h = absurd (cc h)
parked_left gone p k l h = absurd (cc h)
parked_left (claimed at u e) p k l h = absurd l
parked_left (signalled at u e ds) p k l h = absurd l
parked_left (given at u e q ds) p k l h = absurd l

pub comes_to_rest : {P Q : Type 0} → (IsOver : P → Type 0) (binds : Q → EndId → Bool) (blank : P) (w : WorldAt P Q) (plain : PlainAt P Q) → IsOpenKept IsOver binds blank w plain → ((from to : ℕ) → w.lanes from to ≡ [])
    → (e : EndId) → e.side < 2 → IsAtRest w plain e
comes_to_rest {P} {Q} IsOver binds blank w plain opened empty e low =
    let u : WorldAt P Q = reading blank w in
    let kept : IsKept IsOver binds u plain = opened.kept in
    let seat : Seat P = (kept.sessions.sides e).seat in
    let left : IsLeft seat = is_left IsOver binds u plain kept (read_empty IsOver binds blank w plain opened empty) e low in
    let shows = kept.sessions.shows e low in
    let id = kept.sessions.ids e in
    let from : ℕ = source_for (kept.sessions.sides (other_end e)).seat seat in
    record {
      not_awaited = λ p keeper place late h.
          nobody_awaits seat p left
          (awaited_from from (kept.sessions.sides e).place seat p keeper place late (sym (shows.mains p) ∙ ap (λ (d : EndId). (u.nodes p).main d) id ∙ same_main IsOver binds blank w plain opened empty p e ∙ h)).0;
      not_signalled = λ p to k h. none_signalled_left seat p to k left (sym (shows.olds p) ∙ ap (λ (d : EndId). (w.nodes p).old d) id ∙ h);
      offered = λ q p c. subst (λ l. Contains l e.sess) (same_offers IsOver binds blank w plain opened empty q p) c;
      waits = λ p k h. kept.linked.named e p low (parked_left seat p k left (sym (shows.olds p) ∙ ap (λ (d : EndId). (w.nodes p).old d) id ∙ h));
    }
