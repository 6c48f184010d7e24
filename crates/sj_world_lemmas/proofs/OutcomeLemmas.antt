-- An event that changes one session: all sessions are sound and shown after it.
use Rattle.std.proofs.Common.{◌≡◌, ℕ, ◌<◌, refl, subst, ◌∙◌, arith}
use Rattle.std.specs.Prelude.{Bool, true, false, ◌==◌, if◌then◌else◌}
use Rattle.std.proofs.lemmas.Bool.{eqb-true, eqb-false, eq-eqb}
use Rattle.sj_base.specs.declared.EndId.{EndId}
use Rattle.sj_rules.specs.Record.{other_end}
use Rattle.sj_rules.specs.World.{WorldAt}
use Rattle.sj_rules.specs.Seat.{Seat, Side}
use Rattle.sj_rules.specs.Shown.{Shows}
use Rattle.sj_rules.specs.PlainSide.{PlainSide}
use Rattle.sj_rules.specs.Numbers.{Pace, turned}
use Rattle.sj_rules.specs.Invariant.{IsSound}
use Rattle.sj_rules.specs.Linked.{Sessions, AreProper, end_named}
use Rattle.sj_world_lemmas.proofs.SwapLemmas.{swapped}

-- what an event leaves of the session of an end: r is that end, s the other
pub record Outcome {P Q : Type 0} (IsOver : P → Type 0) (w v : WorldAt P Q) (id : EndId) (pace : Pace) (x y : PlainSide P) (s r : Side P) : Type 0 where
  pub name : r.id ≡ id
  pub other : s.id ≡ other_end id
  pub shows : Shows v s.seat r
  pub shown : Shows v r.seat s
  pub sound : IsSound IsOver pace x y s r
  pub apart : (o : Seat P) (d : Side P) → (d.id.sess == id.sess) ≡ false → Shows w o d → Shows v o d
  pub proper : AreProper w.lanes → AreProper v.lanes

-- the sessions after it
pub record Goes {P Q : Type 0} (IsOver : P → Type 0) (w v : WorldAt P Q) (knows knows' : EndId → PlainSide P) (before : Sessions IsOver w knows) (id : EndId) (s r : Side P) : Type 0 where
  pub after : Sessions IsOver v knows'
  pub here : after.sides id ≡ r
  pub there : after.sides (other_end id) ≡ s
  pub away : (d : EndId) → (d.sess == id.sess) ≡ false → after.sides d ≡ before.sides d

-- an end by its session and side
pub end_is : (e : EndId) (sess side : ℕ) → e.sess ≡ sess → e.side ≡ side → end_named sess side ≡ e
end_is e sess side i j = rw (← i, ← j) refl

module _ {P Q : Type 0} (IsOver : P → Type 0) (w v : WorldAt P Q) (knows knows' : EndId → PlainSide P) (before : Sessions IsOver w knows) (sess : ℕ) (pace : Pace) (a b : Side P)
    (a_id : a.id ≡ end_named sess 0) (b_id : b.id ≡ end_named sess 1) (shows_a : Shows v b.seat a) (shows_b : Shows v a.seat b)
    (sound : IsSound IsOver pace (knows' (end_named sess 0)) (knows' (end_named sess 1)) a b)
    (apart : (o : Seat P) (d : Side P) → (d.id.sess == sess) ≡ false → Shows w o d → Shows v o d)
    (proper : AreProper w.lanes → AreProper v.lanes)
    (known : (e : EndId) → (e.sess == sess) ≡ false → knows' e ≡ knows e) where
  -- the ends after the event
  abbrev sides_after : EndId → Side P
  sides_after d = if d.sess == sess then (if d.side == 0 then a else (if d.side == 1 then b else before.sides d)) else before.sides d

  -- the paces after the event
  abbrev pace_after : ℕ → Pace
  pace_after n = if n == sess then pace else before.pace n

  -- the first end of the session
  at_0 : sides_after (end_named sess 0) ≡ a
  at_0 = rw (eq-eqb sess sess refl) refl

  -- its second end
  at_1 : sides_after (end_named sess 1) ≡ b
  at_1 = rw (eq-eqb sess sess refl) refl

  -- ends of other sessions
  away_from : (d : EndId) → (d.sess == sess) ≡ false → sides_after d ≡ before.sides d
  away_from d e = rw e refl

  -- ends keep their names
  ids_after : (e : EndId) → (sides_after e).id ≡ e
  ids_after e = by (e.sess == sess) (e.side == 0) (e.side == 1) refl refl refl
    where
      by : (k m n : Bool) → (e.sess == sess) ≡ k → (e.side == 0) ≡ m → (e.side == 1) ≡ n →
          (if k then (if m then a else (if n then b else before.sides e)) else before.sides e).id ≡ e
      by true true n i j l = a_id ∙ end_is e sess 0 (eqb-true e.sess sess i) (eqb-true e.side 0 j)
      by true false true i j l = b_id ∙ end_is e sess 1 (eqb-true e.sess sess i) (eqb-true e.side 1 l)
      by true false false i j l = before.ids e
      by false m n i j l = before.ids e

  -- what is shown of the first end
  shows_0 : Shows v (sides_after (end_named sess 1)).seat (sides_after (end_named sess 0))
  shows_0 = rw (eq-eqb sess sess refl) shows_a

  -- and of the second
  shows_1 : Shows v (sides_after (end_named sess 0)).seat (sides_after (end_named sess 1))
  shows_1 = rw (eq-eqb sess sess refl) shows_b

  -- what is shown of each end
  shows_after : (e : EndId) → e.side < 2 → Shows v (sides_after (other_end e)).seat (sides_after e)
  shows_after e low = by (e.sess == sess) (e.side == 0) refl refl
    where
      by : (k m : Bool) → (e.sess == sess) ≡ k → (e.side == 0) ≡ m → Shows v (sides_after (other_end e)).seat (sides_after e)
      by true true i j =
          subst (λ d. Shows v (sides_after (other_end d)).seat (sides_after d)) (end_is e sess 0 (eqb-true e.sess sess i) (eqb-true e.side 0 j)) shows_0
      by true false i j =
          let n : e.side ≡ 0 → ⊥ = eqb-false e.side 0 j in
          let one : e.side ≡ 1 = omega (arith, low, n) in
          subst (λ d. Shows v (sides_after (other_end d)).seat (sides_after d)) (end_is e sess 1 (eqb-true e.sess sess i) one) shows_1
      by false m i j =
          let away : ((before.sides e).id.sess == sess) ≡ false = rw (before.ids e) i in
          rw i (apart (before.sides (other_end e)).seat (before.sides e) away (before.shows e low))

  -- each session is sound
  sound_after : (n : ℕ) → IsSound IsOver (pace_after n) (knows' (end_named n 0)) (knows' (end_named n 1)) (sides_after (end_named n 0)) (sides_after (end_named n 1))
  sound_after n = by (n == sess) refl
    where
      by : (k : Bool) → (n == sess) ≡ k →
          IsSound IsOver (if k then pace else before.pace n) (knows' (end_named n 0)) (knows' (end_named n 1)) (if k then a else before.sides (end_named n 0)) (if k then b else before.sides (end_named n 1))
      by true i = let j : n ≡ sess = eqb-true n sess i in rw j sound
      by false i = rw (known (end_named n 0) i, known (end_named n 1) i) (before.sound n)

  -- all of it
  sessions_after : Sessions IsOver v knows'
  sessions_after = record {
    sides = sides_after;
    pace = pace_after;
    ids = ids_after;
    shows = shows_after;
    proper = proper before.proper;
    sound = sound_after;
  }

  -- seen from the first end
  pub goes_0 : Goes IsOver w v knows knows' before (end_named sess 0) b a
  unfolding sessions_after
  goes_0 = record { after = sessions_after; here = at_0; there = at_1; away = away_from }

  -- seen from the second end
  pub goes_1 : Goes IsOver w v knows knows' before (end_named sess 1) a b
  unfolding sessions_after
  goes_1 = record { after = sessions_after; here = at_1; there = at_0; away = away_from }

-- the sessions after an event
pub goes_on : {P Q : Type 0} → (IsOver : P → Type 0) (w v : WorldAt P Q) (knows knows' : EndId → PlainSide P) (before : Sessions IsOver w knows)
    (id : EndId) (pace : Pace) (s r : Side P) → id.side < 2 →
    Outcome IsOver w v id pace (knows' (other_end id)) (knows' id) s r →
    ((e : EndId) → (e.sess == id.sess) ≡ false → knows' e ≡ knows e) →
    Goes IsOver w v knows knows' before id s r
goes_on {P} {Q} IsOver w v knows knows' before id pace s r low out known = by (id.side == 0) refl
  where
    at : (d : EndId) → d ≡ id → Outcome IsOver w v d pace (knows' (other_end d)) (knows' d) s r
    at d e = rw e out

    known_at : (d : EndId) → d ≡ id → (e : EndId) → (e.sess == d.sess) ≡ false → knows' e ≡ knows e
    known_at d i = rw i known

    by : (k : Bool) → (id.side == 0) ≡ k → Goes IsOver w v knows knows' before id s r
    by true i =
        let here : end_named id.sess 0 ≡ id = end_is id id.sess 0 refl (eqb-true id.side 0 i) in
        let o : Outcome IsOver w v (end_named id.sess 0) pace (knows' (end_named id.sess 1)) (knows' (end_named id.sess 0)) s r = at (end_named id.sess 0) here in
        let below : r.id.side < 2 = rw o.name (omega arith) in
        subst (λ d. Goes IsOver w v knows knows' before d s r) here
        (goes_0 IsOver w v knows knows' before id.sess (turned pace) r s o.name o.other o.shows o.shown
        (swapped IsOver pace (knows' (end_named id.sess 1)) (knows' (end_named id.sess 0)) s r below o.sound) o.apart o.proper (known_at (end_named id.sess 0) here))
    by false i =
        let n : id.side ≡ 0 → ⊥ = eqb-false id.side 0 i in
        let one : id.side ≡ 1 = omega (arith, low, n) in
        let here : end_named id.sess 1 ≡ id = end_is id id.sess 1 refl one in
        let o : Outcome IsOver w v (end_named id.sess 1) pace (knows' (end_named id.sess 0)) (knows' (end_named id.sess 1)) s r = at (end_named id.sess 1) here in
        subst (λ d. Goes IsOver w v knows knows' before d s r) here
        (goes_1 IsOver w v knows knows' before id.sess pace s r o.other o.name o.shown o.shows o.sound o.apart o.proper (known_at (end_named id.sess 1) here))

-- a session as it is seen from one of its ends
pub sound_at : {P Q : Type 0} → (IsOver : P → Type 0) (w : WorldAt P Q) (knows : EndId → PlainSide P) (before : Sessions IsOver w knows) (id : EndId) → id.side < 2 →
    (pace : Pace) × IsSound IsOver pace (knows (other_end id)) (knows id) (before.sides (other_end id)) (before.sides id)
sound_at {P} {Q} IsOver w knows before id low = by (id.side == 0) refl
  where
    by : (k : Bool) → (id.side == 0) ≡ k → (pace : Pace) × IsSound IsOver pace (knows (other_end id)) (knows id) (before.sides (other_end id)) (before.sides id)
    by true i =
        let here : end_named id.sess 0 ≡ id = end_is id id.sess 0 refl (eqb-true id.side 0 i) in
        let below : (before.sides (end_named id.sess 1)).id.side < 2 = rw (before.ids (end_named id.sess 1)) (omega arith) in
        subst (λ d. (pace : Pace) × IsSound IsOver pace (knows (other_end d)) (knows d) (before.sides (other_end d)) (before.sides d)) here
        (turned (before.pace id.sess), swapped IsOver (before.pace id.sess) (knows (end_named id.sess 0)) (knows (end_named id.sess 1)) (before.sides (end_named id.sess 0)) (before.sides (end_named id.sess 1)) below (before.sound id.sess))
    by false i =
        let n : id.side ≡ 0 → ⊥ = eqb-false id.side 0 i in
        let one : id.side ≡ 1 = omega (arith, low, n) in
        let here : end_named id.sess 1 ≡ id = end_is id id.sess 1 refl one in
        subst (λ d. (pace : Pace) × IsSound IsOver pace (knows (other_end d)) (knows d) (before.sides (other_end d)) (before.sides d)) here
        (before.pace id.sess, before.sound id.sess)
