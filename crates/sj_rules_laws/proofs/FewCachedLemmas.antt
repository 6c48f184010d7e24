-- In a kept world no cache is longer than what was sent.
use Rattle.std.proofs.Common.{◌≡◌, ℕ, ◌<◌, ◌≤◌, ◌==◌, Bool, true, false, cond, List, [], ◌∷◌, length, Option, Some, None, refl, ap, sym, ◌∙◌, subst, arith, length-drop}
use Rattle.std.specs.List.{filter, AllByRecursion}
use Rattle.sj_base.specs.declared.EndId.{EndId}
use Rattle.sj_rules.specs.Record.{EndAt, BodyAt, Carry, Fin, Claim, Signal, Ack, Give, Open, MainAt, Held, Closed, Expected, OldAt, Parked, Signalled, other_end}
use Rattle.sj_rules.specs.Frames.{FrameAt}
use Rattle.sj_rules.specs.World.{WorldAt}
use Rattle.sj_rules.specs.Seat.{Seat, held, parked, claimed, signalled, given, closed, gone, source_for}
use Rattle.sj_rules.specs.Shown.{main_shown, old_shown, gives_in, is_lane, is_give, bodies}
use Rattle.sj_rules.specs.PlainSide.{PlainSide, PlainAt}
use Rattle.sj_rules.specs.Counts.{Agrees, SeatFits}
use Rattle.sj_rules.specs.Linked.{IsKept, subject_of}
use Rattle.sj_rules.specs.Worked.{mails_of}
use Rattle.std.specs.Prelude.{not}
use Rattle.sj_rules.specs.Opened.{is_open, opener_of, new_held}
use Rattle.sj_rules.specs.Reading.{is_opening, reading, without_opens, IsOpenKept}
use Rattle.sj_rules_laws.proofs.SideLemmas.{same_end_self}
use Rattle.sj_world_lemmas.proofs.OutcomeLemmas.{sound_at}
use Rattle.sj_rules_laws.proofs.NodeWeightLemmas.{cached_in, cached_old, cached_with, MeetsFew}

-- the length of the cache of an end, wherever it lies
abbrev cached_seat : {P : Type 0} → Seat P → ℕ
cached_seat (held at h) = length h.end.cache
cached_seat (parked at e) = length e.cache
cached_seat (claimed at to e) = length e.cache
cached_seat (signalled at to e deferred) = length e.cache
cached_seat (given at to e resend deferred) = length e.cache
cached_seat (closed at e) = length e.cache
cached_seat gone = 0

-- an end that agrees with the plain one
agreed_few : {P : Type 0} → (id : EndId) (e : EndAt P) (y : PlainSide P) (n : ℕ) → length y.sent ≤ n → Agrees id e y → length e.cache ≤ n
agreed_few id e y n few a = omega (arith, few, ap length a.cache, length-drop e.base y.sent)

-- wherever it lies
seat_few : {P : Type 0} → (IsOver : P → Type 0) (id : EndId) (x y : PlainSide P) (seat : Seat P) (n : ℕ) → length y.sent ≤ n → SeatFits IsOver id x y seat → cached_seat seat ≤ n
seat_few IsOver id x y (held at h) n few s = agreed_few id h.end y n few s.0
seat_few IsOver id x y (parked at e) n few s = agreed_few id e y n few s.0
seat_few IsOver id x y (claimed at to e) n few s = agreed_few id e y n few s.0
seat_few IsOver id x y (signalled at to e deferred) n few s = agreed_few id e y n few s.0
seat_few IsOver id x y (given at to e resend deferred) n few s = agreed_few id e y n few s.0
seat_few IsOver id x y (closed at e) n few s = agreed_few id e y n few s.0
seat_few IsOver id x y gone n few s = omega arith

-- ---- what a world shows of it

-- a record that is there or not
main_if : {P : Type 0} → (b : Bool) (r : MainAt P) (n : ℕ) → cached_in (Some r) ≤ n → cached_in (cond b (Some r) None) ≤ n
main_if true r n le = le
main_if false r n le = omega arith

old_if : {P : Type 0} → (b : Bool) (r : OldAt P) (n : ℕ) → cached_old (Some r) ≤ n → cached_old (cond b (Some r) None) ≤ n
old_if true r n le = le
old_if false r n le = omega arith

-- main records, old ones and Gives show no longer cache
main_few : {P : Type 0} → (from : ℕ) (place : P) (seat : Seat P) (p : ℕ) → cached_in (main_shown from place seat p) ≤ cached_seat seat
main_few from place (held at h) p = main_if (p == at) (Held h) (length h.end.cache) (omega arith)
main_few from place (parked at e) p = omega arith
main_few from place (claimed at to e) p = main_if (p == to) (Expected at place []) (length e.cache) (omega arith)
main_few from place (signalled at to e deferred) p = main_if (p == to) (Expected at place (mails_of from deferred)) (length e.cache) (omega arith)
main_few from place (given at to e resend deferred) p = main_if (p == to) (Expected at place (mails_of from deferred)) (length e.cache) (omega arith)
main_few from place (closed at e) p = main_if (p == at) (Closed e) (length e.cache) (omega arith)
main_few from place gone p = omega arith

old_few : {P : Type 0} → (seat : Seat P) (p : ℕ) → cached_old (old_shown seat p) ≤ cached_seat seat
old_few (parked at e) p = old_if (p == at) (Parked e) (length e.cache) (omega arith)
old_few (claimed at to e) p = old_if (p == at) (Parked e) (length e.cache) (omega arith)
old_few (signalled at to e deferred) p = old_if (p == at) (Signalled e to) (length e.cache) (omega arith)
old_few (held at h) p = omega arith
old_few (given at to e resend deferred) p = omega arith
old_few (closed at e) p = omega arith
old_few gone p = omega arith

give_few : {P : Type 0} → (seat : Seat P) (p q : ℕ) (g : EndAt P) (resend : Option ℕ) (rest : List (BodyAt P)) → Give g resend ∷ rest ≡ gives_in seat p q → length g.cache ≤ cached_seat seat
give_few {P} (given at to e again deferred) p q g resend rest h = by (is_lane p q at to) h
  where
    by : (b : Bool) → Give g resend ∷ rest ≡ cond b (Give e again ∷ []) [] → length g.cache ≤ length e.cache
    by true k = let it : g ≡ e = cc in omega (arith, ap (λ (x : EndAt P). length x.cache) it)
    by false k = cc
give_few (held at k) p q g resend rest h = cc
give_few (parked at e) p q g resend rest h = cc
give_few (claimed at to e) p q g resend rest h = cc
give_few (signalled at to e deferred) p q g resend rest h = cc
give_few (closed at e) p q g resend rest h = cc
give_few gone p q g resend rest h = cc

-- the front frame of a lane meets short caches
module _ {P Q : Type 0} (IsOver : P → Type 0) (binds : Q → EndId → Bool) (w : WorldAt P Q) (plain : PlainAt P Q) (kept : IsKept IsOver binds w plain)
    (n : ℕ) (few : (e : EndId) → e.side < 2 → length (plain.sides e).sent ≤ n) where
  -- where an end lies
  abbrev seat_at : EndId → Seat P
  seat_at e = (kept.sessions.sides e).seat

  -- no cache is longer than what was sent
  seats_few : (e : EndId) → e.side < 2 → cached_seat (seat_at e) ≤ n
  seats_few e lt = seat_few IsOver (kept.sessions.sides e).id (plain.sides (other_end e)) (plain.sides e) (seat_at e) n (few e lt) (sound_at IsOver w plain.sides kept.sessions e lt).1.there.fits

  -- in main records
  mains_few : (p : ℕ) (e : EndId) → e.side < 2 → cached_in ((w.nodes p).main e) ≤ n
  mains_few p e lt =
      let side = kept.sessions.sides e in
      omega (
        arith,
        ap (λ (d : EndId). cached_in ((w.nodes p).main d)) (kept.sessions.ids e),
        ap cached_in ((kept.sessions.shows e lt).mains p),
        main_few (source_for (seat_at (other_end e)) side.seat) side.place side.seat p,
        seats_few e lt,
      )

  -- in old records
  olds_few : (p : ℕ) (e : EndId) → e.side < 2 → cached_old ((w.nodes p).old e) ≤ n
  olds_few p e lt =
      omega (
        arith,
        ap (λ (d : EndId). cached_old ((w.nodes p).old d)) (kept.sessions.ids e),
        ap cached_old ((kept.sessions.shows e lt).olds p),
        old_few (seat_at e) p,
        seats_few e lt,
      )

  -- in the front frame
  gives_few : (p q : ℕ) (g : EndAt P) (resend : Option ℕ) (rest : List (BodyAt P)) → g.id.side < 2 → bodies (w.lanes q p) ≡ Give g resend ∷ rest → length g.cache ≤ n
  gives_few p q g resend rest lt front =
      let e : EndId = g.id in
      let later : List (BodyAt P) = filter (is_give e) rest in
      let own : filter (is_give e) (Give g resend ∷ rest) ≡ Give g resend ∷ later = ap (λ (b : Bool). cond b (Give g resend ∷ later) later) (same_end_self e) in
      let shown : filter (is_give e) (bodies (w.lanes q p)) ≡ gives_in (seat_at e) q p =
      ap (λ (d : EndId). filter (is_give d) (bodies (w.lanes q p))) (sym (kept.sessions.ids e)) ∙ (kept.sessions.shows e lt).gives q p in
      let it : Give g resend ∷ later ≡ gives_in (seat_at e) q p = sym own ∙ sym (ap (filter (is_give e)) front) ∙ shown in
      omega (arith, give_few (seat_at e) q p g resend later it, seats_few e lt)

  own_few : (p q : ℕ) (b : BodyAt P) (rest : List (BodyAt P)) → (subject_of b).side < 2 → bodies (w.lanes q p) ≡ b ∷ rest → cached_with b ≤ n
  own_few p q (Give g resend) rest lt front = gives_few p q g resend rest lt front
  own_few p q (Carry to conn number taken msg) rest lt front = omega arith
  own_few p q (Fin to conn number) rest lt front = omega arith
  own_few p q (Claim of) rest lt front = omega arith
  own_few p q (Signal to conn party taken) rest lt front = omega arith
  own_few p q (Ack of conn) rest lt front = omega arith
  own_few p q (Open sess) rest lt front = omega arith

  -- so the front frame of a lane meets short caches
  pub front_meets_few : (p q : ℕ) (f : FrameAt P) (rest : List (FrameAt P)) → w.lanes q p ≡ f ∷ rest → MeetsFew n (w.nodes p) f.body
  front_meets_few p q f rest front =
      let below : AllByRecursion (λ (b : BodyAt P). (subject_of b).side < 2) (f.body ∷ bodies rest) =
      subst (λ (l : List (FrameAt P)). AllByRecursion (λ (b : BodyAt P). (subject_of b).side < 2) (bodies l)) front (kept.sessions.proper q p) in
      record { main = mains_few p (subject_of f.body) below.0; old = olds_few p (subject_of f.body) below.0; own = own_few p q f.body (bodies rest) below.0 (ap bodies front) }

-- so does the front frame of a lane in a world with Opens, where it is none
pub open_front_meets_few : {P Q : Type 0} → (IsOver : P → Type 0) (binds : Q → EndId → Bool) (blank : P) (w : WorldAt P Q) (plain : PlainAt P Q) → IsOpenKept IsOver binds blank w plain
    → (n : ℕ) → ((e : EndId) → e.side < 2 → length (plain.sides e).sent ≤ n) → (p q : ℕ) (f : FrameAt P) (rest : List (FrameAt P)) → w.lanes q p ≡ f ∷ rest → is_open f.body ≡ false → MeetsFew n (w.nodes p) f.body
open_front_meets_few {P} IsOver binds blank w plain kept n few p q f rest front old =
    let e : EndId = subject_of f.body in
    let lane : (reading blank w).lanes q p ≡ f ∷ without_opens rest = ap without_opens front ∙ ap (λ b. cond (not b) (f ∷ without_opens rest) (without_opens rest)) old in
    let m : MeetsFew n ((reading blank w).nodes p) f.body = front_meets_few IsOver binds (reading blank w) plain kept.kept n few p q f (without_opens rest) lane in
    record { main = by (is_opening w p e) refl m.main; old = m.old; own = m.own }
  where
    by : (b : Bool) → is_opening w p (subject_of f.body) ≡ b
        → cached_in (cond b (Some (Held (new_held (subject_of f.body) blank (opener_of (subject_of f.body).sess)))) ((w.nodes p).main (subject_of f.body))) ≤ n → cached_in ((w.nodes p).main (subject_of f.body)) ≤ n
    by true i le = omega (arith, ap cached_in (kept.bare p (subject_of f.body) i))
    by false i le = le
