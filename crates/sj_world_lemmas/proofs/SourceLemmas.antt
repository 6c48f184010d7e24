-- A Signal comes from an end that is Signalled, and where the numbers are equal.
use Rattle.std.proofs.Common.{◌≡◌, ℕ, ◌+◌, List, [], ◌∷◌, ◌++◌, length, refl, inl, inr}
use Rattle.std.specs.Prelude.{Bool, true, false, Some, None, ◌⊎◌}
use Rattle.sj_base.specs.declared.EndId.{EndId}
use Rattle.sj_base.specs.declared.Msg.{Msg}
use Rattle.sj_rules.specs.Record.{EndAt, BodyAt, Carry, Fin, Signal, HeldAt}
use Rattle.sj_rules.specs.Seat.{Seat, held, parked, claimed, signalled, given, closed, gone, side_of}
use Rattle.sj_rules.specs.PlainSide.{PlainSide}
use Rattle.sj_rules.specs.Numbers.{Pace, level, ahead, behind, NumbersFit, is_over}
use Rattle.sj_rules.specs.Streams.{AreCarries, AreDropped, ComesWhole, mark_of, mark_for, signal_of}
use Rattle.sj_rules.specs.Invariant.{IsSound}
use Rattle.sj_rules.specs.Coming.{Comes}
use Rattle.sj_world_lemmas.proofs.LeadLemmas.{behind_is_signalled}
use Rattle.sj_world_lemmas.proofs.HeldLemmas.{ComesFrom, from_sender}
use Rattle.sj_world_lemmas.proofs.ClosedLemmas.{mark_comes}
use Rattle.sj_world_lemmas.proofs.DeferLemmas.{IsUnder, whole_under}

-- an end that is Signalled
pub record IsSignalled {P : Type 0} (s : Seat P) : Type 0 where
  pub at : ℕ
  pub to : ℕ
  pub end : EndAt P
  pub late : List (BodyAt P)
  pub is : s ≡ signalled at to end late

-- a Signal that is the mark of s
signal_is_mark : {P : Type 0} → (to : EndId) (conn sent taken : ℕ) (s : Seat P) (d : EndId) (c p k : ℕ) (rest : List (BodyAt P)) →
    Signal d c p k ∷ rest ≡ mark_of to conn sent taken s → IsSignalled s
signal_is_mark to conn sent taken (signalled a t e ds) d c p k rest m = record { at = a; to = t; end = e; late = ds; is = refl }
signal_is_mark to conn sent taken s d c p k rest m = absurd (cc m)

-- a Signal among what is dropped
signal_in_loose : {P : Type 0} → (to : EndId) (conn taken : ℕ) (over : Bool) (s : Seat P) (d : EndId) (c p k : ℕ) (rest dropped : List (BodyAt P)) →
    Signal d c p k ∷ rest ≡ dropped ++ signal_of to conn taken s → AreDropped to conn over dropped → IsSignalled s
signal_in_loose to conn taken over (signalled a t e ds) d c p k rest [] m l = record { at = a; to = t; end = e; late = ds; is = refl }
signal_in_loose to conn taken over s d c p k rest [] m l = absurd (cc m)
signal_in_loose to conn taken over s d c p k rest (Carry f g n t v ∷ bs) m l = absurd (cc m)
signal_in_loose to conn taken over s d c p k rest (Fin f g n ∷ bs) m l = absurd (cc m)
signal_in_loose to conn taken over s d c p k rest (b ∷ bs) m l = absurd l

-- a Signal after Carries
signal_in_whole : {P : Type 0} → (to : EndId) (conn number low high : ℕ) (mark : List (BodyAt P)) (msgs : List Msg) (d : EndId) (c p k : ℕ) (rest carries : List (BodyAt P)) →
    Signal d c p k ∷ rest ≡ carries ++ mark → AreCarries to conn number low high msgs carries → Signal d c p k ∷ rest ≡ mark
signal_in_whole to conn number low high mark [] d c p k rest [] e a = e
signal_in_whole to conn number low high mark [] d c p k rest (f ∷ fs) e a = absurd a
signal_in_whole to conn number low high mark (m ∷ ms) d c p k rest [] e a = absurd a
signal_in_whole to conn number low high mark (m ∷ ms) d c p k rest (f ∷ fs) e a = absurd (cc (e, a.2))

-- a Signal that comes to a Held end
pub signal_from : {P : Type 0} → (to : EndId) (x y : PlainSide P) (s : Seat P) (h : HeldAt P) (d : EndId) (c p k : ℕ) (rest : List (BodyAt P)) →
    ComesFrom to x y s h (Signal d c p k ∷ rest) → IsSignalled s
signal_from {P} to x y s h d c p k rest w = by w.comes
  where
    by : (h.fin ≡ false) × ComesWhole to h.end.conn (y.taken + length h.untaken) h.end.base x.taken (mark_for to h.end.conn x s) w.rest (Signal d c p k ∷ rest)
        ⊎ (h.fin ≡ true) × (is_over s ≡ true) × (◌≡◌ {A = List (BodyAt P)} (Signal d c p k ∷ rest) []) × (w.rest ≡ []) → IsSignalled s
    by (inl v) = signal_is_mark to h.end.conn (length x.sent) x.taken s d c p k rest
        (signal_in_whole to h.end.conn (y.taken + length h.untaken) h.end.base x.taken (mark_for to h.end.conn x s) w.rest d c p k rest v.1.carries v.1.split v.1.are)
    by (inr v) = absurd (cc v.2)

-- what comes to a Held end is of its number
pub comes_under : {P : Type 0} → (to : EndId) (x y : PlainSide P) (s : Seat P) (h : HeldAt P) (f : BodyAt P) (rest : List (BodyAt P)) →
    ComesFrom to x y s h (f ∷ rest) → IsUnder to h.end.conn f
comes_under {P} to x y s h f rest w = by w.comes
  where
    by : (h.fin ≡ false) × ComesWhole to h.end.conn (y.taken + length h.untaken) h.end.base x.taken (mark_for to h.end.conn x s) w.rest (f ∷ rest)
        ⊎ (h.fin ≡ true) × (is_over s ≡ true) × (◌≡◌ {A = List (BodyAt P)} (f ∷ rest) []) × (w.rest ≡ []) → IsUnder to h.end.conn f
    by (inl v) = (whole_under to h.end.conn (y.taken + length h.untaken) h.end.base x.taken (length x.sent) x.taken s w.rest (f ∷ rest) v.1).0
    by (inr v) = absurd (cc v.2)

module _ {P : Type 0} (IsOver : P → Type 0) (x y : PlainSide P) (sid rid : EndId) (ps pr : P) (so sl : List (BodyAt P)) (b : ℕ) (d : EndId) (c p k : ℕ) (ro rest : List (BodyAt P)) where
  -- one that comes to a Parked end
  from_at_parked : (e : EndAt P) (s : Seat P) → NumbersFit level s (parked b e) → Comes level rid x y s (parked b e) (Signal d c p k ∷ rest) → IsSignalled s
  from_at_parked e gone n w = absurd (cc n.1)
  from_at_parked e (given a t g None ds) n w = signal_in_loose rid e.conn x.taken false (given a t g None ds) d c p k rest w.1.dropped w.1.split w.1.are
  from_at_parked e (given a t g (Some q) ds) n w = absurd (cc w.0)
  from_at_parked e s n w = signal_in_loose rid e.conn x.taken (is_over s) s d c p k rest w.dropped w.split w.are

  -- the same where its Claim is on the way
  from_at_claimed : (u : ℕ) (e : EndAt P) (s : Seat P) → NumbersFit level s (claimed b u e) → Comes level rid x y s (claimed b u e) (Signal d c p k ∷ rest) → IsSignalled s
  from_at_claimed u e gone n w = absurd (cc n.1)
  from_at_claimed u e (given a t g None ds) n w = from_at_parked e (given a t g None ds) n w
  from_at_claimed u e (given a t g (Some q) ds) n w = absurd (cc w.0)
  from_at_claimed u e s n w = from_at_parked e s n w

  -- the lemmas passes_held, passes_parked, passes_claimed and passes_closed cover all
  pub signal_at_held : (pace : Pace) (s : Seat P) (h : HeldAt P) →
      IsSound IsOver pace x y (side_of sid ps s so sl) (side_of rid pr (held b h) ro (Signal d c p k ∷ rest)) → (pace ≡ level) × IsSignalled s
  signal_at_held level s h sound =
      (refl, signal_from rid x y s h d c p k rest (from_sender rid x y b h s (Signal d c p k) rest sound.numbers sound.there.comes))
  signal_at_held (ahead z) s h sound = absurd (behind_is_signalled z s (held b h) sound.numbers)
  signal_at_held (behind z) s h sound = absurd (cc sound.there.comes.0)

  -- the same at a Parked end
  pub signal_at_parked : (pace : Pace) (s : Seat P) (e : EndAt P) →
      IsSound IsOver pace x y (side_of sid ps s so sl) (side_of rid pr (parked b e) ro (Signal d c p k ∷ rest)) → (pace ≡ level) × IsSignalled s
  signal_at_parked level s e sound = (refl, from_at_parked e s sound.numbers sound.there.comes)
  signal_at_parked (ahead z) s e sound = absurd (behind_is_signalled z s (parked b e) sound.numbers)
  signal_at_parked (behind z) s e sound = absurd (cc sound.there.comes.0)

  -- where its Claim is on the way
  pub signal_at_claimed : (pace : Pace) (s : Seat P) (u : ℕ) (e : EndAt P) →
      IsSound IsOver pace x y (side_of sid ps s so sl) (side_of rid pr (claimed b u e) ro (Signal d c p k ∷ rest)) → (pace ≡ level) × IsSignalled s
  signal_at_claimed level s u e sound = (refl, from_at_claimed u e s sound.numbers sound.there.comes)
  signal_at_claimed (ahead z) s u e sound = absurd (behind_is_signalled z s (claimed b u e) sound.numbers)
  signal_at_claimed (behind z) s u e sound = absurd (cc sound.there.comes.0)

  -- and at a Closed end
  pub signal_at_closed : (pace : Pace) (s : Seat P) (e : EndAt P) →
      IsSound IsOver pace x y (side_of sid ps s so sl) (side_of rid pr (closed b e) ro (Signal d c p k ∷ rest)) → (pace ≡ level) × IsSignalled s
  signal_at_closed level s e sound =
      (refl, signal_is_mark rid e.conn (length x.sent) x.taken s d c p k rest (mark_comes rid x y b e s (Signal d c p k) rest sound.there.comes))
  signal_at_closed (ahead z) s e sound = absurd (behind_is_signalled z s (closed b e) sound.numbers)
  signal_at_closed (behind z) s e sound = absurd (cc sound.there.comes.0)
