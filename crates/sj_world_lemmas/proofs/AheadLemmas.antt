-- An end that lags comes level: by an Ack, or by the second of two Signals that cross.
use Rattle.std.proofs.Common.{◌≡◌, ℕ, suc, ◌+◌, ◌<◌, ◌≤◌, List, [], ◌∷◌, ◌++◌, length, refl, sym, ap, arith, ◌∙◌, inl, append-nil}
use Rattle.std.specs.Prelude.{Bool, true, false, Option, Some, None, ◌==◌, nat_lt}
use Rattle.std.proofs.lemmas.Bool.{le-leb, eq-eqb}
use Rattle.sj_base.specs.declared.EndId.{EndId}
use Rattle.sj_rules.specs.Record.{EndAt, BodyAt, Carry, Fin, Claim, Signal, Ack, Give, Open}
use Rattle.sj_rules.specs.Limits.{limit_of_conns}
use Rattle.sj_rules.specs.Rows.{IsPick, trimmed_end, end_with_peer, signal_fits, crossing_body, acked_body}
use Rattle.sj_rules.specs.Seat.{Seat, held, parked, claimed, signalled, given, closed, gone, conn_of, sender_of, side_of}
use Rattle.sj_rules.specs.PlainSide.{PlainSide, untaken_of, CountsFit}
use Rattle.sj_rules.specs.Counts.{Agrees, SeatFits}
use Rattle.sj_rules.specs.Numbers.{Cause, level, ahead, behind, by_ack, by_signal, NumbersFit, LeadsBy, IsNotGiven, pending, is_over}
use Rattle.sj_rules.specs.Streams.{AreDropped, ComesWhole, ComesLoose, mark_for}
use Rattle.sj_rules.specs.Invariant.{IsSound}
use Rattle.sj_rules.specs.Coming.{Comes, AreOld}
use Rattle.sj_world_lemmas.proofs.CarryLemmas.{carries_from_lower}
use Rattle.sj_world_lemmas.proofs.CrossingLemmas.{OnlySignal, only_signal, trim_agrees, signal_passes}

-- the Ack is all that comes
pub record OnlyAck {P : Type 0} (conn c : ℕ) (rest : List (BodyAt P)) : Type 0 where
  pub conn_is : c ≡ conn
  pub rest_is : rest ≡ []

ack_in : {P : Type 0} → (to : EndId) (conn : ℕ) (over : Bool) (d : EndId) (c : ℕ) (rest dropped : List (BodyAt P)) →
    Ack d c ∷ rest ≡ dropped ++ Ack to conn ∷ [] → AreDropped to conn over dropped → OnlyAck conn c rest
ack_in to conn over d c rest [] e a = record { conn_is = cc e; rest_is = cc e }
ack_in to conn over d c rest (Carry f g n t m ∷ bs) e a = absurd (cc e)
ack_in to conn over d c rest (Fin f g n ∷ bs) e a = absurd (cc e)
ack_in to conn over d c rest (Claim f ∷ bs) e a = absurd a
ack_in to conn over d c rest (Signal f g q t ∷ bs) e a = absurd a
ack_in to conn over d c rest (Ack f g ∷ bs) e a = absurd a
ack_in to conn over d c rest (Open f ∷ bs) e a = absurd a
ack_in to conn over d c rest (Give f g ∷ bs) e a = absurd a

pub only_ack : {P : Type 0} → (to : EndId) (conn : ℕ) (over : Bool) (d : EndId) (c : ℕ) (rest : List (BodyAt P)) →
    ComesLoose to conn over (Ack to conn ∷ []) (Ack d c ∷ rest) → OnlyAck conn c rest
only_ack to conn over d c rest l = ack_in to conn over d c rest l.dropped l.split l.are

none_dropped : {P : Type 0} → (to : EndId) (conn : ℕ) (over : Bool) (frames : List (BodyAt P)) → frames ≡ [] → ComesLoose to conn over [] frames
none_dropped to conn over frames e = record { dropped = []; split = e; are = tt }

-- r goes to its new party: `went` is its end under the next number, with reported counts from
-- `told` on
module _ {P : Type 0} (IsOver : P → Type 0) (x y : PlainSide P) (sid rid : EndId) (b u : ℕ) (er went : EndAt P) (dr : List (BodyAt P))
    (next : went.conn ≡ er.conn + 1) where
  level_numbers : (resend : Option ℕ) (s : Seat P) → NumbersFit (ahead by_signal) s (signalled b u er dr) → went.peer ≡ sender_of s →
      NumbersFit level s (given b u went resend dr)
  level_numbers resend (held a h) n p = (n.0 ∙ sym next, n.1, p)
  level_numbers resend (parked a e) n p = (n.0 ∙ sym next, n.1, p)
  level_numbers resend (claimed a t e) n p = (n.0 ∙ sym next, n.1, p)
  level_numbers resend (signalled a t e ds) n p = (n.0 ∙ sym next, n.1, p)
  level_numbers resend (given a t e r ds) n p = (n.0 ∙ sym next, n.1, p)
  level_numbers resend (closed a e) n p = (n.0 ∙ sym next, n.1, p)
  level_numbers resend gone n p = absurd (cc n.0)

  whole_level : (low : ℕ) (mark mark' : List (BodyAt P)) (frames : List (BodyAt P)) → mark ≡ mark' → went.base ≤ low →
      ComesWhole rid (er.conn + 1) y.taken low x.taken mark (untaken_of x y) frames → ComesWhole rid went.conn y.taken went.base x.taken mark' (untaken_of x y) frames
  whole_level low mark mark' frames e l w = record {
    carries = w.carries;
    split = w.split ∙ ap (λ m. w.carries ++ m) e;
    are = rw next (carries_from_lower rid (er.conn + 1) y.taken went.base low x.taken (untaken_of x y) w.carries l w.are);
  }

  -- what comes to r is the same as before
  level_comes : (low : ℕ) (resend : Option ℕ) (s : Seat P) (rl : List (BodyAt P)) → went.base ≤ low → IsNotGiven s →
      ComesWhole rid (er.conn + 1) y.taken low x.taken (mark_for rid (er.conn + 1) x s) (untaken_of x y) (dr ++ rl) →
      Comes level rid x y s (given b u went resend dr) rl
  level_comes low resend (held a h) rl l g w = whole_level low _ _ (dr ++ rl) refl l w
  level_comes low resend (parked a e) rl l g w = whole_level low _ _ (dr ++ rl) refl l w
  level_comes low resend (claimed a t e) rl l g w = whole_level low _ _ (dr ++ rl) refl l w
  level_comes low resend (signalled a t e ds) rl l g w = whole_level low _ _ (dr ++ rl) (ap (λ n. Signal rid n t x.taken ∷ []) (sym next)) l w
  level_comes low resend (given a t e r ds) rl l g w = absurd g
  level_comes low resend (closed a e) rl l g w = whole_level low _ _ (dr ++ rl) (ap (λ n. Fin rid n (length x.sent) ∷ []) (sym next)) l w
  level_comes low resend gone rl l g w = whole_level low _ _ (dr ++ rl) (ap (λ n. Fin rid n (length x.sent) ∷ []) (sym next)) l w

  -- what came to s before it was ahead is all that waits for it
  ack_back : (s : Seat P) (sl : List (BodyAt P)) → IsNotGiven s → SeatFits IsOver sid y x s →
      Comes (behind by_ack) sid y x (signalled b u er dr) s sl → Comes level sid y x (given b u went None dr) s sl
  ack_back (held a h) sl g f c = (
    tt,
    record {
      rest = [];
      all = sym c.1.0 ∙ sym (append-nil h.untaken);
      comes = inl (c.1.1, record { carries = []; split = c.0; are = f.2 });
    },
  )
  ack_back (parked a e) sl g f c = (tt, none_dropped sid e.conn false sl c.0)
  ack_back (claimed a t e) sl g f c = (tt, none_dropped sid e.conn false sl c.0)
  ack_back (signalled a t e ds) sl g f c = (c.0, c.1)
  ack_back (given a t e r ds) sl g f c = absurd g
  ack_back (closed a e) sl g f c = (tt, c.0)
  ack_back gone sl g f c = absurd c.1

  -- the same, where the end will be sent again
  signal_back : (k : ℕ) (s : Seat P) (sl : List (BodyAt P)) →
      Comes (behind by_signal) sid y x (signalled b u er dr) s sl → Comes level sid y x (given b u went (Some k) dr) s sl
  signal_back k (held a h) sl c = (c.0, (c.1.0, c.1.1))
  signal_back k (parked a e) sl c = (c.0, tt)
  signal_back k (claimed a t e) sl c = (c.0, tt)
  signal_back k (signalled a t e ds) sl c = (c.0, c.1)
  signal_back k (given a t e r ds) sl c = (c.0, c.1)
  signal_back k (closed a e) sl c = (c.0, tt)
  signal_back k gone sl c = absurd c.1

  -- what comes to r, also where s is in a Give
  signal_comes : (low : ℕ) (resend : Option ℕ) (s : Seat P) (rl : List (BodyAt P)) → went.base ≤ low → low ≡ x.taken →
      Comes (ahead by_signal) rid x y s (signalled b u er dr) rl → Comes level rid x y s (given b u went resend dr) rl
  signal_comes low resend (held a h) rl l e w = level_comes low resend (held a h) rl l tt (rw e w)
  signal_comes low resend (parked a p) rl l e w = level_comes low resend (parked a p) rl l tt (rw e w)
  signal_comes low resend (claimed a t p) rl l e w = level_comes low resend (claimed a t p) rl l tt (rw e w)
  signal_comes low resend (signalled a t p ds) rl l e w = level_comes low resend (signalled a t p ds) rl l tt (rw e w)
  signal_comes low resend (given a t p None ds) rl l e w = (w.0, whole_level low _ _ (dr ++ rl) refl l (rw e w.1))
  signal_comes low resend (given a t p (Some k) ds) rl l e w = w
  signal_comes low resend (closed a p) rl l e w = level_comes low resend (closed a p) rl l tt (rw e w)
  signal_comes low resend gone rl l e w = level_comes low resend gone rl l tt (rw e w)

  level_old : (cause : Cause) (resend : Option ℕ) (s : Seat P) (so : List (BodyAt P)) →
      AreOld (behind cause) sid y (signalled b u er dr) s so → AreOld level sid y (given b u went resend dr) s so
  level_old cause resend (held a h) so o = o
  level_old cause resend (parked a e) so o = o
  level_old cause resend (claimed a t e) so o = o
  level_old cause resend (signalled a t e ds) so o = none_dropped sid e.conn false so o
  level_old cause resend (given a t e r ds) so o = o
  level_old cause resend (closed a e) so o = o
  level_old cause resend gone so o = o

ahead_numbers : {P : Type 0} → (cause : Cause) (s : Seat P) (b u : ℕ) (er : EndAt P) (dr : List (BodyAt P)) →
    NumbersFit (ahead cause) s (signalled b u er dr) → LeadsBy cause s (signalled b u er dr)
ahead_numbers cause (held a h) b u er dr n = n
ahead_numbers cause (parked a e) b u er dr n = n
ahead_numbers cause (claimed a t e) b u er dr n = n
ahead_numbers cause (signalled a t e ds) b u er dr n = n
ahead_numbers cause (given a t e r ds) b u er dr n = n
ahead_numbers cause (closed a e) b u er dr n = n
ahead_numbers cause gone b u er dr n = absurd (cc n.0)

-- ahead by an Ack is ahead
by_any : {P : Type 0} → (s : Seat P) (b u : ℕ) (er : EndAt P) (dr : List (BodyAt P)) →
    NumbersFit (ahead by_ack) s (signalled b u er dr) → NumbersFit (ahead by_signal) s (signalled b u er dr)
by_any (held a h) b u er dr n = (n.0, n.1)
by_any (parked a e) b u er dr n = (n.0, n.1)
by_any (claimed a t e) b u er dr n = (n.0, n.1)
by_any (signalled a t e ds) b u er dr n = (n.0, n.1)
by_any (given a t e r ds) b u er dr n = (n.0, n.1)
by_any (closed a e) b u er dr n = (n.0, n.1)
by_any gone b u er dr n = absurd (cc n.0)

comes_whole_of : {P : Type 0} → (rid : EndId) (x y : PlainSide P) (s : Seat P) (b u : ℕ) (er : EndAt P) (dr rl : List (BodyAt P)) → IsNotGiven s →
    Comes (ahead by_ack) rid x y s (signalled b u er dr) rl →
    ComesWhole rid (er.conn + 1) y.taken er.base x.taken (mark_for rid (er.conn + 1) x s) (untaken_of x y) (dr ++ rl)
comes_whole_of rid x y (held a h) b u er dr rl g c = c
comes_whole_of rid x y (parked a e) b u er dr rl g c = c
comes_whole_of rid x y (claimed a t e) b u er dr rl g c = c
comes_whole_of rid x y (signalled a t e ds) b u er dr rl g c = c
comes_whole_of rid x y (given a t e r ds) b u er dr rl g c = absurd g
comes_whole_of rid x y (closed a e) b u er dr rl g c = c
comes_whole_of rid x y gone b u er dr rl g c = c

module _ {P : Type 0} (IsOver : P → Type 0) (x y : PlainSide P) (counts : CountsFit x y) where
  -- the Ack of r: r goes as a Give, and the two ends are level
  pub acks : (sid rid : EndId) (ps pr : P) (s : Seat P) (b u : ℕ) (er : EndAt P) (dr so sl rl rest : List (BodyAt P)) (d : EndId) (c : ℕ) →
      IsSound IsOver (ahead by_ack) x y (side_of sid ps s so sl) (side_of rid pr (signalled b u er dr) (Ack d c ∷ rest) rl) →
      (acked_body er er.peer c ≡ Some (Give (end_with_peer er er.peer) None))
      × IsSound IsOver level x y (side_of sid ps s so sl) (side_of rid pr (given b u (end_with_peer er er.peer) None dr) rest rl)
  acks sid rid ps pr s b u er dr so sl rl rest d c sound =
      let went : EndAt P = end_with_peer er er.peer in
      let only : OnlyAck er.conn c rest = only_ack rid er.conn (is_over s) d c rest sound.there.old in
      let leads : LeadsBy by_ack s (signalled b u er dr) = ahead_numbers by_ack s b u er dr sound.numbers in
      let fits : Agrees rid er y × (er.base ≤ x.taken) = sound.there.fits in
      let hops : conn_of s + pending s ≤ x.hops + y.hops = sound.hops in
      let few : er.conn < limit_of_conns = omega (arith, hops, leads.0, counts.hops) in
      let e1 : (c == er.conn) ≡ true = eq-eqb c er.conn only.conn_is in
      let e2 : nat_lt er.conn limit_of_conns ≡ true = le-leb (suc er.conn) limit_of_conns few in
      let e3 : (er.peer == er.peer) ≡ true = eq-eqb er.peer er.peer refl in (
        simp (e1, e2, e3),
        record {
          others = sound.others;
          numbers = level_numbers IsOver x y sid rid b u er went dr refl None s (by_any s b u er dr sound.numbers) leads.2;
          hops = (omega (arith, hops), omega (arith, hops, leads.0));
          there = record {
            fits = (record { name = fits.0.name; hops = fits.0.hops; sent = fits.0.sent; taken = fits.0.taken; cache = fits.0.cache }, fits.1);
            place = sound.there.place;
            resend = sound.there.resend;
            comes = level_comes IsOver x y sid rid b u er went dr refl er.base None s rl (omega arith) leads.3
                (comes_whole_of rid x y s b u er dr rl leads.3 sound.there.comes);
            old = only.rest_is;
          };
          back = record {
            fits = sound.back.fits;
            place = sound.back.place;
            resend = tt;
            comes = ack_back IsOver x y sid rid b u er went dr refl s sl leads.3 sound.back.fits sound.back.comes;
            old = level_old IsOver x y sid rid b u er went dr refl by_ack None s so sound.back.old;
          };
        },
      )

module _ {P : Type 0} (IsOver : P → Type 0) (pick : ℕ → ℕ → ℕ) (picks : IsPick pick) (x y : PlainSide P) (counts : CountsFit x y) where
  -- the second of two Signals that cross: r goes as a Give too, and the two ends are level
  pub crosses_second : (sid rid : EndId) (ps pr : P) (s : Seat P) (b u : ℕ) (er : EndAt P) (dr so sl rl rest : List (BodyAt P)) (d : EndId) (c p k : ℕ) →
      IsSound IsOver (ahead by_signal) x y (side_of sid ps s so sl) (side_of rid pr (signalled b u er dr) (Signal d c p k ∷ rest) rl) →
      (crossing_body pick er er.peer c p k ≡ Some (Give (trimmed_end pick (end_with_peer er p) k) (Some k)))
      × IsSound IsOver level x y (side_of sid ps s so sl)
      (side_of rid pr (given b u (trimmed_end pick (end_with_peer er p) k) (Some k) dr) rest rl)
  crosses_second sid rid ps pr s b u er dr so sl rl rest d c p k sound =
      let went : EndAt P = trimmed_end pick (end_with_peer er p) k in
      let only : OnlySignal rid er.conn (sender_of s) x.taken c p k rest = only_signal rid er.conn (sender_of s) x.taken (is_over s) d c p k rest sound.there.old in
      let leads : LeadsBy by_signal s (signalled b u er dr) = ahead_numbers by_signal s b u er dr sound.numbers in
      let fits : Agrees rid er y × (er.base ≤ x.taken) = sound.there.fits in
      let hops : conn_of s + pending s ≤ x.hops + y.hops = sound.hops in
      let passes : signal_fits er er.peer c k ≡ true = signal_passes er c k only.conn_is
      (omega (arith, hops, leads.0, counts.hops)) (omega (arith, fits.1, only.taken_is)) (omega (arith, only.taken_is, counts.fewer, fits.0.sent)) in
      let base : pick er.base k ≤ x.taken = omega (arith, (picks er.base k).1, fits.1, only.taken_is) in (
        simp passes,
        record {
          others = sound.others;
          numbers = level_numbers IsOver x y sid rid b u er went dr refl (Some k) s sound.numbers only.party_is;
          hops = (omega (arith, hops), omega (arith, hops, leads.0));
          there = record {
            fits = (trim_agrees pick picks rid er y p k fits.0, base);
            place = sound.there.place;
            resend = sound.there.resend;
            comes = signal_comes IsOver x y sid rid b u er went dr refl x.taken (Some k) s rl base refl sound.there.comes;
            old = only.rest_is;
          };
          back = record {
            fits = sound.back.fits;
            place = sound.back.place;
            resend = (only.taken_is, omega arith);
            comes = signal_back IsOver x y sid rid b u er went dr refl k s sl sound.back.comes;
            old = level_old IsOver x y sid rid b u er went dr refl by_signal (Some k) s so sound.back.old;
          };
        },
      )
