-- Two Signals that cross: each end goes to its new party, with a number from which it resends.
use Rattle.std.proofs.Common.{◌≡◌, ℕ, suc, ◌+◌, ◌-◌, ◌<◌, ◌≤◌, List, [], ◌∷◌, ◌++◌, drop, refl, sym, ap, arith, ◌∙◌}
use Rattle.std.specs.Prelude.{Bool, true, false, Some, ◌==◌, nat_lt, nat_le}
use Rattle.std.proofs.lemmas.Bool.{le-leb, eq-eqb}
use Rattle.std.proofs.lemmas.List.{drop-drop}
use Rattle.sj_base.specs.declared.EndId.{EndId}
use Rattle.sj_rules.specs.Record.{EndAt, BodyAt, Carry, Fin, Claim, Signal, Ack, Give, Open}
use Rattle.sj_rules.specs.Limits.{limit_of_conns}
use Rattle.sj_rules.specs.Rows.{IsPick, trimmed_end, end_with_peer, signal_fits, crossing_body}
use Rattle.sj_rules.specs.Seat.{signalled, given, side_of}
use Rattle.sj_rules.specs.PlainSide.{PlainSide, CountsFit}
use Rattle.sj_rules.specs.Counts.{Agrees}
use Rattle.sj_rules.specs.Numbers.{level, behind, by_signal}
use Rattle.sj_rules.specs.Streams.{AreDropped, ComesLoose}
use Rattle.sj_rules.specs.Invariant.{IsSound}

-- the Signal is all that comes
pub record OnlySignal {P : Type 0} (to : EndId) (conn party taken c p k : ℕ) (rest : List (BodyAt P)) : Type 0 where
  pub conn_is : c ≡ conn
  pub party_is : p ≡ party
  pub taken_is : k ≡ taken
  pub rest_is : rest ≡ []

only_in : {P : Type 0} → (to : EndId) (conn party taken : ℕ) (over : Bool) (d : EndId) (c p k : ℕ) (rest dropped : List (BodyAt P)) →
    Signal d c p k ∷ rest ≡ dropped ++ Signal to conn party taken ∷ [] → AreDropped to conn over dropped →
    OnlySignal to conn party taken c p k rest
only_in to conn party taken over d c p k rest [] e a = record { conn_is = cc e; party_is = cc e; taken_is = cc e; rest_is = cc e }
only_in to conn party taken over d c p k rest (Carry f g n t m ∷ bs) e a = absurd (cc e)
only_in to conn party taken over d c p k rest (Fin f g n ∷ bs) e a = absurd (cc e)
only_in to conn party taken over d c p k rest (Claim f ∷ bs) e a = absurd a
only_in to conn party taken over d c p k rest (Signal f g q t ∷ bs) e a = absurd a
only_in to conn party taken over d c p k rest (Ack f g ∷ bs) e a = absurd a
only_in to conn party taken over d c p k rest (Open f ∷ bs) e a = absurd a
only_in to conn party taken over d c p k rest (Give f g ∷ bs) e a = absurd a

pub only_signal : {P : Type 0} → (to : EndId) (conn party taken : ℕ) (over : Bool) (d : EndId) (c p k : ℕ) (rest : List (BodyAt P)) →
    ComesLoose to conn over (Signal to conn party taken ∷ []) (Signal d c p k ∷ rest) → OnlySignal to conn party taken c p k rest
only_signal to conn party taken over d c p k rest l = only_in to conn party taken over d c p k rest l.dropped l.split l.are

-- a trimmed cache is still what was sent from its base on
pub trim_agrees : {P : Type 0} → (pick : ℕ → ℕ → ℕ) → IsPick pick → (id : EndId) (e : EndAt P) (y : PlainSide P) (peer told : ℕ) →
    Agrees id e y → Agrees id (trimmed_end pick (end_with_peer e peer) told) y
trim_agrees pick picks id e y peer told a =
    let up : e.base ≤ pick e.base told = (picks e.base told).0 in
    let sum : e.base + (pick e.base told - e.base) ≡ pick e.base told = omega arith in
    record {
      name = a.name;
      hops = a.hops;
      sent = a.sent;
      taken = a.taken;
      cache = ap (λ l. drop (pick e.base told - e.base) l) a.cache
          ∙ drop-drop (pick e.base told - e.base) e.base y.sent ∙ ap (λ n. drop n y.sent) sum;
    }

pub signal_passes : {P : Type 0} → (e : EndAt P) (c k : ℕ) → c ≡ e.conn → e.conn < limit_of_conns → e.base ≤ k → k ≤ e.sent →
    signal_fits e e.peer c k ≡ true
signal_passes e c k conn few low high =
    let a : (c == e.conn) ≡ true = eq-eqb c e.conn conn in
    let b : nat_lt e.conn limit_of_conns ≡ true = le-leb (suc e.conn) limit_of_conns few in
    let f : (e.peer == e.peer) ≡ true = eq-eqb e.peer e.peer refl in
    let g : nat_le e.base k ≡ true = le-leb e.base k low in
    let h : nat_le k e.sent ≡ true = le-leb k e.sent high in
    simp (a, b, f, g, h)

module _ {P : Type 0} (IsOver : P → Type 0) (pick : ℕ → ℕ → ℕ) (picks : IsPick pick) (x y : PlainSide P) (counts : CountsFit x y) where
  -- the first of two Signals that cross: r goes as a Give, and is ahead of s, to whom r's own
  -- Signal will report it
  pub crosses_first : (sid rid : EndId) (ps pr : P) (a t b u : ℕ) (es er : EndAt P) (ds dr so sl rl rest : List (BodyAt P)) (d : EndId) (c p k : ℕ) →
      IsSound IsOver level x y (side_of sid ps (signalled a t es ds) so sl) (side_of rid pr (signalled b u er dr) (Signal d c p k ∷ rest) rl) →
      (crossing_body pick er er.peer c p k ≡ Some (Give (trimmed_end pick (end_with_peer er p) k) (Some k)))
      × IsSound IsOver (behind by_signal) x y (side_of sid ps (signalled a t es ds) so sl)
      (side_of rid pr (given b u (trimmed_end pick (end_with_peer er p) k) (Some k) dr) rest rl)
  crosses_first sid rid ps pr a t b u es er ds dr so sl rl rest d c p k sound =
      let only : OnlySignal rid er.conn t x.taken c p k rest = only_signal rid er.conn t x.taken false d c p k rest sound.there.old in
      let fits : Agrees rid er y × (er.base ≤ x.taken) = sound.there.fits in
      let numbers : (es.conn ≡ er.conn) × (es.peer ≡ b) × (er.peer ≡ a) = sound.numbers in
      let hops : (es.conn + 1 + 1 ≤ x.hops + y.hops) × (er.conn + 1 + 1 ≤ x.hops + y.hops) = sound.hops in
      let passes : signal_fits er er.peer c k ≡ true = signal_passes er c k only.conn_is
      (omega (arith, hops.1, counts.hops)) (omega (arith, fits.1, only.taken_is)) (omega (arith, only.taken_is, counts.fewer, fits.0.sent)) in
      let base : pick er.base k ≤ x.taken = omega (arith, (picks er.base k).1, fits.1, only.taken_is) in
      let there : (rl ≡ []) × (dr ≡ []) = sound.there.comes in (
        simp passes,
        record {
          others = sound.others;
          numbers = (ap (λ n. n + 1) (sym numbers.0), only.party_is);
          hops = omega (arith, hops.1);
          there = record {
            fits = (trim_agrees pick picks rid er y p k fits.0, base);
            place = sound.there.place;
            resend = tt;
            comes = (there.0, there.1);
            old = only.rest_is;
          };
          back = record {
            fits = sound.back.fits;
            place = sound.back.place;
            resend = (only.taken_is, omega arith);
            comes = (sound.back.comes.0, sound.back.comes.1);
            old = sound.back.old;
          };
        },
      )
