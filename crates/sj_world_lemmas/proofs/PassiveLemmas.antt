-- A Signal at an end that is Parked or Closed: an Ack, and the cache again; where the end is
-- Closed, its Fin too.
use Rattle.std.proofs.Common.{◌≡◌, ℕ, ◌+◌, ◌<◌, ◌≤◌, List, [], ◌∷◌, ◌++◌, length, drop, sym, ap, arith, ◌∙◌, append-nil}
use Rattle.std.specs.Prelude.{true, false, Some}
use Rattle.sj_base.specs.declared.EndId.{EndId}
use Rattle.sj_rules.specs.Record.{EndAt, BodyAt, Fin, Signal, Ack, other_end}
use Rattle.sj_rules.specs.Limits.{limit_of_conns}
use Rattle.sj_rules.specs.Rows.{IsPick, Worked, trimmed_end, end_with_peer, signal_fits, passive, passive_closed, numbered_carries, cached_from, resent_posts}
use Rattle.sj_rules.specs.Seat.{parked, claimed, signalled, closed, side_of}
use Rattle.sj_rules.specs.PlainSide.{PlainSide, untaken_of, CountsFit}
use Rattle.sj_rules.specs.Counts.{Agrees}
use Rattle.sj_rules.specs.Numbers.{level, behind, by_ack}
use Rattle.sj_rules.specs.Invariant.{IsSound}
use Rattle.sj_world_lemmas.proofs.CrossingLemmas.{OnlySignal, only_signal, trim_agrees, signal_passes}
use Rattle.sj_world_lemmas.proofs.SignalLemmas.{numbered_are, cached_is, marked}

-- what a Signal that fits makes of the end
abbrev pub passed_on : {P : Type 0} → (ℕ → ℕ → ℕ) → EndAt P → (party taken : ℕ) → EndAt P
passed_on pick e p k = trimmed_end pick (end_with_peer e p) k

-- what the other end gets then, under its coming number
abbrev pub passed_again : {P : Type 0} → (ℕ → ℕ → ℕ) → EndId → EndAt P → (party taken : ℕ) → List (BodyAt P)
passed_again pick sid e p k = numbered_carries sid (e.conn + 1) e.taken k (cached_from (passed_on pick e p k) k)

-- what the row gives, at an end that isn't Closed
abbrev pub passes_to : {P : Type 0} → (ℕ → ℕ → ℕ) → EndAt P → (party taken : ℕ) → Worked P (EndAt P)
passes_to pick e p k = record {
  state = passed_on pick e p k;
  posts = record { party = e.peer; body = Ack (other_end e.id) e.conn } ∷ resent_posts (passed_on pick e p k) k;
}

-- at one that is
abbrev pub closes_to : {P : Type 0} → (ℕ → ℕ → ℕ) → EndAt P → (party taken : ℕ) → Worked P (EndAt P)
closes_to pick e p k = record {
  state = passed_on pick e p k;
  posts = (record { party = e.peer; body = Ack (other_end e.id) e.conn } ∷ resent_posts (passed_on pick e p k) k)
      ++ record { party = p; body = Fin (other_end e.id) (e.conn + 1) e.sent } ∷ [];
}

-- the Signal fits, and what is sent again is all that waits
record Passed {P : Type 0} (pick : ℕ → ℕ → ℕ) (x y : PlainSide P) (sid rid : EndId) (e es : EndAt P) (c p k : ℕ) : Type 0 where
  passes : signal_fits e e.peer c k ≡ true
  agrees : Agrees rid (passed_on pick e p k) y
  base : pick e.base k ≤ x.taken
  again : passed_again {P = P} pick sid e p k ≡ numbered_carries sid (es.conn + 1) y.taken x.taken (drop x.taken y.sent)

-- from the facts of the session
passed : {P : Type 0} → (pick : ℕ → ℕ → ℕ) → IsPick pick → (x y : PlainSide P) → CountsFit x y → (sid rid : EndId) (e es : EndAt P) (c p k : ℕ) →
    Agrees rid e y → e.base ≤ x.taken → c ≡ e.conn → k ≡ x.taken → es.conn ≡ e.conn → e.conn < limit_of_conns → Passed pick x y sid rid e es c p k
passed {P} pick picks x y counts sid rid e es c p k agrees base conn taken same few =
    let low : e.base ≤ k = omega (arith, base, taken) in
    let cached : cached_from (passed_on pick e p k) k ≡ drop k y.sent = cached_is pick picks rid e y p k agrees low in
    record {
      passes = signal_passes e c k conn few low (omega (arith, taken, counts.fewer, agrees.sent));
      agrees = trim_agrees pick picks rid e y p k agrees;
      base = omega (arith, (picks e.base k).1, base, taken);
      again = rw (cached, taken, sym same, agrees.taken);
    }

-- after nothing
behind_nothing : {A : Type 0} → (ds sl n m mark : List A) → ds ≡ [] → sl ≡ [] → n ≡ m → ds ++ (sl ++ (n ++ mark)) ≡ m ++ mark
behind_nothing ds sl n m mark a b e = rw (a, b, e)

module _ {P : Type 0} (IsOver : P → Type 0) (pick : ℕ → ℕ → ℕ) (picks : IsPick pick) (x y : PlainSide P) (counts : CountsFit x y)
    (sid rid : EndId) (ps pr : P) (a t b : ℕ) (es e : EndAt P) (ds so sl ro rest : List (BodyAt P)) (d : EndId) (c p k : ℕ) where
  -- at an end that is Parked, and nobody has taken its session message
  pub passes_parked : IsSound IsOver level x y (side_of sid ps (signalled a t es ds) so sl) (side_of rid pr (parked b e) ro (Signal d c p k ∷ rest)) →
      (passive pick e e.peer c p k ≡ Some (passes_to pick e p k))
      × IsSound IsOver (behind by_ack) x y
      (side_of sid ps (signalled a t es ds) (so ++ Ack sid es.conn ∷ []) (sl ++ passed_again pick sid e p k))
      (side_of rid pr (parked b (passed_on pick e p k)) ro rest)
  passes_parked sound =
      let only : OnlySignal rid e.conn t x.taken c p k rest = only_signal rid e.conn t x.taken false d c p k rest sound.there.comes in
      let fits : Agrees rid e y × (e.place ≡ y.place) × (e.base ≤ x.taken) = sound.there.fits in
      let numbers : (es.conn ≡ e.conn) × (es.peer ≡ b) × (e.peer ≡ a) = sound.numbers in
      let hops : (es.conn + 1 + 1 ≤ x.hops + y.hops) × (e.conn + 1 + 1 ≤ x.hops + y.hops) = sound.hops in
      let passed : Passed pick x y sid rid e es c p k =
      passed pick picks x y counts sid rid e es c p k fits.0 fits.2 only.conn_is only.taken_is numbers.0 (omega (arith, hops.1, counts.hops)) in
      let bare : (sl ≡ []) × (ds ≡ []) = sound.back.comes in
      let mine : Agrees sid es x × (es.base ≤ y.taken) = sound.back.fits in (
        simp passed.passes,
        record {
          others = sound.others;
          numbers = (ap (λ n. n + 1) (sym numbers.0), only.party_is, numbers.1, tt);
          hops = hops.1;
          there = record { fits = (passed.agrees, fits.1, passed.base); place = sound.there.place; resend = tt; comes = (only.rest_is, tt); old = sound.there.old };
          back = record {
            fits = mine;
            place = sound.back.place;
            resend = tt;
            comes = record {
              carries = numbered_carries sid (es.conn + 1) y.taken x.taken (drop x.taken y.sent);
              split = ap (λ l. ds ++ (sl ++ l)) (sym (append-nil (passed_again pick sid e p k))) ∙ behind_nothing ds sl _ _ [] bare.1 bare.0 passed.again;
              are = numbered_are P sid (es.conn + 1) x.taken es.base y.taken (drop x.taken y.sent) mine.1;
            };
            old = marked sid es.conn false so (Ack sid es.conn ∷ []) sound.back.old;
          };
        },
      )

  -- at one whose Claim is on the way
  pub passes_claimed : (u : ℕ) → IsSound IsOver level x y (side_of sid ps (signalled a t es ds) so sl) (side_of rid pr (claimed b u e) ro (Signal d c p k ∷ rest)) →
      (passive pick e e.peer c p k ≡ Some (passes_to pick e p k))
      × IsSound IsOver (behind by_ack) x y
      (side_of sid ps (signalled a t es ds) (so ++ Ack sid es.conn ∷ []) (sl ++ passed_again pick sid e p k))
      (side_of rid pr (claimed b u (passed_on pick e p k)) ro rest)
  passes_claimed u sound =
      let only : OnlySignal rid e.conn t x.taken c p k rest = only_signal rid e.conn t x.taken false d c p k rest sound.there.comes in
      let fits : Agrees rid e y × (e.base ≤ x.taken) = sound.there.fits in
      let numbers : (es.conn ≡ e.conn) × (es.peer ≡ b) × (e.peer ≡ a) = sound.numbers in
      let hops : (es.conn + 1 + 1 ≤ x.hops + y.hops) × (e.conn + 1 + 1 ≤ x.hops + y.hops) = sound.hops in
      let passed : Passed pick x y sid rid e es c p k =
      passed pick picks x y counts sid rid e es c p k fits.0 fits.1 only.conn_is only.taken_is numbers.0 (omega (arith, hops.1, counts.hops)) in
      let bare : (sl ≡ []) × (ds ≡ []) = sound.back.comes in
      let mine : Agrees sid es x × (es.base ≤ y.taken) = sound.back.fits in (
        simp passed.passes,
        record {
          others = sound.others;
          numbers = (ap (λ n. n + 1) (sym numbers.0), only.party_is, numbers.1, tt);
          hops = hops.1;
          there = record { fits = (passed.agrees, passed.base); place = sound.there.place; resend = tt; comes = (only.rest_is, tt); old = sound.there.old };
          back = record {
            fits = mine;
            place = sound.back.place;
            resend = tt;
            comes = record {
              carries = numbered_carries sid (es.conn + 1) y.taken x.taken (drop x.taken y.sent);
              split = ap (λ l. ds ++ (sl ++ l)) (sym (append-nil (passed_again pick sid e p k))) ∙ behind_nothing ds sl _ _ [] bare.1 bare.0 passed.again;
              are = numbered_are P sid (es.conn + 1) x.taken es.base y.taken (drop x.taken y.sent) mine.1;
            };
            old = marked sid es.conn false so (Ack sid es.conn ∷ []) sound.back.old;
          };
        },
      )

  -- at one that is Closed, the Fin goes out again
  pub passes_closed : IsSound IsOver level x y (side_of sid ps (signalled a t es ds) so sl) (side_of rid pr (closed b e) ro (Signal d c p k ∷ rest)) →
      (passive_closed pick e e.peer c p k ≡ Some (closes_to pick e p k))
      × IsSound IsOver (behind by_ack) x y
      (side_of sid ps (signalled a t es ds) (so ++ Ack sid es.conn ∷ []) (sl ++ (passed_again pick sid e p k ++ Fin sid (e.conn + 1) e.sent ∷ [])))
      (side_of rid pr (closed b (passed_on pick e p k)) ro rest)
  passes_closed sound =
      let only : Signal d c p k ∷ rest ≡ Signal rid e.conn t x.taken ∷ [] = sound.there.comes in
      let fits : Agrees rid e y × (e.place ≡ y.place) × (e.base ≤ x.taken) × IsOver y.place × (untaken_of x y ≡ []) = sound.there.fits in
      let numbers : (es.conn ≡ e.conn) × (es.peer ≡ b) × (e.peer ≡ a) = sound.numbers in
      let hops : (es.conn + 1 + 0 ≤ x.hops + y.hops) × (e.conn + 1 + 0 ≤ x.hops + y.hops) = sound.hops in
      let passed : Passed pick x y sid rid e es c p k =
      passed pick picks x y counts sid rid e es c p k fits.0 fits.2 (cc only) (cc only) numbers.0 (omega (arith, hops.1, counts.hops)) in
      let bare : (sl ≡ []) × (ds ≡ []) = sound.back.comes in
      let mine : Agrees sid es x × (es.base ≤ y.taken) = sound.back.fits in
      let fin : ◌≡◌ {A = BodyAt P} (Fin sid (e.conn + 1) e.sent) (Fin sid (es.conn + 1) (length y.sent)) = rw (numbers.0, fits.0.sent) in (
        simp passed.passes,
        record {
          others = sound.others;
          numbers = (ap (λ n. n + 1) (sym numbers.0), cc only, numbers.1, tt);
          hops = hops.1;
          there = record { fits = (passed.agrees, fits.1, passed.base, fits.3, fits.4); place = sound.there.place; resend = tt; comes = (cc only, tt); old = sound.there.old };
          back = record {
            fits = mine;
            place = sound.back.place;
            resend = tt;
            comes = record {
              carries = numbered_carries sid (es.conn + 1) y.taken x.taken (drop x.taken y.sent);
              split = behind_nothing ds sl _ _ (Fin sid (e.conn + 1) e.sent ∷ []) bare.1 bare.0 passed.again
                  ∙ ap (λ f. numbered_carries sid (es.conn + 1) y.taken x.taken (drop x.taken y.sent) ++ f ∷ []) fin;
              are = numbered_are P sid (es.conn + 1) x.taken es.base y.taken (drop x.taken y.sent) mine.1;
            };
            old = marked sid es.conn true so (Ack sid es.conn ∷ []) sound.back.old;
          };
        },
      )
