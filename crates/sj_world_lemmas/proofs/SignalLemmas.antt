-- A Signal at an end that is Held: an Ack, and the cache again.
use Rattle.std.proofs.Common.{◌≡◌, ℕ, ◌+◌, ◌-◌, ◌≤◌, List, [], ◌∷◌, ◌++◌, length, drop, refl, sym, ap, arith, ◌∙◌, inl, inr, append-nil}
use Rattle.std.specs.Prelude.{Bool, true, false, Some, ◌⊎◌}
use Rattle.std.proofs.lemmas.List.{drop-drop}
use Rattle.sj_base.specs.declared.EndId.{EndId}
use Rattle.sj_base.specs.declared.Msg.{Msg}
use Rattle.sj_rules.specs.Record.{EndAt, BodyAt, Signal, Ack, HeldAt, other_end}
use Rattle.sj_rules.specs.Rows.{IsPick, trimmed_end, end_with_peer, signal_fits, passive, numbered_carries, cached_from, resent_posts}
use Rattle.sj_rules.specs.Seat.{held, signalled, side_of}
use Rattle.sj_rules.specs.PlainSide.{PlainSide, untaken_of, CountsFit}
use Rattle.sj_rules.specs.Counts.{Agrees}
use Rattle.sj_rules.specs.Numbers.{level, behind, by_ack}
use Rattle.sj_rules.specs.Streams.{AreCarries, ComesWhole, ComesToHeld, ComesLoose, mark_for}
use Rattle.sj_rules.specs.Invariant.{IsSound}
use Rattle.sj_world_lemmas.proofs.CrossingLemmas.{trim_agrees, signal_passes}

-- what is sent again is what waits
pub numbered_are : (P : Type 0) (to : EndId) (conn number low taken : ℕ) (msgs : List Msg) → low ≤ taken →
    AreCarries {P = P} to conn number low taken msgs (numbered_carries to conn taken number msgs)
numbered_are P to conn number low taken [] h = h
numbered_are P to conn number low taken (m ∷ ms) h =
    (taken, h, refl, numbered_are P to conn (number + 1) taken taken ms (omega arith))

pub cached_is : {P : Type 0} → (pick : ℕ → ℕ → ℕ) → IsPick pick → (id : EndId) (e : EndAt P) (y : PlainSide P) (peer k : ℕ) →
    Agrees id e y → e.base ≤ k → cached_from (trimmed_end pick (end_with_peer e peer) k) k ≡ drop k y.sent
cached_is pick picks id e y peer k a low =
    let b : Agrees id (trimmed_end pick (end_with_peer e peer) k) y = trim_agrees pick picks id e y peer k a in
    let up : pick e.base k ≤ k = omega (arith, (picks e.base k).1, low) in
    let sum : pick e.base k + (k - pick e.base k) ≡ k = omega arith in
    ap (λ l. drop (k - pick e.base k) l) b.cache
    ∙ drop-drop (k - pick e.base k) (pick e.base k) y.sent ∙ ap (λ n. drop n y.sent) sum

-- the Signal is all that still comes, and nothing waits beside what is untaken
pub record LastSignal {P : Type 0} (to : EndId) (conn party taken c p k : ℕ) (msgs : List Msg) (rest : List (BodyAt P)) : Type 0 where
  pub conn_is : c ≡ conn
  pub party_is : p ≡ party
  pub taken_is : k ≡ taken
  pub rest_is : rest ≡ []
  pub msgs_are : msgs ≡ []

last_in : {P : Type 0} → (to : EndId) (conn number low high party taken : ℕ) (msgs : List Msg) (d : EndId) (c p k : ℕ) (rest carries : List (BodyAt P)) →
    Signal d c p k ∷ rest ≡ carries ++ Signal to conn party taken ∷ [] → AreCarries to conn number low high msgs carries →
    LastSignal to conn party taken c p k msgs rest
last_in to conn number low high party taken [] d c p k rest [] e a =
    record { conn_is = cc e; party_is = cc e; taken_is = cc e; rest_is = cc e; msgs_are = refl }
last_in to conn number low high party taken [] d c p k rest (b ∷ bs) e a = absurd a
last_in to conn number low high party taken (m ∷ ms) d c p k rest [] e a = absurd a
last_in to conn number low high party taken (m ∷ ms) d c p k rest (b ∷ bs) e a = absurd (cc (e, a.2))

pub last_signal : {P : Type 0} → (to : EndId) (h : HeldAt P) (x y : PlainSide P) (a t : ℕ) (es : EndAt P) (ds : List (BodyAt P)) (d : EndId) (c p k : ℕ) (rest : List (BodyAt P)) →
    (comes : ComesToHeld to h (untaken_of x y) y.taken x.taken false (mark_for to h.end.conn x (signalled a t es ds)) (Signal d c p k ∷ rest)) → (h.fin ≡ false) × LastSignal to h.end.conn t x.taken c p k comes.rest rest
last_signal {P} to h x y a t es ds d c p k rest comes = by comes.comes
  where
    by : (h.fin ≡ false) × ComesWhole to h.end.conn (y.taken + length h.untaken) h.end.base x.taken (mark_for to h.end.conn x (signalled a t es ds)) comes.rest (Signal d c p k ∷ rest)
        ⊎ (h.fin ≡ true) × (false ≡ true) × (◌≡◌ {A = List (BodyAt P)} (Signal d c p k ∷ rest) []) × (comes.rest ≡ []) →
        (h.fin ≡ false) × LastSignal to h.end.conn t x.taken c p k comes.rest rest
    by (inl w) = (w.0, last_in to h.end.conn (y.taken + length h.untaken) h.end.base x.taken t x.taken comes.rest d c p k rest w.1.carries w.1.split w.1.are)
    by (inr w) = absurd (cc w.2)

-- after nothing
behind_nothing : {A : Type 0} (ds sl n m : List A) → ds ≡ [] → sl ≡ [] → n ≡ m → ds ++ (sl ++ n) ≡ m ++ []
behind_nothing ds sl n m a b e = rw (a, b, e) (sym (append-nil m))

-- one frame more, after what is dropped
pub marked : {P : Type 0} → (to : EndId) (conn : ℕ) (over : Bool) (frames : List (BodyAt P)) (mark : List (BodyAt P)) →
    ComesLoose to conn over [] frames → ComesLoose to conn over mark (frames ++ mark)
marked to conn over frames mark l =
    record { dropped = l.dropped; split = ap (λ k. k ++ mark) (l.split ∙ append-nil l.dropped); are = l.are }

module _ {P : Type 0} (IsOver : P → Type 0) (pick : ℕ → ℕ → ℕ) (picks : IsPick pick) (x y : PlainSide P) (counts : CountsFit x y) where
  -- r is Held: its number rises, s will get the Ack after what is dropped, and all that waits for s
  -- comes again
  pub passes_held : (sid rid : EndId) (ps pr : P) (a t b : ℕ) (es : EndAt P) (h : HeldAt P) (ds so sl ro rest : List (BodyAt P)) (d : EndId) (c p k : ℕ) →
      IsSound IsOver level x y (side_of sid ps (signalled a t es ds) so sl) (side_of rid pr (held b h) ro (Signal d c p k ∷ rest)) →
      (passive pick h.end h.end.peer c p k ≡ Some (record {
        state = trimmed_end pick (end_with_peer h.end p) k;
        posts = record { party = h.end.peer; body = Ack (other_end h.end.id) h.end.conn } ∷ resent_posts (trimmed_end pick (end_with_peer h.end p) k) k;
      }))
      × IsSound IsOver (behind by_ack) x y
      (side_of sid ps (signalled a t es ds) (so ++ Ack sid es.conn ∷ [])
      (sl ++ numbered_carries sid (h.end.conn + 1) h.end.taken k (cached_from (trimmed_end pick (end_with_peer h.end p) k) k)))
      (side_of rid pr (held b (record h { end = trimmed_end pick (end_with_peer h.end p) k })) ro rest)
  passes_held sid rid ps pr a t b es h ds so sl ro rest d c p k sound =
      let comes : ComesToHeld rid h (untaken_of x y) y.taken x.taken false (mark_for rid h.end.conn x (signalled a t es ds)) (Signal d c p k ∷ rest) = sound.there.comes in
      let last : (h.fin ≡ false) × LastSignal rid h.end.conn t x.taken c p k comes.rest rest = last_signal rid h x y a t es ds d c p k rest comes in
      let fits : Agrees rid h.end y × (y.offered ≡ false → h.end.place ≡ y.place) × (h.end.base ≤ x.taken) = sound.there.fits in
      let numbers : (es.conn ≡ h.end.conn) × (es.peer ≡ b) × (h.end.peer ≡ a) = sound.numbers in
      let hops : (es.conn + 1 + 0 ≤ x.hops + y.hops) × (h.end.conn + 1 + 0 ≤ x.hops + y.hops) = sound.hops in
      let low : h.end.base ≤ k = omega (arith, fits.2, last.1.taken_is) in
      let passes : signal_fits h.end h.end.peer c k ≡ true = signal_passes h.end c k last.1.conn_is
      (omega (arith, hops.1, counts.hops)) low (omega (arith, last.1.taken_is, counts.fewer, fits.0.sent)) in
      let base : pick h.end.base k ≤ x.taken = omega (arith, (picks h.end.base k).1, fits.2, last.1.taken_is) in
      let again : cached_from (trimmed_end pick (end_with_peer h.end p) k) k ≡ drop k y.sent = cached_is pick picks rid h.end y p k fits.0 low in
      let bare : (sl ≡ []) × (ds ≡ []) = sound.back.comes in
      let mine : Agrees sid es x × (es.base ≤ y.taken) = sound.back.fits in
      let same : numbered_carries {P = P} sid (h.end.conn + 1) h.end.taken k (cached_from (trimmed_end pick (end_with_peer h.end p) k) k)
      ≡ numbered_carries sid (es.conn + 1) y.taken x.taken (drop x.taken y.sent) =
      rw (again, last.1.taken_is, sym numbers.0, fits.0.taken) in (
        simp passes,
        record {
          others = sound.others;
          numbers = (ap (λ n. n + 1) (sym numbers.0), last.1.party_is, numbers.1, tt);
          hops = hops.1;
          there = record {
            fits = (trim_agrees pick picks rid h.end y p k fits.0, fits.1, base);
            place = sound.there.place;
            resend = tt;
            comes = (last.1.rest_is, (sym (append-nil h.untaken) ∙ ap (λ l. h.untaken ++ l) (sym last.1.msgs_are) ∙ sym comes.all, last.0));
            old = sound.there.old;
          };
          back = record {
            fits = mine;
            place = sound.back.place;
            resend = tt;
            comes = record {
              carries = numbered_carries sid (es.conn + 1) y.taken x.taken (drop x.taken y.sent);
              split = behind_nothing ds sl _ _ bare.1 bare.0 same;
              are = numbered_are P sid (es.conn + 1) x.taken es.base y.taken (drop x.taken y.sent) mine.1;
            };
            old = marked sid es.conn false so (Ack sid es.conn ∷ []) sound.back.old;
          };
        },
      )
