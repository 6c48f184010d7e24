-- Where all lanes are empty, no end is awaited, and a Held end has all that waits for it.
use Rattle.std.proofs.Common.{◌≡◌, ℕ, ◌+◌, ◌==◌, Bool, true, false, ◌&&◌, cond, List, [], ◌∷◌, ◌++◌, length, Option, refl, ap, sym, ◌∙◌, inl, inr, ◌⊎◌}
use Rattle.std.proofs.lemmas.Bool.{eq-eqb, and_from, false≢true}
use Rattle.std.specs.List.{filter}
use Rattle.sj_base.specs.declared.EndId.{EndId}
use Rattle.sj_rules.specs.Record.{EndAt, BodyAt, Claim, Signal, Ack, Give, HeldAt}
use Rattle.sj_rules.specs.World.{WorldAt}
use Rattle.sj_rules.specs.Seat.{Seat, held, parked, claimed, signalled, given, closed, gone, Side, source_for, taker_of, coming_of, sender_of}
use Rattle.sj_rules.specs.Shown.{Shows, bodies, goes_to, is_claim, is_give, is_lane, old_in, live_in, claims_in, gives_in}
use Rattle.sj_rules.specs.PlainSide.{PlainSide}
use Rattle.sj_rules.specs.Numbers.{Cause, level, ahead, by_ack, by_signal, NumbersFit}
use Rattle.sj_rules.specs.Streams.{ComesWhole}
use Rattle.sj_rules.specs.Coming.{Comes, AreOld}
use Rattle.std.specs.Bool.{⊤}

-- ---- lists

nothing_joined : {A : Type 0} (xs ys : List A) → ◌≡◌ {A = List A} [] (xs ++ ys) → (xs ≡ []) × (ys ≡ [])
nothing_joined [] ys h = (refl, sym h)
nothing_joined (x ∷ xs) ys h = cc

no_last : {A : Type 0} (xs : List A) (y : A) → ◌≡◌ {A = List A} [] (xs ++ y ∷ []) → ⊥
no_last xs y h = let none : y ∷ [] ≡ [] = (nothing_joined xs (y ∷ []) h).1 in cc

-- ---- what is shown where the lanes are empty

module _ {P Q : Type 0} (w : WorldAt P Q) (empty : (from to : ℕ) → w.lanes from to ≡ []) where
  nothing_in : (test : BodyAt P → Bool) (p q : ℕ) → filter test (bodies (w.lanes p q)) ≡ []
  nothing_in test p q = ap (λ l. filter test (bodies l)) (empty p q)

  same_lane : (p q : ℕ) → is_lane p q p q ≡ true
  same_lane p q = and_from (p == p) (q == q) (eq-eqb p p refl) (eq-eqb q q refl)

  same_lane_number : (p q c : ℕ) → (is_lane p q p q && (c == c)) ≡ true
  same_lane_number p q c = and_from (is_lane p q p q) (c == c) (same_lane p q) (eq-eqb c c refl)

  pub nothing_live : (other : Seat P) (r : Side P) → Shows w other r → r.live ≡ []
  nothing_live other r shows =
      let p : ℕ = source_for other r.seat in
      let q : ℕ = taker_of r.seat in
      let c : ℕ = coming_of r.seat in
      sym (ap (λ (b : Bool). cond b r.live []) (same_lane_number p q c))
      ∙ (nothing_joined (old_in r.seat r.old p q c) (live_in other r p q c) (sym (nothing_in (goes_to r.id c) p q) ∙ shows.frames p q c)).1

  pub nothing_old : (other : Seat P) (r : Side P) (at to : ℕ) (e : EndAt P) (deferred : List (BodyAt P)) → r.seat ≡ signalled at to e deferred → Shows w other r → r.old ≡ []
  nothing_old other r at to e deferred is shows =
      let old : old_in r.seat r.old e.peer at e.conn ≡ [] =
      (nothing_joined (old_in r.seat r.old e.peer at e.conn) (live_in other r e.peer at e.conn) (sym (nothing_in (goes_to r.id e.conn) e.peer at) ∙ shows.frames e.peer at e.conn)).0 in
      sym (ap (λ (b : Bool). cond b r.old []) (same_lane_number e.peer at e.conn)) ∙ sym (ap (λ (s : Seat P). old_in s r.old e.peer at e.conn) is) ∙ old

  pub no_claim : (other : Seat P) (r : Side P) (at to : ℕ) (e : EndAt P) → r.seat ≡ claimed at to e → Shows w other r → ⊥
  no_claim other r at to e is shows =
      let some : ◌≡◌ {A = List (BodyAt P)} [] (Claim r.id ∷ []) =
      sym (nothing_in (is_claim r.id) to at) ∙ shows.claims to at ∙ ap (λ (s : Seat P). claims_in r.id s to at) is
      ∙ ap (λ (b : Bool). cond b (Claim r.id ∷ []) []) (same_lane to at) in cc

  pub no_give : (other : Seat P) (r : Side P) (at to : ℕ) (e : EndAt P) (resend : Option ℕ) (deferred : List (BodyAt P)) → r.seat ≡ given at to e resend deferred → Shows w other r → ⊥
  no_give other r at to e resend deferred is shows =
      let some : ◌≡◌ {A = List (BodyAt P)} [] (Give e resend ∷ []) =
      sym (nothing_in (is_give r.id) at to) ∙ shows.gives at to ∙ ap (λ (s : Seat P). gives_in s at to) is
      ∙ ap (λ (b : Bool). cond b (Give e resend ∷ []) []) (same_lane at to) in cc

-- ---- a session with empty streams, in which neither end is claimed or in a Give

abbrev pub IsStill : {P : Type 0} → Seat P → Type 0
IsStill (claimed at to e) = ⊥
IsStill (given at to e resend deferred) = ⊥
IsStill (held at h) = ⊤
IsStill (parked at e) = ⊤
IsStill (signalled at to e deferred) = ⊤
IsStill (closed at e) = ⊤
IsStill gone = ⊤

module _ {P : Type 0} (id : EndId) (x y : PlainSide P) where
  -- an end that is ahead is explained
  pub explained_comes : (c : Cause) (s : Seat P) (at to : ℕ) (e : EndAt P) (deferred old : List (BodyAt P)) → AreOld (ahead c) id x s (signalled at to e deferred) old → old ≡ [] → ⊥
  explained_comes by_ack s at to e deferred old a none = no_last a.dropped (Ack id e.conn) (sym none ∙ a.split)
  explained_comes by_signal s at to e deferred old a none = no_last a.dropped (Signal id e.conn (sender_of s) x.taken) (sym none ∙ a.split)

  -- the Signal of a Signalled end comes
  signal_to_held : (at to : ℕ) (e : EndAt P) (deferred : List (BodyAt P)) (b : ℕ) (h : HeldAt P) (live : List (BodyAt P)) → Comes level id x y (signalled at to e deferred) (held b h) live → live ≡ [] → ⊥
  signal_to_held at to e deferred b h live c none = by c.comes
    where
      by : (h.fin ≡ false) × ComesWhole id h.end.conn (y.taken + length h.untaken) h.end.base x.taken (Signal id h.end.conn to x.taken ∷ []) c.rest live
          ⊎ (h.fin ≡ true) × (false ≡ true) × (live ≡ []) × (c.rest ≡ []) → ⊥
      by (inl k) = no_last k.1.carries (Signal id h.end.conn to x.taken) (sym none ∙ k.1.split)
      by (inr k) = false≢true k.1

  pub signal_to : (at to : ℕ) (e : EndAt P) (deferred : List (BodyAt P)) (r : Seat P) (live old : List (BodyAt P)) → IsStill r → NumbersFit level (signalled at to e deferred) r
      → Comes level id x y (signalled at to e deferred) r live → live ≡ [] → AreOld level id x (signalled at to e deferred) r old → old ≡ [] → ⊥
  signal_to at to e deferred (held b h) live old still n c none o no_old = signal_to_held at to e deferred b h live c none
  signal_to at to e deferred (parked b k) live old still n c none o no_old = no_last c.dropped (Signal id k.conn to x.taken) (sym none ∙ c.split)
  signal_to at to e deferred (claimed b u k) live old still n c none o no_old = absurd still
  signal_to at to e deferred (signalled b u k ds) live old still n c none o no_old = no_last o.dropped (Signal id k.conn to x.taken) (sym no_old ∙ o.split)
  signal_to at to e deferred (given b u k resend ds) live old still n c none o no_old = absurd still
  signal_to at to e deferred (closed b k) live old still n c none o no_old = let some : [] ≡ Signal id k.conn to x.taken ∷ [] = sym none ∙ c in cc
  signal_to at to e deferred gone live old still n c none o no_old = false≢true n.1
