-- Frames that are somewhere: in a lane, or deferred.
use Rattle.std.proofs.Common.{◌≡◌, ℕ, zero, suc, ◌+◌, ◌<◌, List, [], ◌∷◌, ◌++◌, length, refl, ap, sym, subst, ◌∙◌, arith, inl, inr}
use Rattle.std.specs.Prelude.{Bool, true, false, ◌⊎◌, ◌&&◌, ◌==◌, if◌then◌else◌, slice_index_or}
use Rattle.std.specs.List.{filter, Contains}
use Rattle.std.proofs.lemmas.Bool.{eq-eqb}
use Rattle.sj_base.specs.declared.EndId.{EndId}
use Rattle.sj_base.specs.declared.Msg.{Msg}
use Rattle.sj_rules.specs.Record.{EndAt, BodyAt}
use Rattle.sj_rules.specs.World.{WorldAt}
use Rattle.sj_rules.specs.Seat.{Seat, signalled, Side, source_for, taker_of, coming_of, side_of}
use Rattle.sj_rules.specs.Shown.{Shows, bodies, goes_to, is_lane, old_in}
use Rattle.sj_rules.specs.Flowing.{IsTold, TellsTaken, deferred_of}
use Rattle.sj_rules.specs.Streams.{ComesLoose, ComesWhole}

-- x is in the list
abbrev pub Has : {A : Type 0} → A → List A → Type 0
Has x [] = ⊥
Has x (y ∷ ys) = (y ≡ x) ⊎ Has x ys

-- in the second of two lists
pub has_right : {A : Type 0} → (x : A) (a b : List A) → Has x b → Has x (a ++ b)
has_right x [] b h = h
has_right x (y ∷ a) b h = inr (has_right x a b h)

-- in one of two lists
pub has_split : {A : Type 0} → (x : A) (a b : List A) → Has x (a ++ b) → Has x a ⊎ Has x b
has_split x [] b h = inr h
has_split x (y ∷ a) b (inl e) = inl (inl e)
has_split {A} x (y ∷ a) b (inr h) = by (has_split x a b h)
  where
    by : Has x a ⊎ Has x b → ((y ≡ x) ⊎ Has x a) ⊎ Has x b
    by (inl k) = inl (inr k)
    by (inr k) = inr k

-- what passes a test is in the list
pub has_filter : {A : Type 0} → (test : A → Bool) (x : A) (l : List A) → Has x (filter test l) → Has x l
has_filter test x [] h = h
has_filter {A} test x (y ∷ l) h = by (has_filter test x l) (test y) h
  where
    by : (Has x (filter test l) → Has x l) → (k : Bool) → Has x (if k then y ∷ filter test l else filter test l) → (y ≡ x) ⊎ Has x l
    by below true (inl e) = inl e
    by below true (inr k) = inr (below k)
    by below false k = inr (below k)

-- and what is there and passes it is kept
pub has_kept : {A : Type 0} → (test : A → Bool) (x : A) (l : List A) → Has x l → test x ≡ true → Has x (filter test l)
has_kept test x [] h t = absurd h
has_kept test x (y ∷ l) (inl e) t = subst (λ (k : Bool). Has x (if k then y ∷ filter test l else filter test l)) (sym (ap test e ∙ t)) (inl e)
has_kept {A} test x (y ∷ l) (inr h) t = by (test y) (has_kept test x l h t)
  where
    by : (k : Bool) → Has x (filter test l) → Has x (if k then y ∷ filter test l else filter test l)
    by true below = inr below
    by false below = below

-- what is kept passes it
pub has_passed : {A : Type 0} → (test : A → Bool) (x : A) (l : List A) → Has x (filter test l) → test x ≡ true
has_passed test x [] h = absurd h
has_passed {A} test x (y ∷ l) h = by (has_passed test x l) (test y) refl h
  where
    by : (Has x (filter test l) → test x ≡ true) → (k : Bool) → test y ≡ k → Has x (if k then y ∷ filter test l else filter test l) → test x ≡ true
    by below true t (inl e) = ap test (sym e) ∙ t
    by below true t (inr k) = below k
    by below false t k = below k

-- as std says it
pub has_contains : {A : Type 0} → (x : A) (l : List A) → Has x l → Contains l x
has_contains x [] h = absurd h
has_contains x (y ∷ l) (inl e) = (0, omega arith, e)
has_contains x (y ∷ l) (inr h) = let c : Contains l x = has_contains x l h in (suc c.0, omega (arith, c.1), c.2)

pub contains_has : {A : Type 0} → (x : A) (l : List A) → Contains l x → Has x l
contains_has x [] c = absurd (omega (arith, c.1))
contains_has {A} x (y ∷ l) c = by (contains_has x l) c.0 c.1 c.2
  where
    by : (Contains l x → Has x l) → (k : ℕ) → k < length (y ∷ l) → slice_index_or (y ∷ l) k x ≡ x → (y ≡ x) ⊎ Has x l
    by below zero low e = inl e
    by below (suc k) low e = inr (below (k, omega arith, e))

module _ {P Q : Type 0} (w : WorldAt P Q) (o : Seat P) (s : Side P) (shows : Shows w o s) where
  -- what is shown of a lane is in it
  in_lane : (b : BodyAt P) (p q c : ℕ) (shown : List (BodyAt P)) → filter (goes_to s.id c) (bodies (w.lanes p q)) ≡ shown → Has b shown → (p : ℕ) × (q : ℕ) × Contains (bodies (w.lanes p q)) b
  in_lane b p q c shown e h = (p, q, has_contains b (bodies (w.lanes p q)) (has_filter (goes_to s.id c) b (bodies (w.lanes p q)) (subst (Has b) (sym e) h)))

  -- a key fits itself
  self_lane : (p q c : ℕ) → (is_lane p q p q && (c == c)) ≡ true
  self_lane p q c = simp (eq-eqb p p refl, eq-eqb q q refl, eq-eqb c c refl)

  -- what comes to an end is in a lane
  pub live_told : (taken : ℕ) (b : BodyAt P) → TellsTaken s.id taken b → Has b s.live → IsTold w s taken
  live_told taken b tells h =
      let p : ℕ = source_for o s.seat in
      let q : ℕ = taker_of s.seat in
      let c : ℕ = coming_of s.seat in
      let e : filter (goes_to s.id c) (bodies (w.lanes p q)) ≡ old_in s.seat s.old p q c ++ (if is_lane p q p q && (c == c) then s.live else []) = shows.frames p q c in
      (b, tells, inr (in_lane b p q c (old_in s.seat s.old p q c ++ s.live) (e ∙ rw (self_lane p q c) refl) (has_right b (old_in s.seat s.old p q c) s.live h)))

  -- or it was deferred
  pub all_told : (taken : ℕ) (b : BodyAt P) → TellsTaken s.id taken b → Has b (deferred_of s.seat ++ s.live) → IsTold w s taken
  all_told taken b tells h = by (has_split b (deferred_of s.seat) s.live h)
    where
      by : Has b (deferred_of s.seat) ⊎ Has b s.live → IsTold w s taken
      by (inl k) = (b, tells, inl (has_contains b (deferred_of s.seat) k))
      by (inr k) = live_told taken b tells k

-- what comes under the number of a Signalled end is in a lane
pub old_told : {P Q : Type 0} → (w : WorldAt P Q) (o : Seat P) (sid : EndId) (place : P) (a t : ℕ) (e : EndAt P) (ds old live : List (BodyAt P)) → Shows w o (side_of sid place (signalled a t e ds) old live) →
    (taken : ℕ) (b : BodyAt P) → TellsTaken sid taken b → Has b old → IsTold w (side_of sid place (signalled a t e ds) old live) taken
old_told {P} w o sid place a t e ds old live shows taken b tells h =
    let s : Side P = side_of sid place (signalled a t e ds) old live in
    let i : filter (goes_to sid e.conn) (bodies (w.lanes e.peer a)) ≡ (if is_lane e.peer a e.peer a && (e.conn == e.conn) then old else []) ++ (if is_lane e.peer a (source_for o (signalled a t e ds)) t && (e.conn == e.conn + 1) then live else []) = shows.frames e.peer a e.conn in
    (b, tells, inr (in_lane w o s shows b e.peer a e.conn (old ++ (if is_lane e.peer a (source_for o (signalled a t e ds)) t && (e.conn == e.conn + 1) then live else [])) (i ∙ rw (self_lane w o s shows e.peer a e.conn) refl) (has_left b old (if is_lane e.peer a (source_for o (signalled a t e ds)) t && (e.conn == e.conn + 1) then live else []) h)))
  where
    has_left : {A : Type 0} → (x : A) (a b : List A) → Has x a → Has x (a ++ b)
    has_left x [] b h = absurd h
    has_left x (y ∷ a) b (inl e) = inl e
    has_left x (y ∷ a) b (inr h) = inr (has_left x a b h)

-- the mark is the last of what comes
pub loose_has : {P : Type 0} → (to : EndId) (conn : ℕ) (over : Bool) (m : BodyAt P) (frames : List (BodyAt P)) → ComesLoose to conn over (m ∷ []) frames → Has m frames
loose_has to conn over m frames l = subst (Has m) (sym l.split) (has_right m l.dropped (m ∷ []) (inl refl))

-- the mark of what comes whole
pub whole_has : {P : Type 0} → (to : EndId) (conn number low high : ℕ) (m : BodyAt P) (ms : List Msg) (frames : List (BodyAt P)) → ComesWhole to conn number low high (m ∷ []) ms frames → Has m frames
whole_has to conn number low high m ms frames w = subst (Has m) (sym w.split) (has_right m w.carries (m ∷ []) (inl refl))
