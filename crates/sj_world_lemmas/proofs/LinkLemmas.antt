-- Which ends the untaken messages name, as messages are sent and taken.
use Rattle.std.proofs.Common.{◌≡◌, ℕ, zero, suc, ◌<◌, List, [], ◌∷◌, ◌++◌, length, refl, sym, ap, subst, ◌∙◌, inl, inr}
use Rattle.std.specs.Prelude.{Bool, true, false, ◌⊎◌, ◌↔◌, ◌==◌, slice_get, Some}
use Rattle.std.proofs.lemmas.Bool.{eqb-true}
use Rattle.sj_base.specs.declared.EndId.{EndId}
use Rattle.sj_base.specs.declared.Msg.{Msg}
use Rattle.sj_base.specs.declared.Msg.TheVariants as msgs
use Rattle.sj_rules.specs.PlainChanges.{waits_of}
use Rattle.sj_rules.specs.Binding.{NamesNoEnd}
use Rattle.sj_rules.specs.Record.{is_same_end}
use Rattle.sj_rules.specs.Seat.{Seat}
use Rattle.sj_rules.specs.PlainSide.{PlainAt}
use Rattle.sj_rules.specs.Linked.{IsLinked, IsParkedAt}
use Rattle.sj_world_lemmas.proofs.LaneLemmas.{both_true}
use Rattle.sj_semantics.specs.World.{session_message}

-- ends of which the test holds are one
pub same_is : (a b : EndId) → is_same_end a b ≡ true → a ≡ b
same_is a b e =
    let k : ((a.sess == b.sess) ≡ true) × ((a.side == b.side) ≡ true) = both_true (a.sess == b.sess) (a.side == b.side) e in
    let i : a.sess ≡ b.sess = eqb-true a.sess b.sess k.0 in
    let j : a.side ≡ b.side = eqb-true a.side b.side k.1 in
    rw (i, j) refl

-- lists

-- what was in a list is in a longer one
pub get_old : {A : Type 0} → (l more : List A) (n : ℕ) (a : A) → slice_get l n ≡ Some a → slice_get (l ++ more) n ≡ Some a
get_old [] more n a e = absurd (cc e)
get_old (x ∷ l) more zero a e = e
get_old (x ∷ l) more (suc n) a e = get_old l more n a e

-- the last of a list
pub get_last : {A : Type 0} → (l : List A) (m : A) → slice_get (l ++ m ∷ []) (length l) ≡ Some m
get_last [] m = refl
get_last (x ∷ l) m = get_last l m

-- what is in a list with one more was there, or is the last
pub got_in : {A : Type 0} → (l : List A) (m : A) (n : ℕ) (a : A) → slice_get (l ++ m ∷ []) n ≡ Some a → (slice_get l n ≡ Some a) ⊎ ((n ≡ length l) × (a ≡ m))
got_in [] m zero a e = inr (refl, cc e)
got_in [] m (suc n) a e = absurd (cc e)
got_in (x ∷ l) m zero a e = inl e
got_in {A} (x ∷ l) m (suc n) a e = by (got_in l m n a e)
  where
    by : (slice_get l n ≡ Some a) ⊎ ((n ≡ length l) × (a ≡ m)) → (slice_get l n ≡ Some a) ⊎ ((suc n ≡ suc (length l)) × (a ≡ m))
    by (inl i) = inl i
    by (inr i) = inr (ap suc i.0, i.1)

-- seats by which parties keep ends as before
abbrev pub KeepAlike : {P : Type 0} → Seat P → Seat P → Type 0
KeepAlike seat seat' = (keeper : ℕ) → IsParkedAt keeper seat ↔ IsParkedAt keeper seat'

module _ {P Q : Type 0} (plain plain' : PlainAt P Q) (seats seats' : EndId → Seat P) (linked : IsLinked plain seats) where
  -- nothing is sent or taken
  pub links_stay : ((e : EndId) → e.side < 2 → waits_of plain' e ≡ waits_of plain e) → ((d : EndId) → d.side < 2 → KeepAlike (seats d) (seats' d)) → IsLinked plain' seats'
  links_stay same alike = record {
    parks = λ e n sess side keeper i w.
        let old : (side < 2) × IsParkedAt keeper (seats (record { sess = sess; side = side })) = linked.parks e n sess side keeper i (ap (λ l. slice_get l n) (sym (same e i)) ∙ w) in
        (old.0, (alike (record { sess = sess; side = side }) old.0 keeper).0 old.1);
    named = λ d keeper i p.
        let old : (e : EndId) × (n : ℕ) × (e.side < 2) × (slice_get (waits_of plain e) n ≡ Some (session_message d keeper)) = linked.named d keeper i ((alike d i keeper).1 p) in
        (old.0, old.1, old.2, ap (λ l. slice_get l old.1) (same old.0 old.2) ∙ old.3);
    once = λ e f m n sess side keeper other i j v w.
        linked.once e f m n sess side keeper other i j (ap (λ l. slice_get l m) (sym (same e i)) ∙ v) (ap (λ l. slice_get l n) (sym (same f j)) ∙ w);
  }

  -- a message more waits for one end
  module _ (c : EndId) (below : c.side < 2) (m : Msg) (grows : waits_of plain' c ≡ waits_of plain c ++ m ∷ []) (same : (e : EndId) → e.side < 2 → is_same_end e c ≡ false → waits_of plain' e ≡ waits_of plain e) where
    new_or_old : (e : EndId) (n : ℕ) (msg : Msg) → e.side < 2 → slice_get (waits_of plain' e) n ≡ Some msg →
        (slice_get (waits_of plain e) n ≡ Some msg) ⊎ ((e ≡ c) × (n ≡ length (waits_of plain c)) × (msg ≡ m))
    new_or_old e n msg i w = by (is_same_end e c) refl
      where
        at_c : e ≡ c → (slice_get (waits_of plain c) n ≡ Some msg) ⊎ ((n ≡ length (waits_of plain c)) × (msg ≡ m)) → (slice_get (waits_of plain e) n ≡ Some msg) ⊎ ((e ≡ c) × (n ≡ length (waits_of plain c)) × (msg ≡ m))
        at_c j (inl k) = inl (ap (λ d. slice_get (waits_of plain d) n) j ∙ k)
        at_c j (inr k) = inr (j, k.0, k.1)

        by : (k : Bool) → is_same_end e c ≡ k → (slice_get (waits_of plain e) n ≡ Some msg) ⊎ ((e ≡ c) × (n ≡ length (waits_of plain c)) × (msg ≡ m))
        by true k =
            let j : e ≡ c = same_is e c k in
            at_c j (got_in (waits_of plain c) m n msg (sym (ap (λ l. slice_get l n) grows) ∙ sym (ap (λ d. slice_get (waits_of plain' d) n) j) ∙ w))
        by false k = inl (ap (λ l. slice_get l n) (sym (same e i k)) ∙ w)

    old_stays : (e : EndId) (n : ℕ) (msg : Msg) → e.side < 2 → slice_get (waits_of plain e) n ≡ Some msg → slice_get (waits_of plain' e) n ≡ Some msg
    old_stays e n msg i w = by (is_same_end e c) refl
      where
        by : (k : Bool) → is_same_end e c ≡ k → slice_get (waits_of plain' e) n ≡ Some msg
        by true k =
            let j : e ≡ c = same_is e c k in
            ap (λ d. slice_get (waits_of plain' d) n) j ∙ ap (λ l. slice_get l n) grows
            ∙ get_old (waits_of plain c) (m ∷ []) n msg (sym (ap (λ d. slice_get (waits_of plain d) n) j) ∙ w)
        by false k = ap (λ l. slice_get l n) (same e i k) ∙ w

    -- a value
    pub links_grow_value : NamesNoEnd m → ((d : EndId) → d.side < 2 → KeepAlike (seats d) (seats' d)) → IsLinked plain' seats'
    links_grow_value value alike = record {
      parks = λ e n sess side keeper i w. parked (record { sess = sess; side = side }) e n keeper i (new_or_old e n (msgs.Sess sess side keeper) i w);
      named = λ d keeper i p.
          let old : (e : EndId) × (n : ℕ) × (e.side < 2) × (slice_get (waits_of plain e) n ≡ Some (session_message d keeper)) = linked.named d keeper i ((alike d i keeper).1 p) in
          (old.0, old.1, old.2, old_stays old.0 old.1 (session_message d keeper) old.2 old.3);
      once = λ e f k n sess side keeper other i j v w.
          linked.once e f k n sess side keeper other i j (old_only (record { sess = sess; side = side }) e k keeper (new_or_old e k (msgs.Sess sess side keeper) i v)) (old_only (record { sess = sess; side = side }) f n other (new_or_old f n (msgs.Sess sess side other) j w));
    }
      where
        old_only : (d e : EndId) (n keeper : ℕ) → (slice_get (waits_of plain e) n ≡ Some (session_message d keeper)) ⊎ ((e ≡ c) × (n ≡ length (waits_of plain c)) × (session_message d keeper ≡ m)) → slice_get (waits_of plain e) n ≡ Some (session_message d keeper)
        old_only d e n keeper (inl k) = k
        old_only d e n keeper (inr k) = absurd (subst NamesNoEnd (sym k.2) value)

        parked : (d e : EndId) (n keeper : ℕ) → e.side < 2 → (slice_get (waits_of plain e) n ≡ Some (session_message d keeper)) ⊎ ((e ≡ c) × (n ≡ length (waits_of plain c)) × (session_message d keeper ≡ m)) → (d.side < 2) × IsParkedAt keeper (seats' d)
        parked d e n keeper i k =
            let old : (d.side < 2) × IsParkedAt keeper (seats d) = linked.parks e n d.sess d.side keeper i (old_only d e n keeper k) in
            (old.0, (alike d old.0 keeper).0 old.1)

    -- an end, which is parked from now on
    pub links_grow_end : (d : EndId) (keeper : ℕ) → m ≡ session_message d keeper → d.side < 2 → ((k : ℕ) → IsParkedAt k (seats d) → ⊥) → IsParkedAt keeper (seats' d) → ((k : ℕ) → IsParkedAt k (seats' d) → k ≡ keeper) →
        ((e : EndId) → e.side < 2 → is_same_end e d ≡ false → KeepAlike (seats e) (seats' e)) → IsLinked plain' seats'
    links_grow_end d keeper m_is low free parked one alike = record {
      parks = λ e n sess side k i w. parks' (record { sess = sess; side = side }) e n k i (new_or_old e n (msgs.Sess sess side k) i w);
      named = λ a k i p. named' a k i p (is_same_end a d) refl;
      once = λ e f k n sess side p other i j v w.
          once' e f k n (record { sess = sess; side = side }) p other i j (new_or_old e k (msgs.Sess sess side p) i v) (new_or_old f n (msgs.Sess sess side other) j w);
    }
      where
        is_named : (a : EndId) (k : ℕ) → session_message a k ≡ m → (a ≡ d) × (k ≡ keeper)
        is_named a k e =
            let i : session_message a k ≡ session_message d keeper = e ∙ m_is in
            let s : a.sess ≡ d.sess = cc i in
            let t : a.side ≡ d.side = cc i in
            (rw (s, t) refl, cc i)

        -- the parked end wasn't named
        unnamed : (a e : EndId) (n k : ℕ) → e.side < 2 → a ≡ d → slice_get (waits_of plain e) n ≡ Some (session_message a k) → ⊥
        unnamed a e n k i j w = free k (subst (λ z. IsParkedAt k (seats z)) j (linked.parks e n a.sess a.side k i w).1)

        parks' : (a e : EndId) (n k : ℕ) → e.side < 2 → (slice_get (waits_of plain e) n ≡ Some (session_message a k)) ⊎ ((e ≡ c) × (n ≡ length (waits_of plain c)) × (session_message a k ≡ m)) → (a.side < 2) × IsParkedAt k (seats' a)
        parks' a e n k i (inl w) = by (is_same_end a d) refl
          where
            old : (a.side < 2) × IsParkedAt k (seats a)
            old = linked.parks e n a.sess a.side k i w

            by : (z : Bool) → is_same_end a d ≡ z → (a.side < 2) × IsParkedAt k (seats' a)
            by true z = absurd (unnamed a e n k i (same_is a d z) w)
            by false z = (old.0, (alike a old.0 z k).0 old.1)
        parks' a e n k i (inr w) =
            let j : (a ≡ d) × (k ≡ keeper) = is_named a k w.2 in
            (subst (λ z. z.side < 2) (sym j.0) low, subst (λ z. IsParkedAt k (seats' z)) (sym j.0) (subst (λ z. IsParkedAt z (seats' d)) (sym j.1) parked))

        named' : (a : EndId) (k : ℕ) → a.side < 2 → IsParkedAt k (seats' a) → (z : Bool) → is_same_end a d ≡ z → (e : EndId) × (n : ℕ) × (e.side < 2) × (slice_get (waits_of plain' e) n ≡ Some (session_message a k))
        named' a k i p true z =
            let j : a ≡ d = same_is a d z in
            let o : k ≡ keeper = one k (subst (λ y. IsParkedAt k (seats' y)) j p) in
            let n_is : session_message a k ≡ m = ap (λ y. session_message y k) j ∙ ap (λ y. session_message d y) o ∙ sym m_is in
            (c, length (waits_of plain c), below, ap (λ l. slice_get l (length (waits_of plain c))) grows ∙ get_last (waits_of plain c) m ∙ ap Some (sym n_is))
        named' a k i p false z =
            let old : (e : EndId) × (n : ℕ) × (e.side < 2) × (slice_get (waits_of plain e) n ≡ Some (session_message a k)) = linked.named a k i ((alike a i z k).1 p) in
            (old.0, old.1, old.2, old_stays old.0 old.1 (session_message a k) old.2 old.3)

        once' : (e f : EndId) (k n : ℕ) (a : EndId) (p q : ℕ) → e.side < 2 → f.side < 2 →
            (slice_get (waits_of plain e) k ≡ Some (session_message a p)) ⊎ ((e ≡ c) × (k ≡ length (waits_of plain c)) × (session_message a p ≡ m)) →
            (slice_get (waits_of plain f) n ≡ Some (session_message a q)) ⊎ ((f ≡ c) × (n ≡ length (waits_of plain c)) × (session_message a q ≡ m)) → (e ≡ f) × (k ≡ n)
        once' e f k n a p q i j (inl v) (inl w) = linked.once e f k n a.sess a.side p q i j v w
        once' e f k n a p q i j (inl v) (inr w) = absurd (unnamed a e k p i (is_named a q w.2).0 v)
        once' e f k n a p q i j (inr v) (inl w) = absurd (unnamed a f n q j (is_named a p v.2).0 w)
        once' e f k n a p q i j (inr v) (inr w) = (v.0 ∙ sym w.0, v.1 ∙ sym w.1)
