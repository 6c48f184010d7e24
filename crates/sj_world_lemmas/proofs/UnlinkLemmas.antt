-- Which ends the untaken messages name, after one was taken.
use Rattle.std.proofs.Common.{◌≡◌, ℕ, zero, suc, ◌<◌, ◌∷◌, refl, sym, ap, subst, ◌∙◌, inl, inr}
use Rattle.std.specs.Prelude.{Bool, true, false, ◌⊎◌, if◌then◌else◌, slice_get, pred, Some}
use Rattle.sj_base.specs.declared.EndId.{EndId}
use Rattle.sj_base.specs.declared.Msg.{Msg}
use Rattle.sj_base.specs.declared.Msg.TheVariants as msgs
use Rattle.sj_rules.specs.PlainChanges.{waits_of}
use Rattle.sj_rules.specs.Binding.{NamesNoEnd}
use Rattle.sj_rules.specs.Record.{is_same_end}
use Rattle.sj_rules.specs.Seat.{Seat}
use Rattle.sj_rules.specs.PlainSide.{PlainAt}
use Rattle.sj_rules.specs.Linked.{IsLinked, IsParkedAt}
use Rattle.sj_world_lemmas.proofs.EventLemmas.{same_end}
use Rattle.sj_world_lemmas.proofs.LinkLemmas.{same_is, KeepAlike}
use Rattle.sj_semantics.specs.World.{session_message}

module _ {P Q : Type 0} (plain plain' : PlainAt P Q) (seats seats' : EndId → Seat P) (linked : IsLinked plain seats)
    (c : EndId) (below : c.side < 2) (m : Msg) (shrinks : waits_of plain c ≡ m ∷ waits_of plain' c) (same : (e : EndId) → e.side < 2 → is_same_end e c ≡ false → waits_of plain' e ≡ waits_of plain e) where
  -- one position further
  abbrev shift : Bool → ℕ → ℕ
  shift k n = if k then suc n else n

  -- where it was before
  was_at : (e : EndId) (n : ℕ) (msg : Msg) → e.side < 2 → slice_get (waits_of plain' e) n ≡ Some msg → slice_get (waits_of plain e) (shift (is_same_end e c) n) ≡ Some msg
  was_at e n msg i w = by (is_same_end e c) refl
    where
      by : (k : Bool) → is_same_end e c ≡ k → slice_get (waits_of plain e) (shift k n) ≡ Some msg
      by true k =
          let j : e ≡ c = same_is e c k in
          ap (λ d. slice_get (waits_of plain d) (suc n)) j ∙ ap (λ l. slice_get l (suc n)) shrinks ∙ sym (ap (λ d. slice_get (waits_of plain' d) n) j) ∙ w
      by false k = ap (λ l. slice_get l n) (sym (same e i k)) ∙ w

  -- it is still there, or was the first
  still_or_first : (e : EndId) (n : ℕ) (msg : Msg) → e.side < 2 → slice_get (waits_of plain e) n ≡ Some msg → ((k : ℕ) × (slice_get (waits_of plain' e) k ≡ Some msg)) ⊎ ((e ≡ c) × (n ≡ 0) × (msg ≡ m))
  still_or_first e n msg i w = by (is_same_end e c) refl
    where
      first : e ≡ c → (n : ℕ) → slice_get (m ∷ waits_of plain' c) n ≡ Some msg → ((k : ℕ) × (slice_get (waits_of plain' e) k ≡ Some msg)) ⊎ ((e ≡ c) × (n ≡ 0) × (msg ≡ m))
      first j zero v = inr (j, refl, cc v)
      first j (suc k) v = inl (k, ap (λ d. slice_get (waits_of plain' d) k) j ∙ v)

      by : (k : Bool) → is_same_end e c ≡ k → ((k : ℕ) × (slice_get (waits_of plain' e) k ≡ Some msg)) ⊎ ((e ≡ c) × (n ≡ 0) × (msg ≡ m))
      by true k =
          let j : e ≡ c = same_is e c k in
          first j n (sym (ap (λ l. slice_get l n) shrinks) ∙ sym (ap (λ d. slice_get (waits_of plain d) n) j) ∙ w)
      by false k = inl (n, ap (λ l. slice_get l n) (same e i k) ∙ w)

  -- no end is named twice
  once_after : (e f : EndId) (k n sess side keeper other : ℕ) → e.side < 2 → f.side < 2 → slice_get (waits_of plain' e) k ≡ Some (msgs.Sess sess side keeper) →
      slice_get (waits_of plain' f) n ≡ Some (msgs.Sess sess side other) → (e ≡ f) × (k ≡ n)
  once_after e f k n sess side keeper other i j v w =
      let o : (e ≡ f) × (shift (is_same_end e c) k ≡ shift (is_same_end f c) n) =
      linked.once e f (shift (is_same_end e c) k) (shift (is_same_end f c) n) sess side keeper other i j (was_at e k (msgs.Sess sess side keeper) i v) (was_at f n (msgs.Sess sess side other) j w) in
      (o.0, unshift (is_same_end e c) k n (o.1 ∙ ap (λ d. shift (is_same_end d c) n) (sym o.0)))
    where
      unshift : (b : Bool) (k n : ℕ) → shift b k ≡ shift b n → k ≡ n
      unshift true k n e = ap pred e
      unshift false k n e = e

  -- a value was taken
  pub links_shrink_value : NamesNoEnd m → ((d : EndId) → d.side < 2 → KeepAlike (seats d) (seats' d)) → IsLinked plain' seats'
  links_shrink_value value alike = record {
    parks = λ e n sess side keeper i w.
        let old : (side < 2) × IsParkedAt keeper (seats (record { sess = sess; side = side })) = linked.parks e (shift (is_same_end e c) n) sess side keeper i (was_at e n (msgs.Sess sess side keeper) i w) in
        (old.0, (alike (record { sess = sess; side = side }) old.0 keeper).0 old.1);
    named = λ d keeper i p.
        let old : (e : EndId) × (n : ℕ) × (e.side < 2) × (slice_get (waits_of plain e) n ≡ Some (session_message d keeper)) = linked.named d keeper i ((alike d i keeper).1 p) in
        still d keeper old.0 old.1 old.2 (still_or_first old.0 old.1 (session_message d keeper) old.2 old.3);
    once = once_after;
  }
    where
      still : (d : EndId) (keeper : ℕ) (e : EndId) (n : ℕ) → e.side < 2 → ((k : ℕ) × (slice_get (waits_of plain' e) k ≡ Some (session_message d keeper))) ⊎ ((e ≡ c) × (n ≡ 0) × (session_message d keeper ≡ m)) →
          (e : EndId) × (n : ℕ) × (e.side < 2) × (slice_get (waits_of plain' e) n ≡ Some (session_message d keeper))
      still d keeper e n i (inl w) = (e, w.0, i, w.1)
      still d keeper e n i (inr w) = absurd (subst NamesNoEnd (sym w.2) value)

  -- the message of an end was taken, which is no longer parked
  pub links_shrink_end : (d : EndId) (keeper : ℕ) → m ≡ session_message d keeper → ((k : ℕ) → IsParkedAt k (seats' d) → ⊥) →
      ((e : EndId) → e.side < 2 → is_same_end e d ≡ false → KeepAlike (seats e) (seats' e)) → IsLinked plain' seats'
  links_shrink_end d keeper m_is free alike = record {
    parks = λ e n sess side k i w. parks' (record { sess = sess; side = side }) e n k i w;
    named = λ a k i p. named' a k i p (is_same_end a d) refl;
    once = once_after;
  }
    where
      first : slice_get (waits_of plain c) 0 ≡ Some (session_message d keeper)
      first = ap (λ l. slice_get l 0) shrinks ∙ ap Some m_is

      -- no other message names it
      not_twice : (a e : EndId) (n k : ℕ) → e.side < 2 → a ≡ d → slice_get (waits_of plain' e) n ≡ Some (session_message a k) → ⊥
      not_twice a e n k i j w =
          let w1 : slice_get (waits_of plain' e) n ≡ Some (session_message d k) = w ∙ ap (λ z. Some (session_message z k)) j in
          let o : (e ≡ c) × (shift (is_same_end e c) n ≡ 0) = linked.once e c (shift (is_same_end e c) n) 0 d.sess d.side k keeper i below (was_at e n (session_message d k) i w1) first in
          let b : is_same_end e c ≡ true = ap (λ z. is_same_end z c) o.0 ∙ same_end c in
          let n_is : suc n ≡ 0 = sym (ap (λ z. shift z n) b) ∙ o.1 in
          absurd (cc n_is)

      parks' : (a e : EndId) (n k : ℕ) → e.side < 2 → slice_get (waits_of plain' e) n ≡ Some (session_message a k) → (a.side < 2) × IsParkedAt k (seats' a)
      parks' a e n k i w = by (is_same_end a d) refl
        where
          old : (a.side < 2) × IsParkedAt k (seats a)
          old = linked.parks e (shift (is_same_end e c) n) a.sess a.side k i (was_at e n (session_message a k) i w)

          by : (z : Bool) → is_same_end a d ≡ z → (a.side < 2) × IsParkedAt k (seats' a)
          by true z = absurd (not_twice a e n k i (same_is a d z) w)
          by false z = (old.0, (alike a old.0 z k).0 old.1)

      named' : (a : EndId) (k : ℕ) → a.side < 2 → IsParkedAt k (seats' a) → (z : Bool) → is_same_end a d ≡ z → (e : EndId) × (n : ℕ) × (e.side < 2) × (slice_get (waits_of plain' e) n ≡ Some (session_message a k))
      named' a k i p true z = absurd (free k (subst (λ y. IsParkedAt k (seats' y)) (same_is a d z) p))
      named' a k i p false z =
          let old : (e : EndId) × (n : ℕ) × (e.side < 2) × (slice_get (waits_of plain e) n ≡ Some (session_message a k)) = linked.named a k i ((alike a i z k).1 p) in
          still old.0 old.1 old.2 (still_or_first old.0 old.1 (session_message a k) old.2 old.3)
        where
          -- the message that was taken named another end
          is_d : session_message a k ≡ m → is_same_end a d ≡ true
          is_d e =
              let i : session_message a k ≡ session_message d keeper = e ∙ m_is in
              let s : a.sess ≡ d.sess = cc i in
              let t : a.side ≡ d.side = cc i in
              let j : a ≡ d = rw (s, t) refl in
              ap (λ y. is_same_end y d) j ∙ same_end d

          still : (e : EndId) (n : ℕ) → e.side < 2 → ((k' : ℕ) × (slice_get (waits_of plain' e) k' ≡ Some (session_message a k))) ⊎ ((e ≡ c) × (n ≡ 0) × (session_message a k ≡ m)) →
              (e : EndId) × (n : ℕ) × (e.side < 2) × (slice_get (waits_of plain' e) n ≡ Some (session_message a k))
          still e n i (inl w) = (e, w.0, i, w.1)
          still e n i (inr w) = absurd (cc (z, is_d w.2))
