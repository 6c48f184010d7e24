-- The lines of sessions that were opened, by what the history reports of their ends.
use Rattle.std.proofs.Common.{◌≡◌, ℕ, zero, suc, ◌+◌, ◌<◌, ◌≤◌, List, [], ◌∷◌, ◌++◌, length, map, slice_index_or, unwrap_or, Option, option_map, refl, ap, sym, ◌∙◌, arith, inl, inr}
use Rattle.std.proofs.lemmas.Bool.Decides.{eqb_tells}
use Rattle.std.specs.List.{All}
use Rattle.sj_base.specs.declared.EndId.{EndId}
use Rattle.sj_lane.proofs.BackLemmas.{slice_get_some}
use Rattle.sj_lang.specs.FileAt.{FileAt}
use Rattle.sj_rules.specs.Log.{LineAt}
use Rattle.sj_rules_laws.specs.TiedNotes.{sent_told, taken_told, told_in}
use Rattle.sj_seat_told.specs.Opened.{sent_at, takers_at, told_end_lines, told_sessions_lines}
use Rattle.sj_seat_told_laws.specs.SeatsOpened.{opened_ends_line, opened_ends_lines}
use Rattle.sj_semantics.specs.Ends.{Session, end_at, other_end}
use Rattle.sj_semantics.specs.Transcript.{end_lines, sent_lines}
use Rattle.sj_semantics.specs.declared.Opened.{Opened}
use Rattle.sj_told.specs.Lines.{AreToldBy}
use Rattle.sj_told.specs.Told.{side_slot, slot_of}
use Rattle.sj_told.specs.declared.told.ToldEnd.{ToldEnd}

-- ---- numbers

-- of the first sessions, so many, each has a number below n
abbrev pub AreBelow : List Opened → ℕ → ℕ → Type 0
AreBelow os i n = (k : ℕ) (d : Opened) → k < i → (slice_index_or os k d).sess < n

any_default : (os : List Opened) (i : ℕ) (d e : Opened) → i < length os → slice_index_or os i d ≡ slice_index_or os i e
any_default [] i d e lt = absurd (omega (arith, lt))
any_default (o ∷ os) zero d e lt = refl
any_default (o ∷ os) (suc i) d e lt = any_default os i d e (omega (arith, lt))

pub none_below : (os : List Opened) (n : ℕ) → AreBelow os 0 n
none_below os n k d lt = absurd (omega (arith, lt))

pub one_below : (os : List Opened) (i n m : ℕ) (e : Opened) → i < length os → AreBelow os i n → n ≤ m → (slice_index_or os i e).sess < m → AreBelow os (i + 1) m
one_below os i n m e within below more here k d lt =
    elim (eqb_tells k i) [
      | inl same ↦
          let it : slice_index_or os k d ≡ slice_index_or os i e = ap (λ (j : ℕ). slice_index_or os j d) same.1 ∙ any_default os i d e within in
          let number : (slice_index_or os k d).sess ≡ (slice_index_or os i e).sess = ap (λ (o : Opened). o.sess) it in
          omega (arith, number, here)
      | inr other ↦ let apart = other.1 in omega (arith, below k d (omega (arith, lt, apart)), more)
    ]

pub all_below : (os : List Opened) (i n : ℕ) → length os ≤ i → AreBelow os i n → All (λ o. o.sess < n) os
all_below os i n over below k d lt = below k d (omega (arith, lt, over))

-- ---- lines

low_side : (d : ℕ) → side_slot d ≤ 1
low_side zero = omega arith
low_side (suc d) = omega arith

module _ (file : FileAt) (lines : List LineAt) (zs : List Session) (sent : (e : EndId) → (end_at zs e).sent ≡ told_in (sent_told e) lines)
    (takers : (e : EndId) → (end_at zs e).takers ≡ map (λ x. x.by) (told_in (taken_told e) lines)) (n : ℕ) (ends : List ToldEnd) (told : AreToldBy lines n ends) where
  -- what was sent on an end that the list has
  end_is : (e : EndId) → e.sess < n → told_end_lines file ends e ≡ end_lines file zs e
  end_is e lt =
      let within : slot_of e < length ends = omega (arith, lt, low_side e.side, told.count) in
      let x = slice_get_some ends (slot_of e) within in
      let is = told.each e x.0 x.1 in
      let own : sent_at ends (slot_of e) ≡ (end_at zs e).sent = ap (λ (o : Option ToldEnd). unwrap_or (option_map (λ y. y.sent.items) o) []) x.1 ∙ is.sent ∙ sym (sent e) in
      let other : takers_at ends (slot_of e) ≡ (end_at zs (other_end e)).takers = ap (λ (o : Option ToldEnd). unwrap_or (option_map (λ y. y.takers.items) o) []) x.1 ∙ is.takers ∙ sym (takers (other_end e)) in
      λ i. sent_lines file e.sess e.side 0 (own i) (other i)

  -- of all sessions that the list has
  pub sessions_are : (os : List Opened) → All (λ o. o.sess < n) os → told_sessions_lines file ends os ≡ opened_ends_lines file zs os
  sessions_are [] all = refl
  sessions_are (o ∷ os) all =
      let lt : o.sess < n = all 0 o (omega arith) in
      let first = end_is (record { sess = o.sess; side = 0 }) lt in
      let second = end_is (record { sess = o.sess; side = 1 }) lt in
      let rest = sessions_are os (λ k d h. all (suc k) d (omega (arith, h))) in
      λ i. opened_ends_line file o ++ first i ++ second i ++ rest i
