-- Where nothing is left to do in a world that is computed.
use Rattle.std.proofs.Common.{◌≡◌, ℕ, zero, suc, ◌<◌, Bool, true, false, ◌&&◌, List, [], ◌∷◌, length, map, Option, Some, None, option_map, refl, ap, ◌∙◌, subst, arith, inl, inr}
use Rattle.std.specs.Prelude.{is_none}
use Rattle.std.proofs.lemmas.Bool.{and_parts, cases_eq}
use Rattle.sj_lang.specs.FileAt.{FileAt}
use Rattle.sj_lang.specs.Place.{Place}
use Rattle.sj_semantics.specs.Program.{Program}
use Rattle.sj_rules.specs.Node.{Play, acts}
use Rattle.sj_rules.specs.World.{WorldAt}
use Rattle.sj_rules.specs.Party.{play_of}
use Rattle.sj_rules.specs.Start.{core_start}
use Rattle.sj_rules.specs.Log.{LineAt}
use Rattle.sj_rules.specs.History.{IsQuietAmong, Replay, replay, turn_of}
use Rattle.sj_rules_laws.specs.CoreSamples.{IsWholeHistory}

-- all numbers below n pass the test
abbrev pub all_below : ℕ → (ℕ → Bool) → Bool
all_below zero f = true
all_below (suc n) f = f n && all_below n f

below_passes : (n : ℕ) (f : ℕ → Bool) (k : ℕ) → k < n → all_below n f ≡ true → f k ≡ true
below_passes zero f k lt h = absurd (omega arith)
below_passes (suc n) f k lt h =
    let both = and_parts (f n) (all_below n f) h in
    elim (cases_eq n k) [
      | inl same ↦ subst (λ (i : ℕ). f i ≡ true) same both.0
      | inr other ↦ below_passes n f k (omega (arith, other, lt)) both.1
    ]

abbrev pub is_empty : {X : Type 0} → List X → Bool
is_empty [] = true
is_empty (x ∷ xs) = false

empty_is : {X : Type 0} (xs : List X) → is_empty xs ≡ true → xs ≡ []
empty_is [] h = refl
empty_is (x ∷ xs) h = cc

none_is : {X : Type 0} (o : Option X) → is_none o ≡ true → o ≡ None
none_is None h = refl
none_is (Some x) h = cc

-- no frame is in a lane of these parties, and none of them can act
abbrev pub is_quiet : {P Q : Type 0} → Play P Q → ℕ → WorldAt P Q → Bool
is_quiet play n w = all_below n (λ p. is_none (acts play p (w.nodes p)) && all_below n (λ q. is_empty (w.lanes p q)))

module _ {P Q : Type 0} (play : Play P Q) (n : ℕ) (w : WorldAt P Q) (h : is_quiet play n w ≡ true) where
  party_quiet : (p : ℕ) → p < n → (is_none (acts play p (w.nodes p)) ≡ true) × (all_below n (λ q. is_empty (w.lanes p q)) ≡ true)
  party_quiet p lt =
      and_parts (is_none (acts play p (w.nodes p))) (all_below n (λ q. is_empty (w.lanes p q)))
      (below_passes n (λ p. is_none (acts play p (w.nodes p)) && all_below n (λ q. is_empty (w.lanes p q))) p lt h)

  quiet_among : IsQuietAmong play n w
  quiet_among = record {
    empty = λ from to lf lt. empty_is (w.lanes from to) (below_passes n (λ q. is_empty (w.lanes from q)) to lt (party_quiet from lf).1);
    still = λ p lt. none_is (acts play p (w.nodes p)) (party_quiet p lt).0;
  }

module _ (pick : ℕ → ℕ → ℕ) (file : FileAt) (lines : List LineAt) where
  abbrev pub replayed : Option (Replay Place Program)
  replayed = replay (play_of file) pick (map turn_of lines) (core_start file)

  by_replay : (o : Option (Replay Place Program)) → replayed ≡ o → option_map (λ r. r.lines) o ≡ Some lines → option_map (λ r. is_quiet (play_of file) (length file.parties) r.world) o ≡ Some true
      → IsWholeHistory pick file lines
  by_replay None is same quiet = cc
  by_replay (Some r) is same quiet =
      let its_lines : r.lines ≡ lines = cc in
      let rests : is_quiet (play_of file) (length file.parties) r.world ≡ true = cc in (
        r.world,
        is ∙ ap (λ (ls : List LineAt). Some (record { lines = ls; world = r.world })) its_lines,
        quiet_among (play_of file) (length file.parties) r.world rests,
      )

  -- both are computed
  pub whole_history : option_map (λ r. r.lines) replayed ≡ Some lines → option_map (λ r. is_quiet (play_of file) (length file.parties) r.world) replayed ≡ Some true → IsWholeHistory pick file lines
  whole_history same quiet = by_replay replayed refl same quiet
