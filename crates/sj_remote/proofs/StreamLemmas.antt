-- The keys of a run's streams, and the numbers that were seen, as they are made.
use Rattle.std.proofs.Common.{◌≡◌, ℕ, zero, suc, ◌+◌, ◌<◌, ◌^◌, List, [], ◌∷◌, ◌++◌, Vec, length, refl, sym, subst, ap, ◌∙◌, arith}
use Rattle.std.proofs.lemmas.List.{length-append, map-append}
use native.Mathlib.Numerals.{unary_clauses}
use Rattle.std.specs.declared.alloc.Global.{Global}
use Rattle.sj_streams.specs.Keys.{log_key_text}
use Rattle.sj_streams.specs.Words.{words_at}
use Rattle.sj_remote.specs.Numbers.{AreUnseen, IsFew}
use Rattle.sj_remote.specs.Streams.{log_keys}

-- the keys and the numbers of so many parties are made
pub record Made (run : List ℕ) (n : ℕ) (keys : List (Vec ℕ Global)) (seen : List ℕ) : Type 0 where
  pub texts : words_at keys ≡ log_keys run n
  pub count : length keys ≡ n
  pub numbers : length seen ≡ n
  pub unseen : AreUnseen seen

zero_push : (xs : List ℕ) → AreUnseen xs → AreUnseen (xs ++ 0 ∷ [])
zero_push [] z zero = refl
zero_push [] z (suc i) = refl
zero_push (x ∷ xs) z zero = z zero
zero_push (x ∷ xs) z (suc i) = zero_push xs (λ j. z (suc j)) i

length_push : {A : Type 0} (xs : List A) (x : A) → length (xs ++ x ∷ []) ≡ length xs + 1
length_push xs x = length-append xs (x ∷ [])

next_keys : (run : List ℕ) (n : ℕ) → log_keys run (n + 1) ≡ log_keys run n ++ log_key_text run n ∷ []
unfolding log_keys
next_keys run n = simp unary_clauses refl

pub made_none : (run : List ℕ) → Made run 0 [] []
unfolding log_keys
made_none run = record { texts = refl; count = refl; numbers = refl; unseen = λ i. refl }

pub made_next : (run : List ℕ) (n : ℕ) (keys later : List (Vec ℕ Global)) (seen now : List ℕ) (k : Vec ℕ Global) → Made run n keys seen → k.items ≡ log_key_text run n
    → later ≡ keys ++ k ∷ [] → now ≡ seen ++ 0 ∷ [] → Made run (n + 1) later now
made_next run n keys later seen now k m text grown more = record {
  texts = ap words_at grown ∙ map-append (λ w. w.items) keys (k ∷ []) ∙ ap (λ (ts : List (List ℕ)). ts ++ k.items ∷ []) m.texts
      ∙ ap (λ (t : List ℕ). log_keys run n ++ t ∷ []) text ∙ sym (next_keys run n);
  count = ap length grown ∙ length_push keys k ∙ ap (λ (i : ℕ). i + 1) m.count;
  numbers = ap length more ∙ length_push seen 0 ∙ ap (λ (i : ℕ). i + 1) m.numbers;
  unseen = subst AreUnseen (sym more) (zero_push seen m.unseen);
}

pub made_same : (run : List ℕ) (n : ℕ) (keys : List (Vec ℕ Global)) (seen : List ℕ) → Made run n keys seen → length seen ≡ length keys
made_same run n keys seen m = m.numbers ∙ sym m.count

pub made_few : (run : List ℕ) (n : ℕ) (keys : List (Vec ℕ Global)) (seen : List ℕ) → Made run n keys seen → IsFew seen
made_few run n keys seen m i = subst (λ (x : ℕ). x + 1 < 2 ^ 63) (sym (m.unseen i)) (omega arith)

pub made_count : (run : List ℕ) (n : ℕ) (keys : List (Vec ℕ Global)) (seen : List ℕ) → Made run n keys seen → n < 2 ^ 16 → length keys < 2 ^ 16
made_count run n keys seen m few = subst (λ (x : ℕ). x < 2 ^ 16) (sym m.count) few

pub ruleset made = (made_none, made_same, made_few, made_count)
