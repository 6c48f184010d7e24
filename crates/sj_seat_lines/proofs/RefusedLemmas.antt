-- What is put so far of the answer to a line that is refused.
use Rattle.std.proofs.Common.{◌≡◌, ℕ, List, [], ◌∷◌, ◌++◌}
use Rattle.std.specs.Prelude.{codes, decimal}
use Rattle.sj_semantics.specs.Lines.{line_of}
use Rattle.sj_text.proofs.CutLemmas.{StillTo, none_yet, one_more}

-- line n is refused by rule g, whose words these are
module _ (n g : ℕ) (words old : List ℕ) where
  abbrev pub refused_text : List ℕ
  refused_text = line_of (codes "refused" ∷ decimal n ∷ (71 ∷ decimal g) ∷ words ∷ [])

  abbrev pub rule_ahead : List ℕ
  rule_ahead = codes " " ++ (words ++ 10 ∷ [])

  after_number : (a b : List ℕ) → a ≡ old ++ codes "refused " → b ≡ a ++ decimal n → StillTo old refused_text (codes " G" ++ (decimal g ++ rule_ahead)) b
  after_number a b e f =
      one_more old refused_text (decimal n) (codes " G" ++ (decimal g ++ rule_ahead)) a b
      (one_more old refused_text (codes "refused ") (decimal n ++ (codes " G" ++ (decimal g ++ rule_ahead))) old a (none_yet old refused_text) e) f

  pub after_mark : (a b c : List ℕ) → a ≡ old ++ codes "refused " → b ≡ a ++ decimal n → c ≡ b ++ codes " G" → StillTo old refused_text (decimal g ++ rule_ahead) c
  after_mark a b c e f h = one_more old refused_text (codes " G") (decimal g ++ rule_ahead) b c (after_number a b e f) h

  pub after_rule : (a b c d : List ℕ) → a ≡ old ++ codes "refused " → b ≡ a ++ decimal n → c ≡ b ++ codes " G" → d ≡ c ++ decimal g → StillTo old refused_text rule_ahead d
  after_rule a b c d e f h k = one_more old refused_text (decimal g) rule_ahead c d (after_mark a b c e f h) k

  pub after_space : (a b c d i : List ℕ) → a ≡ old ++ codes "refused " → b ≡ a ++ decimal n → c ≡ b ++ codes " G" → d ≡ c ++ decimal g → i ≡ d ++ codes " " → StillTo old refused_text (words ++ 10 ∷ []) i
  after_space a b c d i e f h k l = one_more old refused_text (codes " ") (words ++ 10 ∷ []) d i (after_rule a b c d e f h k) l

  pub after_words : (a b c d i j : List ℕ) → a ≡ old ++ codes "refused " → b ≡ a ++ decimal n → c ≡ b ++ codes " G" → d ≡ c ++ decimal g → i ≡ d ++ codes " " → j ≡ i ++ words
      → StillTo old refused_text (10 ∷ []) j
  after_words a b c d i j e f h k l m = one_more old refused_text words (10 ∷ []) i j (after_space a b c d i e f h k l) m
