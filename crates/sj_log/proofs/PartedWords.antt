-- A line is split into the words of which it was made.
use Rattle.std.proofs.Common.{◌≡◌, ℕ, ◌<◌, ◌≤◌, Bool, true, false, List, [], ◌∷◌, ◌++◌, length, get_or, refl, ap, sym, ◌∙◌, arith}
use Rattle.std.specs.Prelude.{◌==◌, nat_lt, not, ⊤}
use Rattle.std.specs.List.{All, list_all, slice_split, join_with_byte}
use Rattle.std.proofs.lemmas.Bool.Decides.{nat_tests}
use Rattle.std.proofs.lemmas.List.{append_assoc}
use Rattle.std.proofs.lemmas.List.Sums.{AllPass-from_list_all}
use Rattle.std.proofs.lemmas.List.Splits.{slice_split_at, slice_split_none}
use Rattle.sj_semantics.specs.Lines.{line_of}
use Rattle.sj_log.specs.Fields.{words_in}

-- a word without spaces and newlines
abbrev pub is_plain : List ℕ → Bool
is_plain w = list_all (λ b. nat_lt 32 b) w

abbrev pub is_one_line : List ℕ → Bool
is_one_line w = list_all (λ b. not (b == 10)) w

abbrev pub ArePlain : List (List ℕ) → Type 0
ArePlain [] = ⊤
ArePlain (w ∷ ws) = (is_plain w ≡ true) × ArePlain ws

other : (c x : ℕ) → c ≤ 32 → nat_lt 32 x ≡ true → (x == c) ≡ false
other c x h t = grind (arith, nat_tests)

no_byte : (c : ℕ) → c ≤ 32 → (w : List ℕ) → is_plain w ≡ true → All (λ x. (x == c) ≡ false) w
no_byte c h w p k d l = other c (get_or w k d) h (AllPass-from_list_all (λ b. nat_lt 32 b) w p k d l)

-- words in front of others
pub parted : (ws : List (List ℕ)) (m : List ℕ) (ms : List (List ℕ)) → ArePlain ws → words_in (join_with_byte 32 (ws ++ m ∷ ms)) ≡ ws ++ words_in (join_with_byte 32 (m ∷ ms))
parted [] m ms h = refl
parted (w ∷ []) m ms h = slice_split_at (λ b. b == 32) w 32 (join_with_byte 32 (m ∷ ms)) (no_byte 32 (omega arith) w h.0) refl
parted (w ∷ v ∷ vs) m ms h =
    slice_split_at (λ b. b == 32) w 32 (join_with_byte 32 (v ∷ (vs ++ m ∷ ms))) (no_byte 32 (omega arith) w h.0) refl ∙ ap (λ t. w ∷ t) (parted (v ∷ vs) m ms h.1)

-- the last word
pub alone : (w : List ℕ) → is_plain w ≡ true → words_in w ≡ w ∷ []
alone w h = slice_split_none (λ b. b == 32) w (no_byte 32 (omega arith) w h)

pub all_parted : (ws : List (List ℕ)) (w : List ℕ) → ArePlain ws → is_plain w ≡ true → words_in (join_with_byte 32 (ws ++ w ∷ [])) ≡ ws ++ w ∷ []
all_parted ws w h p = parted ws w [] h ∙ ap (λ t. ws ++ t) (alone w p)

-- a line is its words and a newline
pub line_is : (w : List ℕ) (ws : List (List ℕ)) → line_of (w ∷ ws) ≡ join_with_byte 32 (w ∷ ws) ++ 10 ∷ []
line_is w [] = refl
line_is w (v ∷ vs) = ap (λ t. w ++ 32 ∷ t) (line_is v vs) ∙ sym (append_assoc w (32 ∷ join_with_byte 32 (v ∷ vs)) (10 ∷ []))

not_newline : (x : ℕ) → not (x == 10) ≡ true → (x == 10) ≡ false
not_newline x t = grind (arith, nat_tests)

-- lines stand one after another
pub line_first : (l more : List ℕ) → is_one_line l ≡ true → slice_split (λ b. b == 10) (l ++ 10 ∷ more) ≡ l ∷ slice_split (λ b. b == 10) more
line_first l more h = slice_split_at (λ b. b == 10) l 10 more (λ k d i. not_newline (get_or l k d) (AllPass-from_list_all (λ b. not (b == 10)) l h k d i)) refl

-- words in front of some others
pub parted_more : (ws ms : List (List ℕ)) → 0 < length ms → ArePlain ws → words_in (join_with_byte 32 (ws ++ ms)) ≡ ws ++ words_in (join_with_byte 32 ms)
parted_more ws [] some h = absurd (omega arith)
parted_more ws (m ∷ ms) some h = parted ws m ms h
