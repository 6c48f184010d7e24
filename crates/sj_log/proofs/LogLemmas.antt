-- The lines of a log, taken off one after another.
use Rattle.std.proofs.Common.{◌≡◌, ℕ, ◌+◌, ◌-◌, ◌<◌, ◌≤◌, List, [], ◌∷◌, ◌++◌, length, take, drop, map, refl, ap, sym, ◌∙◌, arith, Result, Ok, Err}
use Rattle.std.specs.Prelude.{◌==◌}
use Rattle.std.specs.List.{slice_split, position_or_len, after_first}
use Rattle.std.proofs.lemmas.List.{take_all, length-drop, map_push, append_assoc}
use Rattle.std.proofs.lemmas.List.Splits.{slice_split_first}
use Rattle.sj_lang.specs.FileAt.{FileAt}
use Rattle.sj_end.specs.declared.note.Line.{Line}
use Rattle.sj_end.specs.Lines.{line_at}
use Rattle.sj_rules.specs.Log.{LineAt}
use Rattle.sj_log.specs.Fields.{made}
use Rattle.sj_log.specs.LogText.{lines_read, line_read, before}
use Rattle.sj_log.specs.declared.refusal.LogRule.{LogRule}
use Rattle.sj_log.specs.declared.refusal.LogRule.TheVariants.{L4}
use Rattle.sj_fields.proofs.WordLemmas.{one_part, some_part}

-- what was read already, and what is read of the rest
abbrev pub behind : List LineAt → Result (List LineAt) (LogRule × ℕ) → Result (List LineAt) (LogRule × ℕ)
behind ls (Ok more) = Ok (ls ++ more)
behind ls (Err fault) = Err fault

-- the lines of these bytes, from that number on
abbrev pub read_from : ℕ → FileAt → ℕ → List ℕ → Result (List LineAt) (LogRule × ℕ)
read_from version file n xs = lines_read version file n (slice_split (λ b. b == 10) xs)

pub read_first : (version : ℕ) (file : FileAt) (n : ℕ) (x : List ℕ) (xs : List (List ℕ)) → 0 < length xs → lines_read version file n (x ∷ xs) ≡ before n (line_read version file x) (lines_read version file (n + 1) xs)
read_first version file n x [] h = absurd (omega arith)
read_first version file n x (y ∷ ys) h = refl

read_last : (version : ℕ) (file : FileAt) (n : ℕ) (xs : List ℕ) → 0 < length xs → lines_read version file n (xs ∷ []) ≡ Err (L4, n)
read_last version file n [] h = absurd (omega arith)
read_last version file n (x ∷ xs) h = refl

-- a last line without its newline
pub last_line : (version : ℕ) (file : FileAt) (n : ℕ) (xs : List ℕ) → 0 < length xs → length xs ≤ position_or_len (λ b. b == 10) xs → read_from version file n xs ≡ Err (L4, n)
last_line version file n xs h e = ap (lines_read version file n) (one_part (λ b. b == 10) xs e) ∙ read_last version file n xs h

one_more : (n : ℕ) (ls : List LineAt) (l : LineAt) (more : Result (List LineAt) (LogRule × ℕ)) → behind ls (before n (Ok l) more) ≡ behind (ls ++ l ∷ []) more
one_more n ls l (Err fault) = refl
one_more n ls l (Ok more) = ap (λ x. Ok x) (sym (append_assoc ls (l ∷ []) more))

module _ (version : ℕ) (file : FileAt) (n e : ℕ) (xs : List ℕ) (at : e ≡ position_or_len (λ b. b == 10) xs) (inside : e < length xs) where
  left_is : take (length xs - (e + 1)) (drop (e + 1) xs) ≡ drop (e + 1) xs
  left_is = take_all (length xs - (e + 1)) (drop (e + 1) xs) (omega (arith, length-drop (e + 1) xs))

  first_line : read_from version file n xs ≡ before n (line_read version file (take e xs)) (read_from version file (n + 1) (drop (e + 1) xs))
  first_line = rw at (ap (lines_read version file n) (slice_split_first (λ b. b == 10) xs 0 (omega arith)) ∙ read_first version file n _ _ (some_part (λ b. b == 10) (after_first (λ b. b == 10) xs)))

  pub left_is_shorter : n + length xs ≤ 16777217 → n + 1 + length (take (length xs - (e + 1)) (drop (e + 1) xs)) ≤ 16777217
  left_is_shorter h = rw left_is (omega (arith, length-drop (e + 1) xs))

  module _ (items : List Line) (whole : Result (List LineAt) (LogRule × ℕ)) (so_far : whole ≡ behind (map line_at items) (read_from version file n xs)) (read : Result Line LogRule) (is : made line_at read ≡ line_read version file (take e xs)) where
    parted : whole ≡ behind (map line_at items) (before n (made line_at read) (read_from version file (n + 1) (drop (e + 1) xs)))
    parted = so_far ∙ ap (behind (map line_at items)) (first_line ∙ ap (λ r. before n r (read_from version file (n + 1) (drop (e + 1) xs))) (sym is))

    -- the first line breaks a rule
    pub broken : (rule : LogRule) → read ≡ Err rule → whole ≡ Err (rule, n)
    broken rule was = parted ∙ ap (λ r. behind (map line_at items) (before n (made line_at r) (read_from version file (n + 1) (drop (e + 1) xs)))) was

    -- one more line was read
    pub goes_on : (l : Line) (new : List Line) → read ≡ Ok l → new ≡ items ++ l ∷ []
        → whole ≡ behind (map line_at new) (read_from version file (n + 1) (take (length xs - (e + 1)) (drop (e + 1) xs)))
    goes_on l new was pushed =
        parted ∙ ap (λ r. behind (map line_at items) (before n (made line_at r) (read_from version file (n + 1) (drop (e + 1) xs)))) was
        ∙ one_more n (map line_at items) (line_at l) (read_from version file (n + 1) (drop (e + 1) xs))
        ∙ (λ i. behind (sym (ap (map line_at) pushed ∙ map_push line_at items l) i) (read_from version file (n + 1) (sym left_is i)))
