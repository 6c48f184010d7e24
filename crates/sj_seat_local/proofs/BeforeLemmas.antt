-- Lines that stand before the line `%%talk`, as they are read.
use Rattle.std.proofs.Common.{◌≡◌, ◌∙◌, ◌<◌, ◌≤◌, ◌+◌, ℕ, zero, suc, Bool, true, false, List, [], ◌∷◌, ◌++◌, Option, Some, None, IfSome, length, take, take_all, length-append, ap, sym, refl, subst, arith}
use Rattle.std.specs.Str.{bytes_eq}
use Rattle.std.proofs.lemmas.Slice.Eq.{bytes_eq-Decides}
use Rattle.sj_lang.specs.Limits.{file_limit}
use Rattle.sj_seat_lines.specs.Reading.{IsNextLine, after_line, first_line, newline}
use Rattle.sj_seat_local.specs.Before.{BeginsWith, HasNoTalk, HasText, IsTooLarge, StandsBefore, begins, goes, talk_line}

-- the text of the lines that were read, and what is left after them
abbrev pub IsSoFar : Option (List ℕ) → List ℕ → Option (List ℕ) → Type 0
IsSoFar old text now = IfSome old (λ source. (rest : List ℕ) × (now ≡ Some rest) × StandsBefore source text rest)

pub so_far_none : (o : Option (List ℕ)) → IsSoFar o [] o
so_far_none None = tt
so_far_none (Some source) = (source, refl, begins)

-- ---- whether it is that line

pub line_is : (line other : List ℕ) (b : Bool) → b ≡ bytes_eq line other → b ≡ true → line ≡ other
line_is line other b test h = (bytes_eq-Decides line other).0 (sym test ∙ h)

pub line_isnt : (line other : List ℕ) (b : Bool) → b ≡ bytes_eq line other → b ≡ false → line ≡ other → ⊥
line_isnt line other b test h same =
    let e : bytes_eq line other ≡ true = (bytes_eq-Decides line other).1 same in
    let f : bytes_eq line other ≡ false = sym test ∙ h in
    absurd (cc)

-- ---- bytes of a line that are few

short_take : (n : ℕ) (xs : List ℕ) → length (take n xs) < n → take n xs ≡ xs
short_take zero xs lt = absurd (omega (arith, lt))
short_take (suc n) [] lt = refl
short_take (suc n) (x ∷ xs) lt = ap (λ ys. x ∷ ys) (short_take n xs (omega (arith, lt)))

take_few : (n : ℕ) (xs : List ℕ) → length (take n xs) ≤ length xs
take_few zero xs = omega arith
take_few (suc n) [] = omega arith
take_few (suc n) (x ∷ xs) = let few = take_few n xs in omega (arith, few)

-- a line that is cut after more bytes than that has, is another one
talk_cut : (n : ℕ) (line : List ℕ) → 6 < n → take n line ≡ talk_line → line ≡ talk_line
talk_cut n line lt is = sym (short_take n line (subst (λ xs. length xs < n) (sym is) lt)) ∙ is

other_cut : (n : ℕ) (line : List ℕ) → 6 < n → (take n line ≡ talk_line → ⊥) → line ≡ talk_line → ⊥
other_cut n line lt other is = other (ap (take n) is ∙ take_all n talk_line (omega (arith, lt)))

-- ---- one more line

module _ (n : ℕ) (some : 6 < n) (text line : List ℕ) where
  -- it is the line `%%talk`
  talk_by : (old now new : Option (List ℕ)) → IsSoFar old text now → IsNextLine n now line new → line ≡ talk_line → HasText old text new
  talk_by None now new s next is = tt
  talk_by (Some source) now new s next is =
      let here = subst (λ o. IsNextLine n o line new) s.1 next in
      (s.0, record { stands = s.2; talk = talk_cut n (first_line s.0) some (sym here.0.1 ∙ is) }, here.1)

  -- it is another one, which is whole
  more_by : (old now new : Option (List ℕ)) → IsSoFar old text now → IsNextLine n now line new → (line ≡ talk_line → ⊥) → length line < n → IsSoFar old (text ++ (line ++ newline ∷ [])) new
  more_by None now new s next other few = tt
  more_by (Some source) now new s next other few =
      let here = subst (λ o. IsNextLine n o line new) s.1 next in
      let whole : line ≡ first_line s.0 = here.0.1 ∙ short_take n (first_line s.0) (subst (λ xs. length xs < n) here.0.1 few) in
      (after_line s.0, here.1, subst (λ xs. StandsBefore source (text ++ (xs ++ newline ∷ [])) (after_line s.0)) (sym whole) (goes text s.0 s.2 here.0.0 (λ is. other (whole ∙ is))))

  -- with it there are too many bytes
  large_by : (old now new : Option (List ℕ)) → IsSoFar old text now → IsNextLine n now line new → (line ≡ talk_line → ⊥) → file_limit < length (text ++ (line ++ newline ∷ [])) → IfSome old IsTooLarge
  large_by None now new s next other large = tt
  large_by (Some source) now new s next other large =
      let here = subst (λ o. IsNextLine n o line new) s.1 next in
      let first = first_line s.0 in
      let few : length line ≤ length first = subst (λ xs. length xs ≤ length first) (sym here.0.1) (take_few n first) in
      record {
        text = text ++ (first ++ newline ∷ []);
        rest = after_line s.0;
        stands = goes text s.0 s.2 here.0.0 (other_cut n first some (λ is. other (here.0.1 ∙ is)));
        large = omega (arith, large, few, length-append text (first ++ newline ∷ []), length-append first (newline ∷ []), length-append text (line ++ newline ∷ []), length-append line (newline ∷ []));
      }

pub talk_comes : (n : ℕ) → 6 < n → (text line : List ℕ) (old now new : Option (List ℕ)) → IsSoFar old text now → IsNextLine n now line new → line ≡ talk_line → HasText old text new
talk_comes n some text line old now new s next is = talk_by n some text line old now new s next is

pub line_comes : (n : ℕ) → 6 < n → (text line bytes : List ℕ) (old now new : Option (List ℕ)) → IsSoFar old text now → IsNextLine n now line new → (line ≡ talk_line → ⊥) → bytes ≡ text ++ (line ++ newline ∷ []) → length bytes < n
    → IsSoFar old bytes new
line_comes n some text line bytes old now new s next other is few =
    subst (λ xs. IsSoFar old xs new) (sym is)
    (more_by n some text line old now new s next other (omega (arith, few, ap (λ (xs : List ℕ). length xs) is, length-append text (line ++ newline ∷ []), length-append line (newline ∷ []))))

pub large_comes : (n : ℕ) → 6 < n → (text line bytes : List ℕ) (old now new : Option (List ℕ)) → IsSoFar old text now → IsNextLine n now line new → (line ≡ talk_line → ⊥) → bytes ≡ text ++ (line ++ newline ∷ []) → file_limit < length bytes
    → IfSome old IsTooLarge
large_comes n some text line bytes old now new s next other is large =
    large_by n some text line old now new s next other (subst (λ (xs : List ℕ). file_limit < length xs) is large)

-- the line that was put is that one
pub put_same : (text line put bytes : List ℕ) → bytes ≡ text ++ (put ++ newline ∷ []) → put ≡ line → bytes ≡ text ++ (line ++ newline ∷ [])
put_same text line put bytes is same = is ∙ ap (λ xs. text ++ (xs ++ newline ∷ [])) same

-- ---- the end

pub no_talk_comes : (text : List ℕ) (old now : Option (List ℕ)) → IsSoFar old text now → IfSome now (λ bs. bs ≡ []) → IfSome old HasNoTalk
no_talk_comes text None now s none = tt
no_talk_comes text (Some source) now s none =
    let here : s.0 ≡ [] = subst (λ o. IfSome o (λ bs. bs ≡ [])) s.1 none in
    (text, subst (λ rest. StandsBefore source text rest) here s.2)

-- too many lines came
pub many_are_large : (text : List ℕ) (old now : Option (List ℕ)) → IsSoFar old text now → file_limit < length text → IfSome old IsTooLarge
many_are_large text None now s large = tt
many_are_large text (Some source) now s large = record { text = text; rest = s.0; stands = s.2; large = large }

-- the line has a byte at least
pub longer : (text line bytes : List ℕ) (n : ℕ) → bytes ≡ text ++ (line ++ newline ∷ []) → n ≤ length text → n + 1 ≤ length bytes
longer text line bytes n is some = omega (arith, some, ap (λ (xs : List ℕ). length xs) is, length-append text (line ++ newline ∷ []), length-append line (newline ∷ []))

-- what stands before the line, whatever stands after it
pub begins_with : (old : Option (List ℕ)) (text : List ℕ) (new : Option (List ℕ)) → HasText old text new → BeginsWith old text
begins_with None text new h = tt
begins_with (Some source) text new h = (h.0, h.1)
