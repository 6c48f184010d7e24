-- The first line of what is left, read byte by byte.
use Rattle.std.proofs.Common.{◌≡◌, ◌≢◌, ◌≤◌, IfSome, ℕ, List, [], ◌∷◌, ◌++◌, length, take, Option, Some, None, option_map, refl, ap, subst, sym, ◌∙◌, append_assoc, append-nil, take_all, if◌then◌else◌, Bool, true, false, nat_lt, arith}
use Rattle.std.specs.Prelude.{◌==◌}
use Rattle.std.proofs.lemmas.List.{take-append-le}
use Rattle.std.proofs.lemmas.Grind.{common_steps}
use Rattle.sj_base.specs.Stream.{put_before}
use Rattle.sj_base.proofs.PieceLemmas.{put_before-append, put_before-nil}
use Rattle.sj_seat_lines.specs.Reading.{IsLeftOf, IsNextLine, after_line, first_line, newline, with_byte}

-- the first line that starts with these bytes, up to so many
abbrev pub line_from : ℕ → List ℕ → Option (List ℕ) → Option (List ℕ)
line_from most line o = option_map (λ r. take most (line ++ first_line r)) o

-- with the bytes that stand on the line already, what is left has the same first line, and the same after it
pub record IsSoFar (most : ℕ) (old : Option (List ℕ)) (line : List ℕ) (now : Option (List ℕ)) : Type 0 where
  pub text : line_from most line now ≡ line_from most [] old
  pub rest : option_map after_line now ≡ option_map after_line old

pub so_far_none : (most : ℕ) (o : Option (List ℕ)) → IsSoFar most o [] o
so_far_none most o = record { text = refl; rest = refl }

-- the bytes, or else those
abbrev or_else : List ℕ → Option (List ℕ) → List ℕ
or_else other None = other
or_else other (Some bytes) = bytes

-- ---- whether a byte came

-- no byte came yet, or some did
abbrev pub IsBegun : Bool → Option (List ℕ) → Option (List ℕ) → Type 0
IsBegun false old now = old ≡ now
IsBegun true old now = (b : ℕ) × (taken : List ℕ) × (old ≡ put_before (b ∷ taken) now)

pub begun_on : (begun : Bool) (b : ℕ) (old now new : Option (List ℕ)) → now ≡ put_before (b ∷ []) new → IsBegun begun old now → IsBegun true old new
begun_on false b old now new e h = (b, [], h ∙ e)
begun_on true b old now new e h = (h.0, h.1 ++ b ∷ [], h.2 ∙ ap (put_before (h.0 ∷ h.1)) e ∙ put_before-append (h.0 ∷ h.1) (b ∷ []) new)

put_some : (b : ℕ) (taken : List ℕ) (o : Option (List ℕ)) → IfSome (put_before (b ∷ taken) o) (λ bs. bs ≢ [])
put_some b taken None = tt
put_some b taken (Some r) = λ e. absurd (cc)

-- then something was left
pub begun_some : (old now : Option (List ℕ)) → IsBegun true old now → IfSome old (λ bs. bs ≢ [])
begun_some old now h = subst (λ o. IfSome o (λ bs. bs ≢ [])) (sym h.2) (put_some h.0 h.1 now)

-- and bytes of that came
pub begun_left : (begun : Bool) (old now new : Option (List ℕ)) → new ≡ now → IsBegun begun old now → IsLeftOf old new
begun_left false old now new e h = ([], h ∙ sym e ∙ put_before-nil new)
begun_left true old now new e h = (h.0 ∷ h.1, h.2 ∙ ap (put_before (h.0 ∷ h.1)) (sym e))

some_both : (P Q : List ℕ → Type 0) (o : Option (List ℕ)) → IfSome o P → IfSome o Q → IfSome o (λ bs. P bs × Q bs)
some_both P Q None p q = tt
some_both P Q (Some bs) p q = (p, q)

-- ---- one more byte

module _ (most b : ℕ) (line : List ℕ) (other : (b == newline) ≡ false) where
  first_from : (r : List ℕ) → first_line (b ∷ r) ≡ b ∷ first_line r
  first_from r = ap (λ (c : Bool). if c then [] else b ∷ first_line r) other

  after_from : (o : Option (List ℕ)) → option_map after_line (put_before (b ∷ []) o) ≡ option_map after_line o
  after_from None = refl
  after_from (Some r) = ap (λ (c : Bool). Some (if c then r else after_line r)) other

  pushed_from : (o : Option (List ℕ)) → line_from most line (put_before (b ∷ []) o) ≡ line_from most (line ++ b ∷ []) o
  pushed_from None = refl
  pushed_from (Some r) = ap (λ xs. Some (take most (line ++ xs))) (first_from r) ∙ ap (λ xs. Some (take most xs)) (sym (append_assoc line (b ∷ []) (first_line r)))

  full_from : most ≤ length line → (o : Option (List ℕ)) → line_from most line (put_before (b ∷ []) o) ≡ line_from most line o
  full_from full None = refl
  full_from full (Some r) = ap Some (take-append-le most line (first_line (b ∷ r)) full ∙ sym (take-append-le most line (first_line r) full))

  pushed : (old now new : Option (List ℕ)) → now ≡ put_before (b ∷ []) new → IsSoFar most old line now → IsSoFar most old (line ++ b ∷ []) new
  pushed old now new e s = record {
    text = sym (pushed_from new) ∙ ap (line_from most line) (sym e) ∙ s.text;
    rest = sym (after_from new) ∙ ap (option_map after_line) (sym e) ∙ s.rest;
  }

  full : (old now new : Option (List ℕ)) → now ≡ put_before (b ∷ []) new → most ≤ length line → IsSoFar most old line now → IsSoFar most old line new
  full old now new e long s = record {
    text = sym (full_from long new) ∙ ap (line_from most line) (sym e) ∙ s.text;
    rest = sym (after_from new) ∙ ap (option_map after_line) (sym e) ∙ s.rest;
  }

  pub one_more : (old now new : Option (List ℕ)) → now ≡ put_before (b ∷ []) new → IsSoFar most old line now → IsSoFar most old (with_byte most line b) new
  one_more old now new e s = by (nat_lt (length line) most) refl
    where
      by : (c : Bool) → nat_lt (length line) most ≡ c → IsSoFar most old (if c then line ++ b ∷ [] else line) new
      by true is = pushed old now new e s
      by false is = full old now new e (grind (arith, common_steps)) s

-- no more than so many
pub with_byte_within : (most b : ℕ) (line : List ℕ) → length line ≤ most → length (with_byte most line b) ≤ most
with_byte_within most b line within = by (nat_lt (length line) most) refl
  where
    by : (c : Bool) → nat_lt (length line) most ≡ c → length (if c then line ++ b ∷ [] else line) ≤ most
    by true is = grind (arith, common_steps)
    by false is = within

-- ---- the line's end

module _ (most : ℕ) (line : List ℕ) (within : length line ≤ most) where
  whole : take most (line ++ []) ≡ line
  whole = ap (take most) (append-nil line) ∙ take_all most line within

  -- where nothing more is on the line
  line_is : (old now : Option (List ℕ)) → or_else line (line_from most line now) ≡ line → IsSoFar most old line now → IfSome old (λ bs. line ≡ take most (first_line bs))
  line_is None now e s = tt
  line_is (Some bs) now e s = sym e ∙ ap (or_else line) s.text

  newline_ends : (b : ℕ) → (b == newline) ≡ true → (o : Option (List ℕ)) → or_else line (line_from most line (put_before (b ∷ []) o)) ≡ line
  newline_ends b is None = refl
  newline_ends b is (Some r) = ap (λ (c : Bool). take most (line ++ (if c then [] else b ∷ first_line r))) is ∙ whole

  newline_goes : (b : ℕ) → (b == newline) ≡ true → (o : Option (List ℕ)) → o ≡ option_map after_line (put_before (b ∷ []) o)
  newline_goes b is None = refl
  newline_goes b is (Some r) = ap (λ (c : Bool). Some (if c then r else after_line r)) (sym is)

  pub at_newline : (begun : Bool) (b : ℕ) → (b == newline) ≡ true → (old now new : Option (List ℕ)) → now ≡ put_before (b ∷ []) new → IsBegun begun old now → IsSoFar most old line now → IsNextLine most old line new
  at_newline begun b is old now new e h s = (
    some_both (λ bs. bs ≢ []) (λ bs. line ≡ take most (first_line bs)) old (begun_some old new (begun_on begun b old now new e h)) (line_is old now (ap (λ o. or_else line (line_from most line o)) e ∙ newline_ends b is new) s),
    newline_goes b is new ∙ ap (option_map after_line) (sym e) ∙ s.rest,
  )

  nothing_ends : (o : Option (List ℕ)) → IfSome o (λ bs. bs ≡ []) → or_else line (line_from most line o) ≡ line
  nothing_ends None none = refl
  nothing_ends (Some r) none = ap (λ bs. take most (line ++ first_line bs)) none ∙ whole

  nothing_goes : (o : Option (List ℕ)) → IfSome o (λ bs. bs ≡ []) → o ≡ option_map after_line o
  nothing_goes None none = refl
  nothing_goes (Some r) none = ap Some none ∙ sym (ap (λ bs. Some (after_line bs)) none)

  pub at_end : (old now new : Option (List ℕ)) → IfSome now (λ bs. bs ≡ []) → new ≡ now → IsBegun true old now → IsSoFar most old line now → IsNextLine most old line new
  at_end old now new none e h s = (
    some_both (λ bs. bs ≢ []) (λ bs. line ≡ take most (first_line bs)) old (begun_some old now h) (line_is old now (nothing_ends now none) s),
    e ∙ nothing_goes now none ∙ s.rest,
  )
