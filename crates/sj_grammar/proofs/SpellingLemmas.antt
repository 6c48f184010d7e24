-- Spellings in which each piece of a text has its first number.
use Rattle.std.proofs.Common.{◌≡◌, ◌≢◌, ℕ, zero, suc, ◌<◌, Bool, true, false, List, [], ◌∷◌, ◌++◌, length, get_or, refl, ap, sym, subst, ◌∙◌, append_assoc, arith, ◌⊎◌, inl, inr}
use Rattle.std.specs.Str.{bytes_eq}
use Rattle.std.proofs.Math.Seq.{get_or-append_seam}
use Rattle.std.proofs.lemmas.Bool.{cases_order}
use Rattle.std.proofs.lemmas.Bool.Decides.{not_from_Decides}
use Rattle.std.proofs.lemmas.Slice.Eq.{bytes_eq-Decides}
use Rattle.sj_grammar.specs.Literals.{inner}
use Rattle.sj_grammar.specs.Positions.{Pieces}
use Rattle.sj_grammar.specs.Tables.{Spelling, IsFirst}

-- two first numbers that are spelled alike are one
pub same_first : (spelled : ℕ → List ℕ) (n m : ℕ) → IsFirst spelled n → IsFirst spelled m → spelled n ≡ spelled m → n ≡ m
same_first spelled n m f g e = elim (cases_order n m) [
  | inl same ↦ same
  | inr (inl below) ↦ absurd (g n below e)
  | inr (inr below) ↦ absurd (f m below (sym e))
]

-- a first number that is spelled so
abbrev pub HasFirst : (ℕ → List ℕ) → List ℕ → Type 0
HasFirst spelled s = (n : ℕ) × (spelled n ≡ s) × IsFirst spelled n

first_below : (spelled : ℕ → List ℕ) (s : List ℕ) (k : ℕ) → HasFirst spelled s ⊎ ((j : ℕ) → j < k → spelled j ≢ s)
first_below spelled s zero = inr (λ j h. absurd (omega arith))
first_below spelled s (suc k) = elim (first_below spelled s k) [ inl found ↦ inl found | inr none ↦ by_test none (bytes_eq (spelled k) s) refl ]
  where
    by_test : ((j : ℕ) → j < k → spelled j ≢ s) → (b : Bool) → bytes_eq (spelled k) s ≡ b → HasFirst spelled s ⊎ ((j : ℕ) → j < suc k → spelled j ≢ s)
    by_test none true e =
        let here : spelled k ≡ s = (bytes_eq-Decides (spelled k) s).0 e in
        inl (k, here, λ j below same. none j below (same ∙ here))
    by_test none false e =
        let other = not_from_Decides (bytes_eq (spelled k) s) (bytes_eq-Decides (spelled k) s) e in
        inr (λ j below same. elim (cases_order j k) [
          | inl at ↦ other (ap spelled (sym at) ∙ same)
          | inr (inl before) ↦ none j before same
          | inr (inr behind) ↦ absurd (omega arith)
        ])

-- what is spelled so has a first number
pub first_of : (spelled : ℕ → List ℕ) (n : ℕ) → HasFirst spelled (spelled n)
first_of spelled n = elim (first_below spelled (spelled n) (suc n)) [
  | inl found ↦ found
  | inr none ↦ absurd (none n (omega arith) refl)
]

-- the piece as a name, and as a text, has its first number
abbrev pub IsHeld : Spelling → List ℕ → Type 0
IsHeld names s = HasFirst names.word s × HasFirst names.text (inner s)

abbrev pub AllHeld : (List ℕ → Type 0) → Pieces → Type 0
AllHeld Held [] = Unit {0}
AllHeld Held (s ∷ ps) = Held s × AllHeld Held ps

-- the spelling whose numbers are the positions of these pieces
abbrev pub spelling_of : Pieces → Spelling
spelling_of ps = record { word = λ n. get_or ps n []; text = λ n. inner (get_or ps n []) }

pub held_at : (pre post : Pieces) (s : List ℕ) → IsHeld (spelling_of (pre ++ s ∷ post)) s
held_at pre post s =
    let names = spelling_of (pre ++ s ∷ post) in
    let here : names.word (length pre) ≡ s = get_or-append_seam pre s post [] in (
      subst (λ (x : List ℕ). HasFirst names.word x) here (first_of names.word (length pre)),
      subst (λ (x : List ℕ). HasFirst names.text x) (ap inner here) (first_of names.text (length pre)),
    )

pub all_held : (pre ps post : Pieces) → AllHeld (IsHeld (spelling_of (pre ++ (ps ++ post)))) ps
all_held pre [] post = tt
all_held pre (s ∷ ps) post = (
  held_at pre (ps ++ post) s,
  subst (λ (qs : Pieces). AllHeld (IsHeld (spelling_of qs)) ps) (append_assoc pre (s ∷ []) (ps ++ post)) (all_held (pre ++ s ∷ []) ps post),
)
