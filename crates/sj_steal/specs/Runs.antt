-- What was run.
use Rattle.std.specs.Prelude.{◌≡◌, ℕ, ◌<◌, List, [], ◌∷◌, ◌++◌, length, slice_index_or}
use Rattle.std.specs.List.Sorted.{IsNonDecreasingBy, IsPermutation}

-- two lists, related at each index
abbrev pub Each2 : {X Y : Type 0} → (X → Y → Type 0) → List X → List Y → Type 0
Each2 R [] [] = Unit {0}
Each2 R [] (y ∷ ys) = ⊥
Each2 R (x ∷ xs) [] = ⊥
Each2 R (x ∷ xs) (y ∷ ys) = R x y × Each2 R xs ys

module _ {J : Type 0} where
  -- the same job after one run, with its number
  abbrev pub HasRun : (J → ℕ) → (J → J → Type 0) → J → J → Type 0
  HasRun number_of ran old new = ran old new × (number_of new ≡ number_of old)

  -- more jobs were taken, and were run, each once
  pub record RanMore (R : J → J → Type 0) (taken done taken' done' : List J) : Type 0 where
    pub took : List J
    pub ran : List J
    pub each : Each2 R took ran
    pub takes : IsPermutation (taken ++ took) taken'
    pub adds : IsPermutation (done ++ ran) done'

  -- the numbers rise
  abbrev pub Rises : (J → ℕ) → List J → Type 0
  Rises number_of jobs = (i j : ℕ) (d : J) → i < j → j < length jobs → number_of (slice_index_or jobs i d) < number_of (slice_index_or jobs j d)

  -- the given jobs in order of their numbers, each after one run
  pub record IsDone (number_of : J → ℕ) (ran : J → J → Type 0) (jobs done : List J) : Type 0 where
    pub sorted : List J
    pub each_once : IsPermutation jobs sorted
    pub run : Each2 (HasRun number_of ran) sorted done
    pub order : IsNonDecreasingBy number_of done
