-- Labels that stand once.
use Rattle.std.specs.Prelude.{◌≢◌, ◌↔◌, ℕ, List, [], ◌∷◌, AllPairs, Contains, ⊤}
use Rattle.sj_lang.specs.Place.{Place, Carried, Choices, done, message, choice, repeat, int, boolean, text, session, no_choice, arm}
use Rattle.sj_lang.specs.Code.{Branches, no_branch, branch}

-- the labels of a choice, in order
abbrev pub labels_of : Choices → List ℕ
labels_of no_choice = []
labels_of (arm l p arms) = l ∷ labels_of arms

-- the labels of the arms of an `inbranch`, in order
abbrev pub branch_labels : Branches → List ℕ
branch_labels no_branch = []
branch_labels (branch l code arms) = l ∷ branch_labels arms

-- no two of these are one
abbrev pub StandOnce : List ℕ → Type 0
StandOnce ns = AllPairs (λ m n. m ≢ n) ns

-- the arms' labels are those of the choice, each once, at least one
pub record AreItsArms (choices : Choices) (arms : Branches) : Type 0 where
  pub same : (l : ℕ) → Contains (branch_labels arms) l ↔ Contains (labels_of choices) l
  pub once : StandOnce (branch_labels arms)
  pub some : branch_labels arms ≢ []

abbrev mutual
  -- no choice in the protocol names a label twice
  pub NamesOnce : Place → Type 0
  NamesOnce done = ⊤
  NamesOnce (message way kind rest) = CarriesOnce kind × NamesOnce rest
  NamesOnce (choice way arms rest) = StandOnce (labels_of arms) × EachNamesOnce arms × NamesOnce rest
  NamesOnce (repeat way body rest) = NamesOnce body × NamesOnce rest

  -- nor one in what a message carries
  pub CarriesOnce : Carried → Type 0
  CarriesOnce int = ⊤
  CarriesOnce boolean = ⊤
  CarriesOnce text = ⊤
  CarriesOnce (session place) = NamesOnce place

  -- nor one in the arms of a choice
  pub EachNamesOnce : Choices → Type 0
  EachNamesOnce no_choice = ⊤
  EachNamesOnce (arm l place arms) = NamesOnce place × EachNamesOnce arms
