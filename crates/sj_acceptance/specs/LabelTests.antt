-- Tests of names that are to stand once.
use Rattle.std.specs.Prelude.{ℕ, Bool, true, false, ◌==◌, ◌&&◌, ◌||◌, not, List, [], ◌∷◌}
use Rattle.sj_lang.specs.Place.{Place, Carried, Choices, done, message, choice, repeat, int, boolean, text, session, no_choice, arm}
use Rattle.sj_acceptance.specs.Labels.{labels_of}

-- the number is one of these
abbrev pub is_among : ℕ → List ℕ → Bool
is_among x [] = false
is_among x (y ∷ ys) = (y == x) || is_among x ys

-- no number stands twice
abbrev pub all_differ : List ℕ → Bool
all_differ [] = true
all_differ (x ∷ xs) = not (is_among x xs) && all_differ xs

-- each of the ones is one of the others
abbrev pub are_among : List ℕ → List ℕ → Bool
are_among [] ys = true
are_among (x ∷ xs) ys = is_among x ys && are_among xs ys

-- there are none
abbrev pub is_empty : List ℕ → Bool
is_empty [] = true
is_empty (x ∷ xs) = false

-- the labels of the choice, each once, at least one
abbrev pub are_labels_of : Choices → List ℕ → Bool
are_labels_of arms ls = not (is_empty ls) && all_differ ls && are_among ls (labels_of arms) && are_among (labels_of arms) ls

-- each choice of the protocol names its labels once
abbrev mutual
  pub names_once : Place → Bool
  names_once done = true
  names_once (message w k rest) = carried_names_once k && names_once rest
  names_once (choice w arms rest) = all_differ (labels_of arms) && arms_name_once arms && names_once rest
  names_once (repeat w body rest) = names_once body && names_once rest

  pub carried_names_once : Carried → Bool
  carried_names_once (session p) = names_once p
  carried_names_once int = true
  carried_names_once boolean = true
  carried_names_once text = true

  pub arms_name_once : Choices → Bool
  arms_name_once no_choice = true
  arms_name_once (arm l p arms) = names_once p && arms_name_once arms
