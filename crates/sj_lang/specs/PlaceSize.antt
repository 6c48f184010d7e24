-- How large a place is, for proofs by recursion.
use Rattle.std.specs.Prelude.{ℕ, ◌+◌}
use Rattle.sj_lang.specs.Place.{Carried, Choices, Place, arm, boolean, choice, done, int, message, no_choice, repeat, session, text}

-- how many constructors there are
abbrev mutual
  pub place_size : Place → ℕ
  place_size done = 1
  place_size (message w k rest) = 1 + carried_size k + place_size rest
  place_size (choice w arms rest) = 1 + choices_size arms + place_size rest
  place_size (repeat w body rest) = 1 + place_size body + place_size rest

  pub carried_size : Carried → ℕ
  carried_size int = 1
  carried_size boolean = 1
  carried_size text = 1
  carried_size (session p) = 1 + place_size p

  pub choices_size : Choices → ℕ
  choices_size no_choice = 1
  choices_size (arm label p arms) = 1 + place_size p + choices_size arms
