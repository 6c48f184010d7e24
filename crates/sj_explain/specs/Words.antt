-- The words after the program's name.
use Rattle.std.specs.Prelude.{ℕ, Bool, ◌||◌, List, codes, bytes_eq}
use Rattle.std.specs.List.{list_all, list_any}

-- it asks for a picture; it asks for colours
abbrev pub asks_drawn : List ℕ → Bool
asks_drawn word = bytes_eq word (codes "--svg")

abbrev pub asks_colours : List ℕ → Bool
asks_colours word = bytes_eq word (codes "--colour")

-- it is a word of the program
abbrev pub is_known : List ℕ → Bool
is_known word = asks_drawn word || asks_colours word

-- each of them is
abbrev pub are_known : List (List ℕ) → Bool
are_known words = list_all is_known words

-- one of them asks for a picture
abbrev pub wants_drawn : List (List ℕ) → Bool
wants_drawn words = list_any asks_drawn words
