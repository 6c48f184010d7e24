-- How the items of a place change as a message moves it.
use Rattle.std.specs.Prelude.{ℕ, ◌+◌, ◌<◌, List, [], ◌∷◌, ⊤}
use Rattle.sj_lang.specs.declared.proto.Item.{Item}
use Rattle.sj_lang.specs.declared.proto.Item.TheVariants.{Select, Branch, OutLoop, InLoop}
use Rattle.sj_lang.specs.Place.{Place, Choices, done, message, choice, repeat, no_choice}
use Rattle.sj_lang.specs.View.{place_of}
use Rattle.sj_lang.specs.After.{arm_count, arm_rest, followed_by}
use Rattle.sj_plain.specs.declared.moves.Move.{Move}
use Rattle.sj_plain.specs.declared.moves.Move.TheVariants.{Stay, Pass, Turn, Enter}

-- the body of a loop
abbrev pub body_in : Item → Place
body_in (OutLoop body) = body
body_in (InLoop body) = body
body_in _ = done

-- the arms of a choice
abbrev pub arms_in : Item → Choices
arms_in (Select arms) = arms
arms_in (Branch arms) = arms
arms_in _ = no_choice

-- how many items are ahead, inner ones not counted
abbrev pub place_length : Place → ℕ
place_length done = 0
place_length (message w k rest) = 1 + place_length rest
place_length (choice w arms rest) = 1 + place_length rest
place_length (repeat w body rest) = 1 + place_length rest

-- the place after the move
abbrev pub after_move : List Item → Move → Place
after_move [] m = done
after_move (i ∷ is) Stay = place_of (i ∷ is)
after_move (i ∷ is) Pass = place_of is
after_move (i ∷ is) Turn = followed_by (body_in i) (place_of (i ∷ is))
after_move (i ∷ is) (Enter k) = followed_by (arm_rest k (arms_in i)) (place_of is)

-- there is an item to move past, and an arm of that number to go into
abbrev pub IsOpen : List Item → Move → Type 0
IsOpen is Stay = ⊤
IsOpen [] m = ⊥
IsOpen (i ∷ is) (Enter k) = k < arm_count (arms_in i)
IsOpen (i ∷ is) m = ⊤
