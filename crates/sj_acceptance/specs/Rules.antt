-- The numbers of the rules that a file is checked by, under names. An answer `check C5 at 3`
-- gives the number and a line.
use Rattle.std.specs.Prelude.{ℕ}

-- no protocol, and no party, of that name
abbrev pub no_protocol : ℕ
no_protocol = 1

abbrev pub no_party : ℕ
no_party = 2

-- the name is in use, or a choice names a label twice
abbrev pub name_in_use : ℕ
name_in_use = 3

-- the protocols of a connection don't meet
abbrev pub do_not_meet : ℕ
do_not_meet = 4

-- no live end, or no variable, of that name
abbrev pub not_there : ℕ
not_there = 5

-- the place begins with another action, or is empty
abbrev pub other_action : ℕ
other_action = 6

-- another kind
abbrev pub other_kind : ℕ
other_kind = 7

-- no arm of the choice has that label
abbrev pub no_label : ℕ
no_label = 8

-- arms leave different live ends, or places
abbrev pub arms_differ : ℕ
arms_differ = 9

-- a loop's body leaves other live ends, or places, than there were before the loop
abbrev pub turn_differs : ℕ
turn_differs = 10

-- an end is closed before its place is empty
abbrev pub closed_early : ℕ
closed_early = 11

-- an end is live after the party's body
abbrev pub left_open : ℕ
left_open = 12

-- the carrier itself, or an end whose place is empty, is delegated
abbrev pub not_to_delegate : ℕ
not_to_delegate = 13

-- the arms aren't the labels of the choice, each once, or there are none
abbrev pub other_arms : ℕ
other_arms = 14

-- an accept and a request between two parties don't meet
abbrev pub accept_unmet : ℕ
accept_unmet = 15
