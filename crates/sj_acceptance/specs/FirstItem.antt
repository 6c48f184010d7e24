-- What stands first in a place.
use Rattle.std.specs.Prelude.{ℕ, Bool, true, false, unwrap_or}
use Rattle.sj_lang.specs.declared.proto.Way.{Way}
use Rattle.sj_lang.specs.declared.party.Scalar.{Scalar}
use Rattle.sj_lang.specs.declared.party.Scalar.TheVariants as scalars
use Rattle.sj_lang.specs.Place.{Place, Carried, Choices, done, message, choice, repeat, int, boolean, text, session, no_choice}
use Rattle.sj_lang.specs.After.{is_same_way, followed_by, at_label}
use Rattle.sj_lang.specs.MeetTests.{stands_for}
use Rattle.sj_acceptance.specs.Sameness.{is_same_place}

-- a message goes that way first
abbrev pub is_message : Way → Place → Bool
is_message w (message v k rest) = is_same_way v w
is_message w _ = false

-- a choice goes that way first
abbrev pub is_choice : Way → Place → Bool
is_choice w (choice v arms rest) = is_same_way v w
is_choice w _ = false

-- a loop of that way stands first
abbrev pub is_loop : Way → Place → Bool
is_loop w (repeat v body rest) = is_same_way v w
is_loop w _ = false

-- what the first message carries
abbrev pub carried_kind : Place → Carried
carried_kind (message w k rest) = k
carried_kind _ = int

-- the arms of the choice that stands first
abbrev pub choices : Place → Choices
choices (choice w arms rest) = arms
choices _ = no_choice

-- what follows the first item
abbrev pub rest_of : Place → Place
rest_of done = done
rest_of (message w k rest) = rest
rest_of (choice w arms rest) = rest
rest_of (repeat w body rest) = rest

-- one turn of the loop that stands first, and then the loop again
abbrev pub turn_of : Place → Place
turn_of (repeat w body rest) = followed_by body (repeat w body rest)
turn_of p = p

-- the arm of that label, and what follows the choice
abbrev pub arm_place : ℕ → Place → Place
arm_place l p = followed_by (unwrap_or (at_label l (choices p)) done) (rest_of p)

-- a message of that kind carries a value of this kind
abbrev pub is_carried_as : Scalar → Carried → Bool
is_carried_as scalars.Int int = true
is_carried_as scalars.Boolean boolean = true
is_carried_as scalars.Text text = true
is_carried_as _ _ = false

-- an end is carried
abbrev pub is_session : Carried → Bool
is_session (session p) = true
is_session _ = false

-- an end at that place is carried
abbrev pub is_session_of : Place → Carried → Bool
is_session_of p (session q) = is_same_place p q
is_session_of p _ = false

-- an end is carried for which one at that place can stand
abbrev pub stands_for_carried : Place → Carried → Bool
stands_for_carried p (session q) = stands_for p q
stands_for_carried p _ = false
