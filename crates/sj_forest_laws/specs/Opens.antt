-- The first request or accept of a file.
use Rattle.std.specs.Prelude.{ℕ, List, [], ◌∷◌, ◌++◌, Option, Some, None}
use Rattle.sj_lang.specs.Code.{DeedAt}
use Rattle.sj_lang.specs.FileAt.{FileAt, PartyAt}
use Rattle.sj_acceptance.specs.Openings.{OpeningAt, as_request, as_accept, found_in}

-- a request or an accept
abbrev pub as_opening : ℕ → DeedAt → List OpeningAt
as_opening line act = as_request line act ++ as_accept line act

-- those of one party after another, and of each in the order of its text
abbrev pub openings_of : List PartyAt → List OpeningAt
openings_of [] = []
openings_of (q ∷ qs) = found_in as_opening q.code ++ openings_of qs

-- the line of the first of them
abbrev pub first_line : List OpeningAt → Option ℕ
first_line [] = None
first_line (o ∷ os) = Some o.line

-- the line of the file's first request or accept
abbrev pub first_opening : FileAt → Option ℕ
first_opening file = first_line (openings_of file.parties)
