-- The session that a line opens, or the rule that refuses the line before any call.
use Rattle.std.specs.Prelude.{ℕ, Bool, true, false, ◌&&◌, not, nat_le, nat_lt, is_some, List, length, Option, Some, None, option_and_then, if◌then◌else◌}
use Rattle.sj_lang.specs.FileAt.{FileAt, party_named}
use Rattle.sj_seat.specs.Wishes.{open_wished}
use Rattle.sj_seat.specs.declared.wish.OpenWish.{OpenWish}
use Rattle.sj_seat.specs.declared.wish.OpenWish.TheVariants.{Request, Accept}
use Rattle.sj_seat.specs.declared.refusal.SeatRefusal.{SeatRefusal}
use Rattle.sj_seat.specs.declared.refusal.SeatRefusal.TheVariants.{NotOpened}
use Rattle.sj_seat_laws.specs.Calls.{Openings}
use Rattle.sj_seat_laws.specs.Guards.{opened_place}
use Rattle.sj_talk.specs.Names.{Ends, end_named, label_number, last_label}
use Rattle.sj_talk.specs.Rules.{wrong_end}
use Rattle.sj_seat_lines.specs.Replies.{not_opened}
use Rattle.sj_seat_lines.specs.declared.opens.Opens.{Opens}
use Rattle.sj_seat_lines.specs.declared.opens.Opens.TheVariants.{Call, Refused}

-- the number of the party, where it is one of the file
abbrev pub party_if : FileAt → ℕ → Option ℕ
party_if file n = if nat_lt n (length file.parties) && nat_le n last_label then Some n else None

-- the number of the party of that name
abbrev pub party_of_word : FileAt → List ℕ → Option ℕ
party_of_word file q = option_and_then (λ n. party_if file (party_named file.parties n)) (label_number file q)

-- the rule is that of a session which the party doesn't open
abbrev pub is_not_opened : SeatRefusal → Bool
is_not_opened NotOpened = true
is_not_opened _ = false

-- a session that may be opened needs a name that isn't in use
abbrev pub open_of : Ends → Openings → List ℕ → OpenWish → Opens
open_of ns os x wish = if not (is_some (opened_place os (open_wished wish))) then Refused not_opened else (if is_some (end_named ns x) then Refused wrong_end else Call wish)

abbrev pub request_by : Ends → Openings → List ℕ → Option ℕ → Option ℕ → Opens
request_by ns os x (Some n) (Some q) = open_of ns os x (Request q n)
request_by ns os x _ _ = Refused not_opened

abbrev pub accept_by : Ends → Openings → List ℕ → Option ℕ → Option ℕ → Opens
accept_by ns os x (Some n) (Some q) = open_of ns os x (Accept q n)
accept_by ns os x _ _ = Refused not_opened

-- what `request x n to q` comes to, by the file, the names of the ends that are held, and what the party may open
abbrev pub request_of : FileAt → Ends → Openings → (x n q : List ℕ) → Opens
request_of file ns os x n q = request_by ns os x (label_number file n) (party_of_word file q)

-- what `accept x n from q` comes to
abbrev pub accept_of : FileAt → Ends → Openings → (x n q : List ℕ) → Opens
accept_of file ns os x n q = accept_by ns os x (label_number file n) (party_of_word file q)
