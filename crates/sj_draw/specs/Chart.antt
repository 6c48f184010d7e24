-- What is gathered of lines: parties and sessions in order, and the arrows that a picture shows.
use Rattle.std.specs.Prelude.{ℕ, ◌+◌, ◌*◌, List, [], ◌∷◌, ◌++◌, length, max, Bool, true, false, ◌&&◌, ◌||◌, Option, Some, None, is_none, if◌then◌else◌, nat_le, nat_lt, nat_eq, filter, codes}
use Rattle.std.specs.Option.{option_map}
use Rattle.std.specs.Str.{bytes_eq}
use Rattle.sj_draw.specs.declared.lines.Mark.{Mark}
use Rattle.sj_draw.specs.declared.lines.Mark.TheVariants.{Request}
use Rattle.sj_draw.specs.Lines.{SessionAt, PassedAt, DrawnLineAt, Session, Opened, Party, Message, Delivery, Log, Verdict, read}
use Rattle.sj_draw.specs.Words.{before}

-- an arrow between the lines of two parties, by their numbers; to none
-- where nobody took the message
pub record ArrowAt : Type 0 where
  pub mark : Mark
  pub from : ℕ
  pub to : Option ℕ
  -- the name of the end
  pub name : List ℕ
  pub text : List ℕ

-- parties in order of first mention, sessions and arrows in order. Then the most bytes of a party's
-- name, and of an arrow's name and text together; and whether some arrow goes to no other party
pub record ChartAt : Type 0 where
  pub parties : List (List ℕ)
  pub sessions : List SessionAt
  pub arrows : List ArrowAt
  pub names : ℕ
  pub texts : ℕ
  pub hooks : Bool

abbrev pub empty : ChartAt
empty = record { parties = []; sessions = []; arrows = []; names = 0; texts = 0; hooks = false }

-- the number of the party of that name, or of the next one
abbrev pub number_of : List (List ℕ) → List ℕ → ℕ
number_of [] name = 0
number_of (p ∷ ps) name = if bytes_eq p name then 0 else number_of ps name + 1

-- these, and the one of that name
abbrev pub joined_by : List (List ℕ) → List ℕ → List (List ℕ)
joined_by ps name = if nat_lt (number_of ps name) (length ps) then ps else ps ++ name ∷ []

-- an end that nobody accepted has no name
abbrev pub name_or_end : List ℕ → List ℕ → List ℕ
name_or_end name end = if bytes_eq name (codes "-") then end else name

-- the name of an end of a session, or the end as it is written where it has none, or
-- no session has that number
abbrev pub name_of : List SessionAt → List ℕ → Bool → List ℕ
name_of [] end first = end
name_of (s ∷ ss) end first =
    if bytes_eq s.number (before 46 end) then name_or_end (if first then s.first_end else s.second_end) end
    else name_of ss end first

-- a party is mentioned
abbrev pub with_party : ChartAt → List ℕ → ChartAt
with_party f name = record f { parties = joined_by f.parties name; names = max f.names (length name) }

abbrev pub with_session : ChartAt → SessionAt → ChartAt
with_session f s = record f { sessions = f.sessions ++ s ∷ [] }

-- the arrow of a message or a frame whose parties are mentioned
abbrev pub arrow_of : ChartAt → PassedAt → ArrowAt
arrow_of f p = record {
  mark = p.mark;
  from = number_of f.parties p.from;
  to = option_map (number_of f.parties) p.to;
  name = name_of f.sessions p.end p.first;
  text = p.text;
}

-- the request of a session that was opened: to whom accepted it, if anybody did
abbrev pub request_of : SessionAt → PassedAt
request_of s = record {
  mark = Request;
  from = s.first_party;
  to = if bytes_eq s.second_end (codes "-") then None else Some s.second_party;
  end = s.number;
  first = true;
  text = codes "request";
}

-- it goes to no other party
abbrev pub is_hook : ℕ → Option ℕ → Bool
is_hook from None = true
is_hook from (Some to) = nat_eq from to

abbrev pub with_arrow : ChartAt → ArrowAt → ChartAt
with_arrow f a = record f {
  arrows = f.arrows ++ a ∷ [];
  texts = max f.texts (length a.name + length a.text);
  hooks = f.hooks || is_hook a.from a.to;
}

abbrev pub with_passed : ChartAt → PassedAt → ChartAt
with_passed f p = with_arrow f (arrow_of f p)

-- a party is mentioned where there is one
abbrev pub with_any : ChartAt → Option (List ℕ) → ChartAt
with_any f None = f
with_any f (Some name) = with_party f name

-- nobody took its message
abbrev pub is_untaken : ArrowAt → Bool
is_untaken a = is_none a.to

-- what a line adds. The arrows of an opened session begin with that of its request. Where a log
-- begins, the arrows of messages that were taken go, since the log has their frames
abbrev pub with_line : ChartAt → DrawnLineAt → ChartAt
with_line f (Session s) = with_session (with_party (with_party f s.first_party) s.second_party) s
with_line f (Opened s) = with_passed (with_session (with_party (with_party f s.first_party) s.second_party) s) (request_of s)
with_line f (Party name) = with_party f name
with_line f (Message p) = with_passed (with_any (with_party f p.from) p.to) p
with_line f (Delivery p) = with_passed (with_party (with_any f p.to) p.from) p
with_line f Log = record f { arrows = filter is_untaken f.arrows }
with_line f Verdict = f

-- how much a picture may have
abbrev pub most_parties : ℕ
most_parties = 16

-- of connections, and 100 of each party
abbrev pub most_sessions : ℕ
most_sessions = 64 + 16 * 100

abbrev pub most_arrows : ℕ
most_arrows = 1000000

-- bytes of a party's name, and of an arrow's name and text
abbrev pub most_name : ℕ
most_name = 64

abbrev pub most_text : ℕ
most_text = 1024

abbrev pub is_within : ChartAt → Bool
is_within f =
    nat_le (length f.parties) most_parties && nat_le (length f.sessions) most_sessions && nat_le (length f.arrows) most_arrows
    && nat_le f.names most_name && nat_le f.texts most_text

-- what comes of lines: a chart, or the number of the first line that is
-- none, or that passes a limit
pub data Outcome : Type 0 where
  Gathered : ChartAt → Outcome
  Unread : ℕ → Outcome
  Beyond : ℕ → Outcome

abbrev pub outcome_with : ChartAt → ℕ → Option DrawnLineAt → Outcome
outcome_with f n None = Unread n
outcome_with f n (Some line) = if is_within (with_line f line) then Gathered (with_line f line) else Beyond n

-- the chart goes on
abbrev pub then_on : Outcome → (ChartAt → Outcome) → Outcome
then_on (Gathered f) next = next f
then_on (Unread n) next = Unread n
then_on (Beyond n) next = Beyond n

-- what comes of the lines from that number on, after a chart
abbrev pub gathered : ChartAt → ℕ → List (List ℕ) → Outcome
gathered f n [] = Gathered f
gathered f n (l ∷ ls) = then_on (outcome_with f n (read l)) (λ g. gathered g (n + 1) ls)
