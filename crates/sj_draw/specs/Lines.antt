-- Lines of transcripts and logs, as far as a picture shows them.
use Rattle.std.specs.Prelude.{ℕ, ◌==◌, List, [], ◌∷◌, length, Bool, true, false, not, ◌&&◌, ◌||◌, Option, Some, None, is_some, if◌then◌else◌, nat_le, nat_lt, codes, slice_index, ◌-◌}
use Rattle.std.specs.List.{list_all}
use Rattle.std.specs.Option.{option_map}
use Rattle.std.specs.Str.{bytes_eq}
use Rattle.sj_draw.specs.declared.words.Field.{Field}
use Rattle.sj_draw.specs.declared.words.Field.TheVariants.{Number, End, Name, Resend}
use Rattle.sj_draw.specs.declared.lines.Mark.{Mark}
use Rattle.sj_draw.specs.declared.lines.Mark.TheVariants as marks
use Rattle.sj_draw.specs.Words.{word, words_behind, behind, is_number, is_end, behind_fields, is_just}

-- a session: its number, and its two parties with their ends
pub record SessionAt : Type 0 where
  pub number : List ℕ
  pub first_party : List ℕ
  pub first_end : List ℕ
  pub second_party : List ℕ
  pub second_end : List ℕ

-- a message, a frame or an opening: from whom to whom, if anybody took it. Then the end or the
-- session that it names, whether that is the session's first end, and its text
pub record PassedAt : Type 0 where
  pub mark : Mark
  pub from : List ℕ
  pub to : Option (List ℕ)
  pub end : List ℕ
  pub first : Bool
  pub text : List ℕ

-- what a line says
pub data DrawnLineAt : Type 0 where
  Session : SessionAt → DrawnLineAt
  Opened : SessionAt → DrawnLineAt
  Party : List ℕ → DrawnLineAt
  Message : PassedAt → DrawnLineAt
  Delivery : PassedAt → DrawnLineAt
  Log : DrawnLineAt
  Verdict : DrawnLineAt

-- one mark where the words are these
abbrev pub mark_if : Bool → Mark → Option Mark
mark_if fits mark = if fits then Some mark else None

-- a message by its kind and its value
abbrev pub valued_mark : List ℕ → List ℕ → Option Mark
valued_mark kind value =
    if bytes_eq kind (codes "String") then mark_if (not (length value == 0)) marks.Message
    else (if bytes_eq kind (codes "session") then mark_if (is_just (End ∷ Name ∷ []) value) marks.Session
    else (if bytes_eq kind (codes "int") || bytes_eq kind (codes "boolean") || bytes_eq kind (codes "label") then mark_if (is_just (Name ∷ []) value) marks.Message
    else None))

-- how a message is drawn, where the text is one
abbrev pub message_mark : List ℕ → Option Mark
message_mark text = if bytes_eq text (codes "more") || bytes_eq text (codes "stop") then Some marks.Message else valued_mark (word text) (words_behind text)

-- the same of a message that stands after some words
abbrev pub mark_of_rest : Option (List ℕ) → Option Mark
mark_of_rest None = None
mark_of_rest (Some text) = message_mark text

abbrev pub mark_behind : List Field → List ℕ → Option Mark
mark_behind fields text = mark_of_rest (behind_fields fields text)

-- how a frame is drawn, by its kind and what stands after that
abbrev pub frame_mark : List ℕ → List ℕ → Option Mark
frame_mark kind rest =
    if bytes_eq kind (codes "carry") then mark_behind (End ∷ Number ∷ Number ∷ Number ∷ []) rest
    else (if bytes_eq kind (codes "fin") then mark_if (is_just (End ∷ Number ∷ Number ∷ []) rest) marks.Fin
    else (if bytes_eq kind (codes "claim") then mark_if (is_just (End ∷ []) rest) marks.Claim
    else (if bytes_eq kind (codes "signal") then mark_if (is_just (End ∷ Number ∷ Name ∷ Number ∷ []) rest) marks.Signal
    else (if bytes_eq kind (codes "ack") then mark_if (is_just (End ∷ Number ∷ []) rest) marks.Ack
    else (if bytes_eq kind (codes "give") then mark_if (is_just (End ∷ Number ∷ Name ∷ Number ∷ Number ∷ Number ∷ Resend ∷ []) rest) marks.Give
    else (if bytes_eq kind (codes "open") then mark_if (is_just (Number ∷ []) rest) marks.Open
    else None))))))

-- it is an end of side 0; a session that comes is named by its number alone, and
-- its end of side 1 is meant
abbrev pub is_first : List ℕ → Bool
is_first end = bytes_eq (behind 46 end) (codes "0")

-- a frame that came to the party: from whom, and what it says
abbrev pub frame_line : List ℕ → List ℕ → Option DrawnLineAt
frame_line to rest =
    let text = words_behind rest in
    if length (word rest) == 0 then None
    else option_map (λ m. Delivery (record { mark = m; from = word rest; to = Some to; end = word (words_behind text); first = is_first (word (words_behind text)); text = text }))
    (frame_mark (word text) (words_behind text))

-- whether that is what a party did
abbrev pub is_act : List ℕ → List ℕ → Bool
is_act verb rest =
    if bytes_eq verb (codes "close") then is_just (End ∷ []) rest
    else (if bytes_eq verb (codes "send") || bytes_eq verb (codes "take") then is_some (mark_behind (End ∷ []) rest) else false)

-- a session is opened to a party, or accepted from one
abbrev pub opening : Mark → Bool → List ℕ → List ℕ → Option DrawnLineAt
opening mark first party deed =
    let rest = words_behind deed in
    if is_just (Number ∷ Name ∷ []) rest
    then Some (Message (record { mark = mark; from = party; to = Some (word (words_behind rest)); end = word rest; first = first; text = deed }))
    else None

-- the same by what the party did: a request is drawn at its own end, an accept at the other
abbrev pub opening_line : List ℕ → List ℕ → Option DrawnLineAt
opening_line party deed =
    if bytes_eq (word deed) (codes "request") then opening marks.Request true party deed
    else (if bytes_eq (word deed) (codes "accept") then opening marks.Accept false party deed
    else None)

-- an event at a party: a frame that came, or what the party did, which only names it
-- where no session is opened
abbrev pub event_line : List ℕ → Option DrawnLineAt
event_line rest =
    let party = word rest in let deed = words_behind rest in
    if length party == 0 then None
    else (if bytes_eq deed (codes "local") then Some (Party party)
    else (if bytes_eq (word deed) (codes "from") then frame_line party (words_behind deed)
    else (if is_act (word deed) (words_behind deed) then Some (Party party) else opening_line party deed)))

-- the party that took a message, or a dash
abbrev pub taker_in : List ℕ → Option (List ℕ)
taker_in w = if bytes_eq w (codes "-") then None else Some w

-- a message that was sent from that end
abbrev pub message_line : List ℕ → List ℕ → Option DrawnLineAt
message_line end rest =
    let from = words_behind rest in let taker = words_behind from in
    option_map (λ m. Message (record { mark = m; from = word from; to = taker_in (word taker); end = end; first = is_first end; text = words_behind taker }))
    (mark_behind (Number ∷ Name ∷ Name ∷ []) rest)

-- steps, and the party from which it would accept
abbrev pub is_steps_from : List ℕ → Bool
is_steps_from rest = is_just (Number ∷ Name ∷ Name ∷ []) rest && bytes_eq (word (words_behind rest)) (codes "from")

-- steps, and the word for a request that is one too many
abbrev pub is_steps_request : List ℕ → Bool
is_steps_request rest = is_just (Number ∷ Name ∷ []) rest && bytes_eq (words_behind rest) (codes "request")

-- how a party stands
abbrev pub is_state : List ℕ → List ℕ → Bool
is_state how rest =
    if bytes_eq how (codes "ended") then is_just (Number ∷ []) rest
    else (if bytes_eq how (codes "waits") then is_just (Number ∷ End ∷ []) rest || is_steps_from rest
    else (if bytes_eq how (codes "limit") then is_just (Number ∷ []) rest || is_just (Number ∷ End ∷ []) rest || is_steps_request rest
    else false))

abbrev pub party_line : List ℕ → Option DrawnLineAt
party_line rest =
    let party = word rest in let state = words_behind rest in
    if length party == 0 then None
    else (if is_state (word state) (words_behind state) then Some (Party party) else None)

-- sessions that are opened have numbers from 64 on: two digits, not below "64", or more
abbrev pub is_opened : List ℕ → Bool
is_opened (tens ∷ ones ∷ []) = nat_lt 54 tens || ((tens == 54) && nat_le 52 ones)
is_opened number = nat_lt 2 (length number)

abbrev pub session_told : SessionAt → DrawnLineAt
session_told s = if is_opened s.number then Opened s else Session s

abbrev pub session_line : List ℕ → Option DrawnLineAt
session_line rest =
    let first = words_behind rest in let first_end = words_behind first in let second = words_behind first_end in
    if is_just (Number ∷ Name ∷ Name ∷ Name ∷ Name ∷ []) rest
    then Some (session_told (record { number = word rest; first_party = word first; first_end = word first_end; second_party = word second; second_end = word (words_behind second) }))
    else None

abbrev pub is_printing : List ℕ → Bool
is_printing line = list_all (λ b. nat_le 32 b && nat_le b 126) line

abbrev pub ends_in_space : List ℕ → Bool
ends_in_space line = slice_index line (length line - 1) == 32

-- printing bytes alone, and no space at the end
abbrev pub is_plain : List ℕ → Bool
is_plain line = is_printing line && not (ends_in_space line)

-- a line by its first word, and what stands after that
abbrev pub worded_line : List ℕ → List ℕ → Option DrawnLineAt
worded_line first rest =
    if bytes_eq first (codes "session") then session_line rest
    else (if bytes_eq first (codes "party") then party_line rest
    else (if is_end first then message_line first rest
    else (if is_number first then event_line rest else None)))

abbrev pub is_verdict : List ℕ → Bool
is_verdict line = bytes_eq line (codes "done") || bytes_eq line (codes "blocked") || bytes_eq line (codes "long")

unfoldable pub split_line : List ℕ → Option DrawnLineAt
split_line line = worded_line (word line) (words_behind line)

abbrev pub plain_line : List ℕ → Option DrawnLineAt
plain_line line =
    if bytes_eq line (codes "%%log") || bytes_eq line (codes "%%log2") then Some Log
    else (if is_verdict line then Some Verdict else split_line line)

-- what a line says, where it is one of a transcript or a log
abbrev pub read : List ℕ → Option DrawnLineAt
read line = if is_plain line then plain_line line else None
