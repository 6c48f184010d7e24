-- What a line says: what a line of a talk says, and what a talk hasn't.
use Rattle.std.specs.Prelude.{ℕ, Bool, not, ◌&&◌, ◌==◌, nat_lt, if◌then◌else◌, List, length, codes, Option, Some, None, option_map}
use Rattle.std.specs.List.{list_all}
use Rattle.std.specs.Str.{bytes_eq}
use Rattle.sj_talk.specs.Forms as talks
use Rattle.sj_talk.specs.Forms.{is_short_name}
use Rattle.sj_talk.specs.Play as plays
use Rattle.sj_talk.specs.Words.{rest, word, words_in, words_text}
use Rattle.sj_seat_lines.specs.declared.form.Form.{Form}
use Rattle.sj_seat_lines.specs.declared.form.Form.TheVariants.{Talk, Request, Accept, TakeAny, Ahead, Ready, Ends, Leave}

pub data FormAt : Type 0 where
  -- what a line of a talk says
  talk : talks.FormAt → FormAt
  -- a session of the protocol is requested of that party; the party's own end gets the name
  request : (name protocol party : List ℕ) → FormAt
  -- the next session that this party requested is accepted
  accept : (name protocol party : List ℕ) → FormAt
  -- a take from the first of these ends on which a message is there
  take_any : List (List ℕ) → FormAt
  -- what is ahead of the end
  ahead : List ℕ → FormAt
  -- whether a message is there for the end
  ready : List ℕ → FormAt
  -- the ends that are held
  ends : FormAt
  -- that no further line comes
  leave : FormAt

-- apart from how it lies in memory
abbrev pub form_at : Form → FormAt
form_at (Talk f) = talk (plays.form_at f)
form_at (Request x n q) = request x.now n.now q.now
form_at (Accept x n q) = accept x.now n.now q.now
form_at (TakeAny names) = take_any names
form_at (Ahead x) = ahead x.now
form_at (Ready x) = ready x.now
form_at Ends = ends
form_at Leave = leave

-- a longer line has no form
abbrev pub most_line : ℕ
most_line = 4096

-- after `ahead` a name
unfoldable pub ahead_of : List (List ℕ) → Option FormAt
ahead_of ws = if is_short_name (words_text ws) then Some (ahead (words_text ws)) else None

-- after `ready` a name
unfoldable pub ready_of : List (List ℕ) → Option FormAt
ready_of ws = if is_short_name (words_text ws) then Some (ready (words_text ws)) else None

-- after `take` the word `any`, and at least two names
unfoldable pub any_of : List (List ℕ) → Option FormAt
any_of ws = if bytes_eq (word ws) (codes "any") && not (length (rest (rest ws)) == 0) && list_all is_short_name (rest ws) then Some (take_any (rest ws)) else None

-- three names, of which the last one stands after that word
abbrev pub are_three : List (List ℕ) → List ℕ → Bool
are_three ws way = bytes_eq (word (rest (rest ws))) way && is_short_name (word ws) && is_short_name (word (rest ws)) && is_short_name (words_text (rest (rest (rest ws))))

-- after `request` a name, a protocol, `to` and a party
unfoldable pub request_of : List (List ℕ) → Option FormAt
request_of ws = if are_three ws (codes "to") then Some (request (word ws) (word (rest ws)) (words_text (rest (rest (rest ws))))) else None

-- after `accept` a name, a protocol, `from` and a party
unfoldable pub accept_of : List (List ℕ) → Option FormAt
accept_of ws = if are_three ws (codes "from") then Some (accept (word ws) (word (rest ws)) (words_text (rest (rest (rest ws))))) else None

-- what a line says that no line of a talk does
unfoldable pub own_of : List ℕ → List (List ℕ) → Option FormAt
own_of verb ws =
    if bytes_eq verb (codes "ends") && (length ws == 0) then Some ends
    else (if bytes_eq verb (codes "leave") && (length ws == 0) then Some leave
    else (if bytes_eq verb (codes "ahead") then ahead_of ws
    else (if bytes_eq verb (codes "ready") then ready_of ws
    else (if bytes_eq verb (codes "take") then any_of ws
    else (if bytes_eq verb (codes "request") then request_of ws
    else (if bytes_eq verb (codes "accept") then accept_of ws else None))))))

-- the first of these that there is
abbrev pub or_else : Option FormAt → Option FormAt → Option FormAt
or_else None other = other
or_else (Some x) other = Some x

-- what the line says, where it has one of the forms
unfoldable pub form_of : List ℕ → Option FormAt
form_of line = if nat_lt most_line (length line) then None else or_else (own_of (word (words_in line)) (rest (words_in line))) (option_map talk (talks.form_of line))
