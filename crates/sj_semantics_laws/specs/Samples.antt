-- Files whose transcripts are known. No transcript has a line number, so all stands on line 1.
use Rattle.std.specs.Prelude.{ℕ, List, [], ◌∷◌, pos, codes, ◌^◌, ◌-◌}
use Rattle.sj_lang.specs.declared.proto.Way.TheVariants.{Out, Into}
use Rattle.sj_lang.specs.declared.party.Scalar.TheVariants as kinds
use Rattle.sj_lang.specs.declared.party.Op.TheVariants as ops
use Rattle.sj_lang.specs.Place.{Place, done, message, repeat}
use Rattle.sj_lang.specs.Place as places
use Rattle.sj_lang.specs.Term.{Term}
use Rattle.sj_lang.specs.Term as terms
use Rattle.sj_lang.specs.Code.{Code, DeedAt, no_stmt, stmt_then, at, send, take_value, outwhile, inwhile, close}
use Rattle.sj_lang.specs.FileAt.{FileAt, ProtocolAt, PartyAt, DeclAt, ConnectAt}

-- the acts in order, all on one line
abbrev pub in_a_row : List DeedAt → Code
in_a_row [] = no_stmt
in_a_row (a ∷ as') = stmt_then (at 1 a) (in_a_row as')

-- a connection's end by the names of its party, itself and its protocol
abbrev pub decl : ℕ → ℕ → ℕ → DeclAt
decl party name protocol = record { party = party; name = name; protocol = protocol }

-- a connection of two ends
abbrev pub connects : DeclAt → DeclAt → ConnectAt
connects first second = record { line = 1; first = first; second = second }

-- a protocol by its name and body
abbrev pub protocol : ℕ → Place → ProtocolAt
protocol name body = record { line = 1; name = name; body = body }

-- a party by its name and acts
abbrev pub party : ℕ → List DeedAt → PartyAt
party name acts = record { line = 1; name = name; code = in_a_row acts }

-- one number is sent
abbrev pub sends_int : Place
sends_int = message Out places.int done

-- one number is taken
abbrev pub takes_int : Place
takes_int = message Into places.int done

-- one party sends the value to the other
abbrev pub sending : Term → FileAt
sending value = record {
  words = codes "p" ∷ codes "q" ∷ codes "a" ∷ codes "x" ∷ codes "b" ∷ codes "y" ∷ codes "n" ∷ [];
  texts = [];
  protocols = protocol 0 sends_int ∷ protocol 1 takes_int ∷ [];
  parties =
      party 2 (send 3 value ∷ close 3 ∷ [])
      ∷ party 4 (take_value 5 6 kinds.Int ∷ close 5 ∷ []) ∷ [];
  connects = connects (decl 2 3 0) (decl 4 5 1) ∷ [];
}

-- a number is sent
abbrev pub greeting : FileAt
greeting = sending (terms.int (pos 5))

-- its transcript
abbrev pub greeting_text : List ℕ
greeting_text = codes "session 0 a x b y\n0.0 0 a b int 5\nparty a ended 2\nparty b ended 2\ndone\n"

-- the largest integer
abbrev pub last_int : ℕ
last_int = 2 ^ 63 - 1

-- the sum of the largest number and one is sent
abbrev pub wrapping : FileAt
wrapping = sending (terms.two ops.Add (terms.int (pos last_int)) (terms.int (pos 1)))

-- its transcript
abbrev pub wrapping_text : List ℕ
wrapping_text = codes "session 0 a x b y\n0.0 0 a b int -9223372036854775808\nparty a ended 2\nparty b ended 2\ndone\n"

-- nothing is sent
abbrev pub silent : FileAt
silent = record {
  words = codes "p" ∷ codes "q" ∷ codes "a" ∷ codes "x" ∷ codes "b" ∷ codes "y" ∷ [];
  texts = [];
  protocols = protocol 0 done ∷ protocol 1 done ∷ [];
  parties = party 2 (close 3 ∷ []) ∷ party 4 (close 5 ∷ []) ∷ [];
  connects = connects (decl 2 3 0) (decl 4 5 1) ∷ [];
}

-- its transcript
abbrev pub silent_text : List ℕ
silent_text = codes "session 0 a x b y\nparty a ended 1\nparty b ended 1\ndone\n"

-- two sessions are taken in opposite order
abbrev pub crossed : FileAt
crossed = record {
  words = codes "p" ∷ codes "q" ∷ codes "a" ∷ codes "x" ∷ codes "n" ∷ codes "w" ∷ codes "b" ∷ codes "z" ∷ codes "y" ∷ [];
  texts = [];
  protocols = protocol 0 sends_int ∷ protocol 1 takes_int ∷ [];
  parties =
      party 2 (take_value 3 4 kinds.Int ∷ send 5 (terms.int (pos 1)) ∷ close 3 ∷ close 5 ∷ [])
      ∷ party 6 (take_value 7 4 kinds.Int ∷ send 8 (terms.int (pos 1)) ∷ close 8 ∷ close 7 ∷ []) ∷ [];
  connects = connects (decl 2 3 1) (decl 6 8 0) ∷ connects (decl 2 5 0) (decl 6 7 1) ∷ [];
}

-- its transcript
abbrev pub crossed_text : List ℕ
crossed_text = codes "session 0 a x b y\nsession 1 a w b z\nparty a waits 0 0.0\nparty b waits 0 1.1\nblocked\n"

-- a loop with that count
abbrev pub turning : ℕ → FileAt
turning count = record {
  words = codes "p" ∷ codes "q" ∷ codes "a" ∷ codes "x" ∷ codes "b" ∷ codes "y" ∷ [];
  texts = [];
  protocols =
      protocol 0 (repeat Out done done)
      ∷ protocol 1 (repeat Into done done) ∷ [];
  parties =
      party 2 (outwhile 3 (terms.int (pos count)) no_stmt ∷ close 3 ∷ [])
      ∷ party 4 (inwhile 5 no_stmt ∷ close 5 ∷ []) ∷ [];
  connects = connects (decl 2 3 0) (decl 4 5 1) ∷ [];
}

-- the transcript of the loop with count 0
abbrev pub turnless_text : List ℕ
turnless_text = codes "session 0 a x b y\n0.0 0 a b stop\nparty a ended 2\nparty b ended 2\ndone\n"
