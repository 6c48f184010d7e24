-- Runs that are known: parties of the greeting are played by code of their own, and parties of the
-- file that opens a session.
use Rattle.std.specs.Prelude.{List, [], ◌∷◌, pos, slice_get, unwrap_or, Option, Some, None, true}
use Rattle.sj_base.specs.declared.EndId.{EndId}
use Rattle.sj_base.specs.declared.Msg.TheVariants as msgs
use Rattle.sj_semantics.specs.Requests.{opened_number}
use Rattle.sj_seat_laws.specs.Calls.{Call, accepts, closes, requests, sends, takes}
use Rattle.sj_seat_laws.specs.SeatsStart.{Callers}

-- the two ends of the first session
abbrev pub near : EndId
near = record { sess = 0; side = 0 }

abbrev pub far : EndId
far = record { sess = 0; side = 1 }

-- it sends another number than the file does, and closes
abbrev pub greets : List Call
greets = sends near (msgs.Int (pos 7)) ∷ closes near ∷ []

-- it takes and closes
abbrev pub listens : List Call
listens = takes far ∷ closes far ∷ []

-- it would send a truth value
abbrev pub mistakes : List Call
mistakes = sends near (msgs.Bool true) ∷ []

-- party by party what its code calls
abbrev pub callers : List (Option (List Call)) → Callers
callers cs q = unwrap_or (slice_get cs q) None

-- who is played by code: the first party, the second one, or both
abbrev pub first : Callers
first = callers (Some greets ∷ [])

abbrev pub second : Callers
second = callers (None ∷ Some listens ∷ [])

abbrev pub both : Callers
both = callers (Some greets ∷ Some listens ∷ [])

abbrev pub misled : Callers
misled = callers (Some mistakes ∷ [])

-- ---- a session is opened

-- the two ends of the first session that the first party opens
abbrev pub opened_near : EndId
opened_near = record { sess = opened_number 0 0; side = 0 }

abbrev pub opened_far : EndId
opened_far = record { sess = opened_number 0 0; side = 1 }

-- it requests the session, sends a number and closes
abbrev pub asks : List Call
asks = requests 1 0 ∷ sends opened_near (msgs.Int (pos 7)) ∷ closes opened_near ∷ []

-- it accepts, takes and closes
abbrev pub answers : List Call
answers = accepts 0 1 ∷ takes opened_far ∷ closes opened_far ∷ []

-- it would request one of the protocol that the other party accepts
abbrev pub asks_wrongly : List Call
asks_wrongly = requests 1 1 ∷ []

-- who is played by code there: the requester, the accepter, or both
abbrev pub requester : Callers
requester = callers (Some asks ∷ [])

abbrev pub accepter : Callers
accepter = callers (None ∷ Some answers ∷ [])

abbrev pub both_open : Callers
both_open = callers (Some asks ∷ Some answers ∷ [])

abbrev pub opens_wrongly : Callers
opens_wrongly = callers (Some asks_wrongly ∷ [])
