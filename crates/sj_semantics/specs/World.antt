-- The plain world, the act of a party in it, and how a file begins.
use Rattle.std.specs.Prelude.{ℕ, nat_lt, List, [], ◌∷◌, length, slice_get, Option, Some, None, option_map, option_and_then, if◌then◌else◌, ◌+◌, map}
use Rattle.sj_base.specs.declared.EndId.{EndId}
use Rattle.sj_base.specs.declared.Msg.{Msg}
use Rattle.sj_base.specs.declared.Msg.TheVariants as msgs
use Rattle.sj_semantics.specs.declared.Want.{Want}
use Rattle.sj_semantics.specs.declared.Want.TheVariants as wants
use Rattle.sj_semantics.specs.declared.Awaits.{Awaits}
use Rattle.sj_semantics.specs.declared.Awaits.TheVariants as awaits
use Rattle.sj_semantics.specs.declared.Passed.{Passed}
use Rattle.sj_semantics.specs.Program.{Program, block, limit_of_steps}
use Rattle.sj_semantics.specs.Wants.{want_of}
use Rattle.sj_semantics.specs.Steps.{local_of, sent_of, took_of, closed_of, opened_of, name_opened}
use Rattle.sj_semantics.specs.Ends.{Session, end_at, next_for, EndAt, limit_of_hops}
use Rattle.sj_semantics.specs.Uses.{Use, sends, takes, delegates, begins, altered_list, after_uses}
use Rattle.sj_semantics.specs.Requests.{Requests, no_requests, opened_number, limit_of_requests, first_offer, Opening, no_opening, requests, accepts, after_opening}
use Rattle.sj_lang.specs.Place.{Place}
use Rattle.sj_lang.specs.Dual.{dual_of}
use Rattle.sj_lang.specs.FileAt.{FileAt, ProtocolAt, PartyAt, ConnectAt, body_named, ends_from, party_names}
use Rattle.sj_semantics.specs.Value.{no_vars}

-- the file's protocols, the parties by their numbers, the sessions by theirs, and what
-- each party has requested
pub record World : Type 0 where
  pub protocols : List ProtocolAt
  pub parties : List Program
  pub sessions : List Session
  pub requests : Requests

-- what an act changes: the party's program, the ends that it uses, and the requests
pub record Change : Type 0 where
  pub program : Program
  pub uses : List (EndId × Use)
  pub opening : Opening

-- a change that opens no session
abbrev pub plain_change : Program → List (EndId × Use) → Change
plain_change g us = record { program = g; uses = us; opening = no_opening }

-- the message that delegates the end
abbrev pub session_message : EndId → ℕ → Msg
session_message e keeper = msgs.Sess e.sess e.side keeper

-- the end that a message names begins at that place
abbrev pub begun_by : Place → Msg → List (EndId × Use)
begun_by place (msgs.Sess s d k) = (record { sess = s; side = d }, begins place) ∷ []
begun_by place _ = []

-- an end that is taken begins at the body of the protocol that the statement names
abbrev pub begun_at : List ProtocolAt → Awaits → Msg → List (EndId × Use)
begun_at ps (awaits.Session p) m = begun_by (body_named ps p) m
begun_at ps _ m = []

-- the change that taking the message makes
abbrev pub change_by_taking : List ProtocolAt → Program → EndId → Awaits → Passed → Change
change_by_taking ps g e a x = plain_change (took_of g x.msg) ((e, takes x.msg) ∷ begun_at ps a x.msg)

-- the change that opening that session to the party makes: its first end is bound, and its second
-- end waits at the dual place
abbrev pub change_by_opening : Program → ℕ → Place → ℕ → Change
change_by_opening g s place q = record {
  program = opened_of g (record { sess = s; side = 0 });
  uses = (record { sess = s; side = 0 }, begins place) ∷ (record { sess = s; side = 1 }, begins (dual_of place)) ∷ [];
  opening = requests (record { to = q; first = name_opened g.todo; second = None });
}

-- the change that accepting that party's request of number k makes: the second end is bound
abbrev pub change_by_accepting : Program → ℕ → Place → ℕ → Change
change_by_accepting g q place k = record {
  program = opened_of g (record { sess = opened_number q k; side = 1 });
  uses = (record { sess = opened_number q k; side = 1 }, begins place) ∷ [];
  opening = accepts q k (name_opened g.todo);
}

-- the change that the step makes, where the party can do it now
abbrev pub change_by : World → ℕ → Program → Want → Option Change
change_by w p g wants.Ended = None
change_by w p g wants.Local = Some (plain_change (local_of g) [])
change_by w p g (wants.Send e m) = Some (plain_change (sent_of g) ((e, sends m) ∷ []))
change_by w p g (wants.Delegate e y) =
    if nat_lt (end_at w.sessions y).hops limit_of_hops
    then Some (plain_change (sent_of g) ((y, delegates) ∷ (e, sends (session_message y p)) ∷ []))
    else None
change_by w p g (wants.Take e a) = option_map (change_by_taking w.protocols g e a) (next_for w.sessions e)
change_by w p g (wants.Close e) = Some (plain_change (closed_of g) [])
change_by w p g (wants.Request n q) =
    if nat_lt (length (w.requests p)) limit_of_requests
    then Some (change_by_opening g (opened_number p (length (w.requests p))) (body_named w.protocols n) q)
    else None
change_by w p g (wants.Accept n q) = option_map (change_by_accepting g q (body_named w.protocols n)) (first_offer p (w.requests q))

-- the change that the program's next step makes, where it has a step left
abbrev pub change_of_program : World → ℕ → Program → Option Change
change_of_program w p g = if nat_lt g.steps limit_of_steps then option_and_then (change_by w p g) (want_of g) else None

-- the change that the party's next step makes
abbrev pub change_of : World → ℕ → Option Change
change_of w p = option_and_then (change_of_program w p) (slice_get w.parties p)

-- the world in which the party has made that change
abbrev pub changed_world : World → ℕ → Change → World
changed_world w p c = record {
  protocols = w.protocols;
  parties = altered_list w.parties p (λ g. c.program);
  sessions = after_uses p c.uses w.sessions;
  requests = after_opening p c.opening w.requests;
}

-- the world after the next step of the party, where it is ready
abbrev pub act_of : World → ℕ → Option World
act_of w p = option_map (changed_world w p) (change_of w p)

-- an end that nobody has used
abbrev pub fresh : Place → EndAt
fresh p = record { place = p; sent = []; takers = []; hops = 0 }

-- the session of a connection, its ends at the bodies of their protocols
abbrev pub session_of : FileAt → ConnectAt → Session
session_of file c = record {
  first = fresh (body_named file.protocols c.first.protocol);
  second = fresh (body_named file.protocols c.second.protocol);
}

-- the party with its whole code to do and its connected ends
abbrev pub program_of : FileAt → ℕ → PartyAt → Program
program_of file p q = record { todo = block q.code []; vars = no_vars; ends = ends_from file p 0 file.connects; steps = 0; peers = party_names file.parties }

-- the programs of parties, the first of them with number p
abbrev pub programs_from : FileAt → ℕ → List PartyAt → List Program
programs_from file p [] = []
programs_from file p (q ∷ qs) = program_of file p q ∷ programs_from file (p + 1) qs

-- all parties and all connections in file order
abbrev pub start_of : FileAt → World
start_of file = record {
  protocols = file.protocols;
  parties = programs_from file 0 file.parties;
  sessions = map (session_of file) file.connects;
  requests = no_requests;
}
