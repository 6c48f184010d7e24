-- The next step of a party's program, as an act of its node. Each rule is None where it doesn't
-- fit.
use Rattle.std.specs.Prelude.{ℕ, ◌+◌, Bool, true, ◌&&◌, nat_lt, if◌then◌else◌, List, [], ◌∷◌, ◌++◌, Option, Some, None, is_none, option_map}
use Rattle.sj_base.specs.declared.EndId.{EndId}
use Rattle.sj_base.specs.declared.Msg.{Msg}
use Rattle.sj_base.specs.declared.Msg.TheVariants as msgs
use Rattle.sj_lang.specs.declared.proto.Way.TheVariants.{Out, Into}
use Rattle.sj_rules.specs.Limits.{limit_of_hops, limit_of_requests}
use Rattle.sj_rules.specs.Record.{Carry, Fin, Claim, Open, HeldAt, MainAt, Held, Closed, Expected, Parked, other_end, requested_end, offered_end}
use Rattle.sj_rules.specs.Rows.{Worked}
use Rattle.sj_rules.specs.Opened.{opened_number, new_held, smallest, without}
use Rattle.sj_rules.specs.Play.{Want, ended, local, sends, delegates, takes, closes, requests, accepts, Play}
use Rattle.sj_rules.specs.Tables.{NodeAt, put, with_main, with_old, with_offers, quietly}

-- the end once a message was sent on it
abbrev pub held_behind_send : {P : Type 0} → HeldAt P → Msg → P → HeldAt P
held_behind_send h msg place = record h { end = record h.end { place = place; sent = h.end.sent + 1; cache = h.end.cache ++ msg ∷ [] } }

-- the end once its first untaken message was taken
abbrev pub held_behind_take : {P : Type 0} → HeldAt P → List Msg → P → HeldAt P
held_behind_take h rest place = record { end = record h.end { place = place; taken = h.end.taken + 1 }; untaken = rest; fin = h.fin }

-- this party sends the message on a Held end
abbrev pub send_act : {P Q : Type 0} → Play P Q → NodeAt P Q → EndId → Msg → Option (MainAt P) → Option (Worked P (NodeAt P Q))
send_act play n e msg (Some (Held h)) =
    option_map
    (λ place. record {
      state = with_main e (Some (Held (held_behind_send h msg place))) (record n { program = play.goes n.program None });
      posts = record { party = h.end.peer; body = Carry (other_end h.end.id) h.end.conn h.end.sent h.end.taken msg } ∷ [];
    })
    (play.next h.end.place Out msg)
send_act play n e msg _ = None

-- this party parks the end and sends it on the carrier
abbrev pub delegate_act : {P Q : Type 0} → Play P Q → (party : ℕ) → NodeAt P Q → EndId → EndId → Option (MainAt P) → Option (Worked P (NodeAt P Q))
delegate_act play party n carrier e (Some (Held h)) =
    if nat_lt h.end.hops limit_of_hops
    then send_act play
    (with_main e None (with_old e (Some (Parked (record h.end { hops = h.end.hops + 1 }))) n))
    carrier (msgs.Sess e.sess e.side party) (put e None n.main carrier)
    else None
delegate_act play party n carrier e _ = None

-- what taking the message brings: a session message makes an Expected record and a Claim
abbrev pub work_of_take : {P Q : Type 0} → P → Msg → NodeAt P Q → Worked P (NodeAt P Q)
work_of_take place (msgs.Sess sess side keeper) n =
    record {
      state = with_main (record { sess = sess; side = side }) (Some (Expected keeper place [])) n;
      posts = record { party = keeper; body = Claim (record { sess = sess; side = side }) } ∷ [];
    }
work_of_take place _ n = quietly n

-- a session message names an end that this party doesn't use, await or close
abbrev pub is_free : {P Q : Type 0} → NodeAt P Q → Msg → Bool
is_free n (msgs.Sess sess side keeper) = is_none (n.main (record { sess = sess; side = side }))
is_free n _ = true

-- this party takes the first of these messages
abbrev pub take_from : {P Q : Type 0} → Play P Q → NodeAt P Q → EndId → P → HeldAt P → List Msg → Option (Worked P (NodeAt P Q))
take_from play n e place h [] = None
take_from play n e place h (m ∷ rest) =
    if play.fits n.program m && is_free n m
    then option_map
    (λ after. work_of_take place m (with_main e (Some (Held (held_behind_take h rest after))) (record n { program = play.goes n.program (Some m) })))
    (play.next h.end.place Into m)
    else None

-- this party takes a message on a Held end
abbrev pub take_act : {P Q : Type 0} → Play P Q → NodeAt P Q → EndId → P → Option (MainAt P) → Option (Worked P (NodeAt P Q))
take_act play n e place (Some (Held h)) = take_from play n e place h h.untaken
take_act play n e place _ = None

-- this party closes a Held end: it is Closed, or gone where the peer's Fin is there
abbrev pub close_act : {P Q : Type 0} → Play P Q → NodeAt P Q → EndId → Option (MainAt P) → Option (Worked P (NodeAt P Q))
close_act play n e (Some (Held h)) =
    if play.is_over h.end.place
    then Some (record {
      state = with_main e (if h.fin then None else Some (Closed h.end)) (record n { program = play.goes n.program None });
      posts = record { party = h.end.peer; body = Fin (other_end h.end.id) h.end.conn h.end.sent } ∷ [];
    })
    else None
close_act play n e _ = None

-- this party opens that session: its end is Held here, and an Open goes out
abbrev pub open_session : {P Q : Type 0} → Play P Q → NodeAt P Q → P → (to sess : ℕ) → Worked P (NodeAt P Q)
open_session play n place to sess = record {
  state = with_main (requested_end sess) (Some (Held (new_held (requested_end sess) place to)))
      (record n { program = play.opened n.program (requested_end sess); requests = n.requests + 1 });
  posts = record { party = to; body = Open sess } ∷ [];
}

-- where it opened few
abbrev pub request_act : {P Q : Type 0} → Play P Q → (party : ℕ) → NodeAt P Q → P → (to : ℕ) → Option (Worked P (NodeAt P Q))
request_act play party n place to =
    if nat_lt n.requests limit_of_requests
    then Some (open_session play n place to (opened_number party n.requests))
    else None

-- the end at its place
abbrev pub held_at : {P : Type 0} → P → HeldAt P → HeldAt P
held_at place h = record h { end = record h.end { place = place } }

-- this party accepts that session: its end gets the place, and is offered no more
abbrev pub accept_session : {P Q : Type 0} → Play P Q → NodeAt P Q → P → (from sess : ℕ) → Option (MainAt P) → Option (Worked P (NodeAt P Q))
accept_session play n place from sess (Some (Held h)) =
    Some (quietly (with_offers from (without sess (n.offers from))
    (with_main (offered_end sess) (Some (Held (held_at place h))) (record n { program = play.opened n.program (offered_end sess) }))))
accept_session play n place from sess _ = None

-- where one is offered
abbrev pub accept_offered : {P Q : Type 0} → Play P Q → NodeAt P Q → P → (from : ℕ) → Option ℕ → Option (Worked P (NodeAt P Q))
accept_offered play n place from None = None
accept_offered play n place from (Some sess) = accept_session play n place from sess (n.main (offered_end sess))

-- of what that party offers the session with the smallest number
abbrev pub accept_act : {P Q : Type 0} → Play P Q → NodeAt P Q → P → (from : ℕ) → Option (Worked P (NodeAt P Q))
accept_act play n place from = accept_offered play n place from (smallest (n.offers from))

-- by the next step that the program wants
abbrev pub act_by : {P Q : Type 0} → Play P Q → (party : ℕ) → NodeAt P Q → Want P → Option (Worked P (NodeAt P Q))
act_by play party n ended = None
act_by play party n local = Some (quietly (record n { program = play.goes n.program None }))
act_by play party n (sends e msg) = send_act play n e msg (n.main e)
act_by play party n (delegates carrier e) = delegate_act play party n carrier e (n.main e)
act_by play party n (takes e place) = take_act play n e place (n.main e)
act_by play party n (closes e) = close_act play n e (n.main e)
act_by play party n (requests place to) = request_act play party n place to
act_by play party n (accepts place from) = accept_act play n place from

-- the next step of the party's program
abbrev pub acts : {P Q : Type 0} → Play P Q → (party : ℕ) → NodeAt P Q → Option (Worked P (NodeAt P Q))
acts play party n = if play.is_worn n.program then None else act_by play party n (play.wants n.program)
