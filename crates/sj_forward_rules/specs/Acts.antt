-- The next step of a party's program, as an act of its node. Each rule is None where it doesn't
-- fit.
use Rattle.std.specs.Prelude.{suc, ℕ, ◌+◌, nat_lt, List, [], ◌∷◌, Option, Some, None, if◌then◌else◌}
use Rattle.sj_base.specs.declared.EndId.{EndId}
use Rattle.sj_base.specs.declared.Msg.{Msg}
use Rattle.sj_base.specs.declared.Msg.TheVariants as msgs
use Rattle.sj_semantics.specs.World.{session_message}
use Rattle.sj_rules.specs.Limits.{limit_of_hops, limit_of_requests}
use Rattle.sj_rules.specs.Opened.{opened_number, smallest, without}
use Rattle.sj_rules.specs.Play.{Want, ended, local, sends, delegates, takes, closes, requests, accepts, Play}
use Rattle.sj_rules.specs.Record.{requested_end, offered_end}
use Rattle.sj_forward_rules.specs.Record.{SentAt, Held, Parked, Closed, Claim, Open}
use Rattle.sj_forward_rules.specs.Node.{NodeAt, Worked, quietly, with_use, with_record, with_first, with_offers, with_program}
use Rattle.sj_forward_rules.specs.Node.{onward, HeldAt, held_of}

-- this party sends the message on a Held end
abbrev pub send_act : {Q : Type 0} → NodeAt Q → EndId → SentAt → Option HeldAt → Option (Worked Q)
send_act n e m None = None
send_act n e m (Some h) = Some (record { node = n; posts = onward e h.hop h.behind m ∷ [] })

-- the end is Parked, with what is untaken
abbrev pub parked : {Q : Type 0} → EndId → HeldAt → NodeAt Q → NodeAt Q
parked e h n = with_use e None (with_record e h.hop (record { behind = h.behind; state = Parked h.untaken }) n)

-- this party parks the end and sends it on the carrier
abbrev pub delegate_act : {Q : Type 0} → (party : ℕ) → NodeAt Q → EndId → EndId → Option HeldAt → Option (Worked Q)
delegate_act party n carrier e None = None
delegate_act party n carrier e (Some h) =
    if nat_lt h.hop limit_of_hops
    then send_act (parked e h n) carrier (record { msg = session_message e party; hop = h.hop }) (held_of (parked e h n) carrier)
    else None

-- an end in use at the next hop, with its keeper before it and nothing untaken
abbrev pub with_taken : {Q : Type 0} → EndId → ℕ → (keeper : ℕ) → NodeAt Q → NodeAt Q
with_taken e h keeper n = with_use e (Some (suc h)) (with_record e (suc h) (record { behind = keeper; state = Held [] }) n)

-- what taking the message brings: a session message makes a Held record and a Claim
abbrev pub work_of_take : {Q : Type 0} → Msg → ℕ → NodeAt Q → Worked Q
work_of_take (msgs.Sess sess side keeper) h n =
    record {
      node = with_taken (record { sess = sess; side = side }) h keeper n;
      posts = record { party = keeper; frame = Claim (record { sess = sess; side = side }) h } ∷ [];
    }
work_of_take (msgs.Int x) h n = quietly n
work_of_take (msgs.Bool x) h n = quietly n
work_of_take (msgs.Text x) h n = quietly n
work_of_take (msgs.Label x) h n = quietly n
work_of_take (msgs.More x) h n = quietly n

-- this party takes the first of what is untaken
abbrev pub take_from : {P Q : Type 0} → Play P Q → NodeAt Q → EndId → HeldAt → List SentAt → Option (Worked Q)
take_from play n e h [] = None
take_from play n e h (m ∷ rest) =
    Some (work_of_take m.msg m.hop
    (with_record e h.hop (record { behind = h.behind; state = Held rest }) (with_program (play.goes n.program (Some m.msg)) n)))

abbrev pub take_act : {P Q : Type 0} → Play P Q → NodeAt Q → EndId → Option HeldAt → Option (Worked Q)
take_act play n e None = None
take_act play n e (Some h) = take_from play n e h h.untaken

-- this party closes a Held end
abbrev pub close_act : {Q : Type 0} → NodeAt Q → EndId → Option HeldAt → Option (Worked Q)
close_act n e None = None
close_act n e (Some h) = Some (quietly (with_use e None (with_record e h.hop (record { behind = h.behind; state = Closed }) n)))

-- this party opens that session: its end is Held here, and an Open goes out
abbrev pub open_session : {P Q : Type 0} → Play P Q → NodeAt Q → (to sess : ℕ) → Worked Q
open_session play n to sess = record {
  node = with_first (requested_end sess) to (record n { program = play.opened n.program (requested_end sess); requests = n.requests + 1 });
  posts = record { party = to; frame = Open sess } ∷ [];
}

-- where it opened few
abbrev pub request_act : {P Q : Type 0} → Play P Q → (party : ℕ) → NodeAt Q → (to : ℕ) → Option (Worked Q)
request_act play party n to =
    if nat_lt n.requests limit_of_requests then Some (open_session play n to (opened_number party n.requests)) else None

-- this party accepts that session, which is offered no more
abbrev pub accept_session : {P Q : Type 0} → Play P Q → NodeAt Q → (from sess : ℕ) → Worked Q
accept_session play n from sess =
    quietly (with_offers from (without sess (n.offers from)) (with_program (play.opened n.program (offered_end sess)) n))

-- where one is offered
abbrev pub accept_offered : {P Q : Type 0} → Play P Q → NodeAt Q → (from : ℕ) → Option ℕ → Option (Worked Q)
accept_offered play n from None = None
accept_offered play n from (Some sess) = Some (accept_session play n from sess)

-- of what that party offers the session with the smallest number
abbrev pub accept_act : {P Q : Type 0} → Play P Q → NodeAt Q → (from : ℕ) → Option (Worked Q)
accept_act play n from = accept_offered play n from (smallest (n.offers from))

-- by the next step that the program wants
abbrev pub act_by : {P Q : Type 0} → Play P Q → (party : ℕ) → NodeAt Q → Want P → Option (Worked Q)
act_by play party n ended = None
act_by play party n local = Some (quietly (with_program (play.goes n.program None) n))
act_by play party n (sends e msg) =
    send_act (with_program (play.goes n.program None) n) e (record { msg = msg; hop = 0 }) (held_of n e)
act_by play party n (delegates carrier e) =
    delegate_act party (with_program (play.goes n.program None) n) carrier e (held_of n e)
act_by play party n (takes e place) = take_act play n e (held_of n e)
act_by play party n (closes e) = close_act (with_program (play.goes n.program None) n) e (held_of n e)
act_by play party n (requests place to) = request_act play party n to
act_by play party n (accepts place from) = accept_act play n from

-- the next step of the party's program
abbrev pub acts : {P Q : Type 0} → Play P Q → (party : ℕ) → NodeAt Q → Option (Worked Q)
acts play party n = if play.is_worn n.program then None else act_by play party n (play.wants n.program)
