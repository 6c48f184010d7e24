-- What comes of a line when its call was answered.
use Rattle.std.specs.Prelude.{ℕ, Bool, true, false, ◌+◌, List, [], ◌∷◌, ◌++◌, nat_lt, Option, Some, None, Result, Ok, Err, if◌then◌else◌}
use Rattle.sj_base.specs.declared.EndId.{EndId}
use Rattle.sj_base.specs.declared.Msg.{Msg}
use Rattle.sj_base.specs.declared.Msg.TheVariants as msgs
use Rattle.sj_seat.specs.declared.refusal.SeatRefusal.{SeatRefusal}
use Rattle.sj_seat.specs.declared.refusal.SeatRefusal.TheVariants as refusals
use Rattle.sj_seat.specs.declared.wish.Wish.TheVariants as wishes
use Rattle.sj_talk.specs.Names.{Ends}
use Rattle.sj_talk.specs.Rules.{at_limit, begins_otherwise, not_bound, wrong_end, wrong_kind}
use Rattle.sj_seat_lines.specs.Heard.{HeardAt, came, says}
use Rattle.sj_seat_lines.specs.Names.{name_in, without}
use Rattle.sj_seat_lines.specs.Party as asks
use Rattle.sj_seat_lines.specs.Party.{AskAt, PartyAt, PendingAt, rests, waits_for, with_names}
use Rattle.sj_seat_lines.specs.Replies.{ReplyAt, fine, no_memory, not_opened, opened, ready, refused, stopped, took, took_end, waiting}
use Rattle.sj_seat.specs.declared.ask.Outcome.{Outcome}
use Rattle.sj_seat.specs.declared.ask.Outcome.TheVariants as outcomes
use Rattle.sj_seat_lines.specs.declared.party.Heard.TheVariants.{Asks, Answered}

-- the answer to a line whose call was refused so
abbrev pub refusal_reply : SeatRefusal → ReplyAt
refusal_reply refusals.NotHeld = refused not_bound
refusal_reply refusals.BeginsOtherwise = refused begins_otherwise
refusal_reply refusals.WrongEnd = refused wrong_end
refusal_reply refusals.WrongKind = refused wrong_kind
refusal_reply refusals.NotOpened = refused not_opened
refusal_reply refusals.AtLimit = refused at_limit
refusal_reply refusals.Waiting = waiting
refusal_reply (refusals.Stopped stop) = stopped stop
refusal_reply refusals.NoMemory = no_memory

-- one that waits is asked for again, so often as there is patience
abbrev pub waited : PartyAt → List ℕ → PendingAt → HeardAt
waited p t q =
    if nat_lt q.tries p.patience
    then came Asks t (waits_for p (record { ask = q.ask; name = q.name; tries = q.tries + 1 }))
    else says p t waiting

abbrev pub is_waiting : SeatRefusal → Bool
is_waiting refusals.Waiting = true
is_waiting _ = false

abbrev pub undone : PartyAt → List ℕ → PendingAt → SeatRefusal → HeardAt
undone p t q r = if is_waiting r then waited p t q else says p t (refusal_reply r)

-- the names after a step: an end that was closed or delegated has none any more
abbrev pub names_left : Ends → AskAt → Ends
names_left ns (asks.step (wishes.Close e)) = without ns e
names_left ns (asks.step (wishes.Delegate c e)) = without ns e
names_left ns _ = ns

-- an end came with the message, or none did
abbrev pub taken : PartyAt → List ℕ → List ℕ → EndId → Msg → HeardAt
taken p t x e (msgs.Sess s d k) =
    says (with_names p (p.names ++ (x, record { sess = s; side = d }) ∷ [])) t (took_end (name_in (p.names ++ (x, record { sess = s; side = d }) ∷ []) e) (msgs.Sess s d k) x)
taken p t x e m = says p t (took (name_in p.names e) m)

-- the end that came of a session gets its name
abbrev pub opened_so : PartyAt → List ℕ → List ℕ → EndId → HeardAt
opened_so p t x e = says (with_names p (p.names ++ (x, e) ∷ [])) t (opened x)

abbrev pub done_so : PartyAt → List ℕ → PendingAt → Outcome → HeardAt
done_so p t q outcomes.Done = says (with_names p (names_left p.names q.ask)) t fine
done_so p t q (outcomes.Took e m) = taken p t q.name e m
done_so p t q (outcomes.Opened e) = opened_so p t q.name e
done_so p t q (outcomes.Ready b) = says p t (ready b)

abbrev pub answered_so : PartyAt → List ℕ → PendingAt → Result Outcome SeatRefusal → HeardAt
answered_so p t q (Ok o) = done_so p t q o
answered_so p t q (Err r) = undone p t q r

-- what comes of the line that waits; nothing where none does
abbrev pub settled_of : PartyAt → List ℕ → Result Outcome SeatRefusal → Option PendingAt → HeardAt
settled_of p t a None = came Answered t p
settled_of p t a (Some q) = answered_so (rests p) t q a
