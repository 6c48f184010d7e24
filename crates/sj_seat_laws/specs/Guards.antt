-- Which calls are guarded: the end is held, and its place begins so; or the party may open such a
-- session.
use Rattle.std.specs.Prelude.{ℕ, ◌+◌, Bool, true, false, not, ◌&&◌, if◌then◌else◌, is_some, List, [], ◌∷◌, ◌++◌, Option, Some, None}
use Rattle.sj_base.specs.declared.EndId.{EndId}
use Rattle.sj_base.specs.declared.Msg.{Msg}
use Rattle.sj_base.specs.declared.Msg.TheVariants as msgs
use Rattle.sj_lang.specs.After.{at_label}
use Rattle.sj_lang.specs.ItemCount.{is_done}
use Rattle.sj_lang.specs.MeetTests.{stands_for}
use Rattle.sj_lang.specs.Place.{Place, boolean, choice, done, int, message, repeat, session, text}
use Rattle.sj_lang.specs.declared.proto.Way.TheVariants.{Into, Out}
use Rattle.sj_semantics.specs.World.{session_message}
use Rattle.sj_rules.specs.Record.{is_same_end}
use Rattle.sj_rules.specs.Node as wanted
use Rattle.sj_rules.specs.Node.{Want}
use Rattle.sj_seat_laws.specs.Calls.{Call, Ends, Openings, SeatedAt, accepts, closes, delegates, moved, place_held, place_opened, requests, sends, takes, without_end}

-- ---- places

-- it begins with the sending of that message, which names no end
abbrev pub may_send : Place → Msg → Bool
may_send (message Out int next) (msgs.Int n) = true
may_send (message Out boolean next) (msgs.Bool b) = true
may_send (message Out text next) (msgs.Text n) = true
may_send (choice Out arms next) (msgs.Label l) = is_some (at_label l arms)
may_send (repeat Out body next) (msgs.More b) = true
may_send _ _ = false

-- it begins with the sending of an end at which that place can stand
abbrev pub may_carry : Place → Place → Bool
may_carry (message Out (session kind) next) place = not (is_done place) && stands_for place kind
may_carry _ place = false

-- it begins with the taking of something
abbrev pub may_take : Place → Bool
may_take (message Into kind next) = true
may_take (choice Into arms next) = true
may_take (repeat Into body next) = true
may_take _ = false

-- the place of an end that is carried next
abbrev pub carried_next : Place → Place
carried_next (message way (session kind) next) = kind
carried_next _ = done

-- ---- calls

-- the step, where the test allows it, and else none
abbrev pub where_allowed : Bool → Want Place → Want Place
where_allowed b want = if b then want else wanted.ended

abbrev pub want_of_send : EndId → Msg → Option Place → Want Place
want_of_send e m None = wanted.ended
want_of_send e m (Some place) = where_allowed (may_send place m) (wanted.sends e m)

abbrev pub want_of_delegate : (carrier e : EndId) → Option Place → Option Place → Want Place
want_of_delegate c e None o = wanted.ended
want_of_delegate c e (Some place) None = wanted.ended
want_of_delegate c e (Some place) (Some own) = where_allowed (not (is_same_end c e) && may_carry place own) (wanted.delegates c e)

abbrev pub want_of_take : EndId → Option Place → Want Place
want_of_take e None = wanted.ended
want_of_take e (Some place) = where_allowed (may_take place) (wanted.takes e (carried_next place))

abbrev pub want_of_close : EndId → Option Place → Want Place
want_of_close e None = wanted.ended
want_of_close e (Some place) = where_allowed (is_done place) (wanted.closes e)

abbrev pub want_of_request : (to : ℕ) → Option Place → Want Place
want_of_request q None = wanted.ended
want_of_request q (Some place) = wanted.requests place q

abbrev pub want_of_accept : (from : ℕ) → Option Place → Want Place
want_of_accept q None = wanted.ended
want_of_accept q (Some place) = wanted.accepts place q

-- the step that the call is, where it is guarded; a call that isn't is none
abbrev pub want_of_call : Openings → Ends → Call → Want Place
want_of_call os bs (sends e m) = want_of_send e m (place_held bs e)
want_of_call os bs (delegates c e) = want_of_delegate c e (place_held bs c) (place_held bs e)
want_of_call os bs (takes e) = want_of_take e (place_held bs e)
want_of_call os bs (closes e) = want_of_close e (place_held bs e)
want_of_call os bs (requests q n) = want_of_request q (place_opened os.requests q n)
want_of_call os bs (accepts q n) = want_of_accept q (place_opened os.accepts q n)

-- the ends with the one that the message names, at its place
abbrev pub with_carried : Ends → Place → Msg → Ends
with_carried bs place (msgs.Sess s d k) = bs ++ (record { sess = s; side = d }, place) ∷ []
with_carried bs place _ = bs

-- the ends after a take, by the place before it
abbrev pub ends_taken : Ends → EndId → Option Place → Option Msg → Ends
ends_taken bs e (Some place) (Some m) = with_carried (moved bs e Into m) (carried_next place) m
ends_taken bs e _ _ = bs

-- the ends after the call, which took the message where it takes one
abbrev pub ends_after : Ends → Call → Option Msg → Ends
ends_after bs (sends e m) taken = moved bs e Out m
ends_after bs (delegates c e) taken = without_end (moved bs c Out (session_message e 0)) e
ends_after bs (takes e) taken = ends_taken bs e (place_held bs e) taken
ends_after bs (closes e) taken = without_end bs e
ends_after bs (requests q n) taken = bs
ends_after bs (accepts q n) taken = bs

-- the ends with the one that was opened, at its place
abbrev pub with_opened : Ends → EndId → Option Place → Ends
with_opened bs e None = bs
with_opened bs e (Some place) = bs ++ (e, place) ∷ []

-- the first place of the session that the call opens
abbrev pub opened_place : Openings → Call → Option Place
opened_place os (requests q n) = place_opened os.requests q n
opened_place os (accepts q n) = place_opened os.accepts q n
opened_place os _ = None

-- ---- the party

abbrev pub want_of_calls : Openings → Ends → List Call → Want Place
want_of_calls os bs [] = wanted.ended
want_of_calls os bs (c ∷ cs) = want_of_call os bs c

-- its next step: that of its next call
abbrev pub seated_want : SeatedAt → Want Place
seated_want s = want_of_calls s.may s.ends s.calls

abbrev pub called_by : SeatedAt → List Call → Option Msg → SeatedAt
called_by s [] taken = s
called_by s (c ∷ cs) taken = record { ends = ends_after s.ends c taken; steps = s.steps + 1; calls = cs; may = s.may }

-- the party after its next call
abbrev pub called : SeatedAt → Option Msg → SeatedAt
called s taken = called_by s s.calls taken

abbrev pub opened_by : SeatedAt → List Call → EndId → SeatedAt
opened_by s [] e = s
opened_by s (c ∷ cs) e = record { ends = with_opened s.ends e (opened_place s.may c); steps = s.steps + 1; calls = cs; may = s.may }

-- the party after its next call, which opened the session of that end
abbrev pub opened : SeatedAt → EndId → SeatedAt
opened s e = opened_by s s.calls e
