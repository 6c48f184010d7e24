-- The act of a party in the plain world, as far as the rules see that world: sides change at the
-- ends that the step names.
use Rattle.std.specs.Prelude.{ℕ, ◌+◌, ◌==◌, ◌&&◌, true, false, nat_lt, if◌then◌else◌, List, [], ◌∷◌, ◌++◌, Option, Some, None, option_map}
use Rattle.sj_base.specs.declared.EndId.{EndId}
use Rattle.sj_base.specs.declared.Msg.{Msg}
use Rattle.sj_base.specs.declared.Msg.TheVariants as msgs
use Rattle.sj_lang.specs.declared.proto.Way.TheVariants.{Out, Into}
use Rattle.sj_rules.specs.Limits.{limit_of_hops, limit_of_requests}
use Rattle.sj_rules.specs.Record.{is_same_end, requested_end, offered_end}
use Rattle.sj_rules.specs.Opened.{opened_number}
use Rattle.sj_rules.specs.Node.{Want, ended, local, sends, delegates, takes, closes, requests, accepts, Play}
use Rattle.sj_rules.specs.PlainSide.{PlainSide, PlainAt}
use Rattle.sj_rules.specs.Linked.{waiting_at}
use Rattle.sj_rules.specs.Acts.{plain_sent, plain_taken, plain_parked, plain_placed, plain_opened, plain_accepted}
use Rattle.sj_semantics.specs.World.{session_message}

-- the program of a party is another from now on
abbrev pub with_program : {P Q : Type 0} → ℕ → Q → PlainAt P Q → PlainAt P Q
with_program p g plain = record plain { programs = λ q. if q == p then g else plain.programs q }

-- a side is what f makes of it from now on
abbrev pub with_side : {P Q : Type 0} → EndId → (PlainSide P → PlainSide P) → PlainAt P Q → PlainAt P Q
with_side e f plain = record plain { sides = λ d. if is_same_end d e then f (plain.sides d) else plain.sides d }

-- the program goes on
abbrev pub plain_goes : {P Q : Type 0} → Play P Q → ℕ → Option Msg → PlainAt P Q → PlainAt P Q
plain_goes play p taken plain = with_program p (play.goes (plain.programs p) taken) plain

-- a message is sent on e
abbrev pub plain_sends : {P Q : Type 0} → Play P Q → ℕ → EndId → Msg → P → PlainAt P Q → PlainAt P Q
plain_sends play p e msg place plain = with_side e (λ x. plain_sent x place msg) (plain_goes play p None plain)

-- e is delegated and its session message is sent on the carrier
abbrev pub plain_delegates : {P Q : Type 0} → Play P Q → ℕ → EndId → EndId → P → PlainAt P Q → PlainAt P Q
plain_delegates play p carrier e place plain =
    with_side carrier (λ x. plain_sent x place (session_message e p)) (with_side e plain_parked (plain_goes play p None plain))

-- an end that a message names gets that place
abbrev pub plain_names : {P Q : Type 0} → P → Msg → PlainAt P Q → PlainAt P Q
plain_names named (msgs.Sess sess side keeper) plain = with_side (record { sess = sess; side = side }) (λ x. plain_placed x named) plain
plain_names named (msgs.Int n) plain = plain
plain_names named (msgs.Bool b) plain = plain
plain_names named (msgs.Text n) plain = plain
plain_names named (msgs.Label n) plain = plain
plain_names named (msgs.More b) plain = plain

-- a message is taken on e
abbrev pub plain_takes : {P Q : Type 0} → Play P Q → ℕ → EndId → Msg → P → PlainAt P Q → PlainAt P Q
plain_takes play p e msg place plain = with_side e (λ x. plain_taken x place) (plain_goes play p (Some msg) plain)

-- the head that waits is taken, where there is one; an end that it names gets the place of the
-- statement
abbrev pub plain_takes_head : {P Q : Type 0} → Play P Q → ℕ → EndId → (named : P) → PlainAt P Q → Option Msg → Option (PlainAt P Q)
plain_takes_head play p e named plain None = None
plain_takes_head play p e named plain (Some m) = option_map (λ place. plain_names named m (plain_takes play p e m place plain)) (play.next (plain.sides e).place Into m)

-- what the one party opened to the other and that wasn't accepted is this from now on
abbrev pub with_opened : {P Q : Type 0} → (from to : ℕ) → List ℕ → PlainAt P Q → PlainAt P Q
with_opened p q sessions plain = record plain { offers = λ from to. if (from == p) && (to == q) then sessions else plain.offers from to }

-- a session is opened to that party: its first end is bound at its place, the other nowhere at the
-- dual one
abbrev pub plain_requests : {P Q : Type 0} → Play P Q → ℕ → P → (to sess : ℕ) → PlainAt P Q → PlainAt P Q
plain_requests play p place to sess plain =
    with_side (requested_end sess) (λ x. plain_opened place false) (with_side (offered_end sess) (λ x. plain_opened (play.dual place) true)
    (with_opened p to (plain.offers p to ++ sess ∷ [])
    (with_program p (play.opened (plain.programs p) (requested_end sess)) (record plain { requests = λ q. if q == p then plain.requests q + 1 else plain.requests q }))))

-- the first session that was opened from there is accepted, where there is one
abbrev pub plain_accepts : {P Q : Type 0} → Play P Q → ℕ → P → (from : ℕ) → PlainAt P Q → List ℕ → Option (PlainAt P Q)
plain_accepts play p place from plain [] = None
plain_accepts play p place from plain (sess ∷ later) =
    Some (with_side (offered_end sess) (λ x. plain_accepted x place) (with_opened from p later (with_program p (play.opened (plain.programs p) (offered_end sess)) plain)))

-- by the next step that the program wants; None where the party isn't ready
abbrev pub plain_act_by : {P Q : Type 0} → Play P Q → PlainAt P Q → ℕ → Want P → Option (PlainAt P Q)
plain_act_by play plain p ended = None
plain_act_by play plain p local = Some (plain_goes play p None plain)
plain_act_by play plain p (sends e msg) = option_map (λ place. plain_sends play p e msg place plain) (play.next (plain.sides e).place Out msg)
plain_act_by play plain p (delegates carrier e) =
    if nat_lt (plain.sides e).hops limit_of_hops
    then option_map (λ place. plain_delegates play p carrier e place plain) (play.next (plain.sides carrier).place Out (session_message e p))
    else None
plain_act_by play plain p (takes e named) = plain_takes_head play p e named plain (waiting_at plain e 0)
plain_act_by play plain p (closes e) = Some (plain_goes play p None plain)
plain_act_by play plain p (requests place to) = if nat_lt (plain.requests p) limit_of_requests then Some (plain_requests play p place to (opened_number p (plain.requests p)) plain) else None
plain_act_by play plain p (accepts place from) = plain_accepts play p place from plain (plain.offers from p)

-- the plain world after the party's next step, where it is ready
abbrev pub plain_act : {P Q : Type 0} → Play P Q → PlainAt P Q → ℕ → Option (PlainAt P Q)
plain_act play plain p = if play.is_worn (plain.programs p) then None else plain_act_by play plain p (play.wants (plain.programs p))
