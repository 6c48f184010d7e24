-- A frame that comes to a party. Each rule is None where it doesn't fit.
use Rattle.std.specs.Prelude.{ℕ, ◌&&◌, ◌==◌, if◌then◌else◌, [], ◌∷◌, ◌++◌, Option, Some, None, is_none, option_map}
use Rattle.sj_base.specs.declared.EndId.{EndId}
use Rattle.sj_rules.specs.Record.{EndAt, BodyAt, Carry, Fin, Claim, Signal, Ack, Give, Open, MainAt, Held, Closed, Expected, OldAt, Parked, Signalled, other_end, offered_end}
use Rattle.sj_rules.specs.Frames.{FrameAt, is_proper}
use Rattle.sj_rules.specs.Rows.{Worked, passive, passive_closed, crossing_body, acked_body, at_held, install}
use Rattle.sj_rules.specs.Opened.{new_held, is_opened_by}
use Rattle.sj_rules.specs.Tables.{NodeAt, with_offers, with_main, with_old, with_number, held_after, closed_after, parked_after, given_after, quietly}

-- a Carry, Fin or Signal that meets no old record: deferred, or by its row
abbrev pub at_main : {P Q : Type 0} → (ℕ → ℕ → ℕ) → NodeAt P Q → (origin : ℕ) → EndId → BodyAt P → Option (MainAt P) → Option (Worked P (NodeAt P Q))
at_main pick n origin e body None = None
at_main pick n origin e body (Some (Expected keeper place deferred)) =
    Some (quietly (with_main e (Some (Expected keeper place (deferred ++ record { party = origin; body = body } ∷ []))) n))
at_main pick n origin e body (Some (Held h)) = option_map (held_after n e) (at_held pick h origin body)
at_main pick n origin e (Signal to conn party taken) (Some (Closed c)) = option_map (closed_after n e) (passive_closed pick c origin conn party taken)
at_main pick n origin e (Fin to conn number) (Some (Closed c)) =
    if (conn == c.conn) && (origin == c.peer) && (number == c.taken) then Some (quietly (with_main e None n)) else None
at_main pick n origin e _ (Some (Closed c)) = None

-- a Carry or Fin: dropped at an old record of its number
abbrev pub plain_comes : {P Q : Type 0} → (ℕ → ℕ → ℕ) → NodeAt P Q → (origin : ℕ) → EndId → BodyAt P → Option (OldAt P) → Option (Worked P (NodeAt P Q))
plain_comes pick n origin e body None = at_main pick n origin e body (n.main e)
plain_comes pick n origin e body (Some (Parked o)) = if origin == o.peer then Some (quietly n) else None
plain_comes pick n origin e body (Some (Signalled o to)) = if origin == o.peer then Some (quietly n) else None

-- a Signal: at an old record of its number by its row, else at the main record
abbrev pub signal_comes : {P Q : Type 0} → (ℕ → ℕ → ℕ) → NodeAt P Q → (origin : ℕ) → EndId → (conn party taken : ℕ) → Option (OldAt P) → Option (Worked P (NodeAt P Q))
signal_comes pick n origin e conn party taken None = at_main pick n origin e (Signal e conn party taken) (n.main e)
signal_comes pick n origin e conn party taken (Some (Parked o)) = option_map (parked_after n e) (passive pick o origin conn party taken)
signal_comes pick n origin e conn party taken (Some (Signalled o to)) = option_map (given_after n e to) (crossing_body pick o origin conn party taken)

-- an Ack: only at a Signalled record of its number, whose end then leaves
abbrev pub ack_comes : {P Q : Type 0} → NodeAt P Q → (origin : ℕ) → EndId → (conn : ℕ) → Option (OldAt P) → Option (Worked P (NodeAt P Q))
ack_comes n origin e conn (Some (Signalled o to)) = option_map (given_after n e to) (acked_body o origin conn)
ack_comes n origin e conn _ = None

-- a Claim: only at a Parked record, whatever its number; the peer gets a Signal that names the
-- claimer
abbrev pub claim_comes : {P Q : Type 0} → NodeAt P Q → (origin : ℕ) → EndId → Option (OldAt P) → Option (Worked P (NodeAt P Q))
claim_comes n origin e (Some (Parked o)) =
    Some (record { state = with_old e (Some (Signalled o origin)) n; posts = record { party = o.peer; body = Signal (other_end o.id) o.conn origin o.taken } ∷ [] })
claim_comes n origin e _ = None

-- a Give: only at an Expected record without an old one beside it, and from its keeper
abbrev pub give_comes : {P Q : Type 0} → (ℕ → ℕ → ℕ) → NodeAt P Q → (origin : ℕ) → EndAt P → Option ℕ → Option (MainAt P) → Option (Worked P (NodeAt P Q))
give_comes pick n origin e resend (Some (Expected keeper place deferred)) =
    if is_none (n.old e.id) && (origin == keeper)
    then option_map (held_after n e.id) (install pick place deferred e resend)
    else None
give_comes pick n origin e resend _ = None

-- an Open: its end is Held here, and counts as offered by the party from which it comes
abbrev pub open_comes : {P Q : Type 0} → (blank : P) → NodeAt P Q → (origin sess : ℕ) → Option (Worked P (NodeAt P Q))
open_comes blank n origin sess =
    if is_opened_by origin sess && is_none (n.main (offered_end sess)) && is_none (n.old (offered_end sess))
    then Some (quietly (with_offers origin (n.offers origin ++ sess ∷ []) (with_main (offered_end sess) (Some (Held (new_held (offered_end sess) blank origin))) n)))
    else None

-- the row of a frame about an end that is there, whatever its numbers are
abbrev pub comes : {P Q : Type 0} → (ℕ → ℕ → ℕ) → NodeAt P Q → (origin : ℕ) → BodyAt P → Option (Worked P (NodeAt P Q))
comes pick n origin (Carry to conn number taken msg) = plain_comes pick n origin to (Carry to conn number taken msg) (with_number conn (n.old to))
comes pick n origin (Fin to conn number) = plain_comes pick n origin to (Fin to conn number) (with_number conn (n.old to))
comes pick n origin (Claim of) = claim_comes n origin of (n.old of)
comes pick n origin (Signal to conn party taken) = signal_comes pick n origin to conn party taken (with_number conn (n.old to))
comes pick n origin (Ack of conn) = ack_comes n origin of conn (with_number conn (n.old of))
comes pick n origin (Give e resend) = give_comes pick n origin e resend (n.main e.id)
comes pick n origin (Open sess) = None

-- or of an Open
abbrev pub comes_or_opens : {P Q : Type 0} → (blank : P) → (ℕ → ℕ → ℕ) → NodeAt P Q → (origin : ℕ) → BodyAt P → Option (Worked P (NodeAt P Q))
comes_or_opens blank pick n origin (Open sess) = open_comes blank n origin sess
comes_or_opens blank pick n origin (Carry to conn number taken msg) = comes pick n origin (Carry to conn number taken msg)
comes_or_opens blank pick n origin (Fin to conn number) = comes pick n origin (Fin to conn number)
comes_or_opens blank pick n origin (Claim of) = comes pick n origin (Claim of)
comes_or_opens blank pick n origin (Signal to conn party taken) = comes pick n origin (Signal to conn party taken)
comes_or_opens blank pick n origin (Ack of conn) = comes pick n origin (Ack of conn)
comes_or_opens blank pick n origin (Give e resend) = comes pick n origin (Give e resend)

-- a frame comes from that party, to one of so many: beyond the limits, or where it names a party
-- that isn't there, it fits no row
abbrev pub arrives : {P Q : Type 0} → (blank : P) → (parties : ℕ) → (ℕ → ℕ → ℕ) → NodeAt P Q → (origin : ℕ) → FrameAt P → Option (Worked P (NodeAt P Q))
arrives blank parties pick n origin f = if is_proper parties f then comes_or_opens blank pick n origin f.body else None
