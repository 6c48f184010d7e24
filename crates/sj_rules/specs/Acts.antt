-- What the acts do to an end of the plain world, and to the end that sends a frame.
use Rattle.std.specs.Prelude.{ℕ, ◌+◌, Bool, false, List, [], ◌∷◌, ◌++◌}
use Rattle.sj_base.specs.declared.EndId.{EndId}
use Rattle.sj_base.specs.declared.Msg.{Msg}
use Rattle.sj_rules.specs.Record.{EndAt, BodyAt, Carry, Fin, Signal}
use Rattle.sj_rules.specs.PlainSide.{PlainSide}

-- the message was sent on it
abbrev pub plain_sent : {P : Type 0} → PlainSide P → P → Msg → PlainSide P
plain_sent x place m = record x { place = place; sent = x.sent ++ m ∷ [] }

-- an end that is taken gets the place that the statement names
abbrev pub plain_placed : {P : Type 0} → PlainSide P → P → PlainSide P
plain_placed x place = record x { place = place }

-- a new session's end at that place; the other party has to accept it, or not
abbrev pub plain_opened : {P : Type 0} → P → (offered : Bool) → PlainSide P
plain_opened place offered = record { place = place; hops = 0; sent = []; taken = 0; offered = offered }

-- it was accepted
abbrev pub plain_accepted : {P : Type 0} → PlainSide P → P → PlainSide P
plain_accepted x place = record x { place = place; offered = false }

-- a message was taken on it
abbrev pub plain_taken : {P : Type 0} → PlainSide P → P → PlainSide P
plain_taken x place = record x { place = place; taken = x.taken + 1 }

-- it was delegated once more
abbrev pub plain_parked : {P : Type 0} → PlainSide P → PlainSide P
plain_parked x = record x { hops = x.hops + 1 }

-- the end as it is parked
abbrev pub parked_end : {P : Type 0} → EndAt P → EndAt P
parked_end e = record e { hops = e.hops + 1 }

-- the frames that an end sends to the other one at a send, at its close, and when it is Signalled
abbrev pub carry_of : {P : Type 0} → EndId → EndAt P → Msg → List (BodyAt P)
carry_of to e m = Carry to e.conn e.sent e.taken m ∷ []

-- its Fin
abbrev pub fin_of : {P : Type 0} → EndId → EndAt P → List (BodyAt P)
fin_of to e = Fin to e.conn e.sent ∷ []

-- its Signal, which names the new party
abbrev pub signal_to : {P : Type 0} → EndId → EndAt P → (party : ℕ) → List (BodyAt P)
signal_to to e party = Signal to e.conn party e.taken ∷ []
