-- What a party keeps of an end, and what parties send to each other. P is what a place is.
use Rattle.std.specs.Prelude.{ℕ, ◌-◌, Bool, ◌&&◌, ◌==◌, List, Option}
use Rattle.sj_base.specs.declared.EndId.{EndId}
use Rattle.sj_base.specs.declared.Msg.{Msg}

-- an end: its own name and place, its connection number and peer, how many messages were sent and
-- taken on it, and those sent from the base on
pub record EndAt (P : Type 0) : Type 0 where
  pub id : EndId
  pub place : P
  pub conn : ℕ
  pub peer : ℕ
  pub sent : ℕ
  pub taken : ℕ
  pub base : ℕ
  pub cache : List Msg
  pub hops : ℕ

-- what a frame says
pub data BodyAt (P : Type 0) : Type 0 where
  Carry : (to : EndId) → (conn number taken : ℕ) → (msg : Msg) → BodyAt P
  Fin : (to : EndId) → (conn number : ℕ) → BodyAt P
  Claim : (of : EndId) → BodyAt P
  Signal : (to : EndId) → (conn party taken : ℕ) → BodyAt P
  Ack : (of : EndId) → (conn : ℕ) → BodyAt P
  Give : EndAt P → (resend : Option ℕ) → BodyAt P
  Open : (sess : ℕ) → BodyAt P

-- a body with the party to which it goes, or from which it came
pub record Mail (P : Type 0) : Type 0 where
  pub party : ℕ
  pub body : BodyAt P

-- an end in use, with what came and wasn't taken, and whether the peer's Fin came
pub record HeldAt (P : Type 0) : Type 0 where
  pub end : EndAt P
  pub untaken : List Msg
  pub fin : Bool

-- the record of an end that a party uses, awaits or has closed
pub data MainAt (P : Type 0) : Type 0 where
  Held : HeldAt P → MainAt P
  Closed : EndAt P → MainAt P
  Expected : (keeper : ℕ) → (place : P) → (deferred : List (Mail P)) → MainAt P

-- the record of an end that a party delegated
pub data OldAt (P : Type 0) : Type 0 where
  Parked : EndAt P → OldAt P
  Signalled : EndAt P → (to : ℕ) → OldAt P

-- the other end of the session
abbrev pub other_end : EndId → EndId
other_end e = record { sess = e.sess; side = 1 - e.side }

-- the end of an opened session that its requester gets, and the one that is offered
abbrev pub requested_end : (sess : ℕ) → EndId
requested_end s = record { sess = s; side = 0 }

-- it is Held where its Open came, until it is accepted
abbrev pub offered_end : (sess : ℕ) → EndId
offered_end s = record { sess = s; side = 1 }

-- two names of one end
abbrev pub is_same_end : EndId → EndId → Bool
is_same_end d e = (d.sess == e.sess) && (d.side == e.side)
