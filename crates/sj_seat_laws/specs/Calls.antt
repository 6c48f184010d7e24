-- A party that is played by code of its own: what it calls, and which ends it holds.
use Rattle.std.specs.Prelude.{ℕ, not, ◌==◌, ◌&&◌, if◌then◌else◌, List, [], ◌∷◌, map, filter, Option, Some, None}
use Rattle.sj_base.specs.declared.EndId.{EndId}
use Rattle.sj_base.specs.declared.Msg.{Msg}
use Rattle.sj_lang.specs.declared.proto.Way.{Way}
use Rattle.sj_lang.specs.Place.{Place}
use Rattle.sj_semantics.specs.Uses.{place_behind}
use Rattle.sj_rules.specs.Record.{is_same_end}

-- one call: a message is sent, an end is delegated, what is next is taken, an end is closed; a
-- session of a protocol is requested of a party, or the next one that it requested is accepted
pub data Call : Type 0 where
  sends : EndId → Msg → Call
  delegates : (carrier e : EndId) → Call
  takes : EndId → Call
  closes : EndId → Call
  requests : (to protocol : ℕ) → Call
  accepts : (from protocol : ℕ) → Call

-- ends at their places
abbrev pub Ends : Type 0
Ends = List (EndId × Place)

-- a session that the party may open with that one: of which protocol, and its first place there
pub record MayOpen : Type 0 where
  pub party : ℕ
  pub protocol : ℕ
  pub place : Place

-- those that it may request, and those that it may accept
pub record Openings : Type 0 where
  pub requests : List MayOpen
  pub accepts : List MayOpen

-- what the party is in a run: the ends that it holds, how many calls it made, and those that it
-- still makes; and which sessions it may open
pub record SeatedAt : Type 0 where
  pub ends : Ends
  pub steps : ℕ
  pub calls : List Call
  pub may : Openings

-- the place of an end that is held
abbrev pub place_held : Ends → EndId → Option Place
place_held [] e = None
place_held (b ∷ bs) e = if is_same_end b.0 e then Some b.1 else place_held bs e

-- the first place of a session that may be opened
abbrev pub place_opened : List MayOpen → (party protocol : ℕ) → Option Place
place_opened [] q n = None
place_opened (o ∷ os) q n = if (o.party == q) && (o.protocol == n) then Some o.place else place_opened os q n

-- the ends without that one
abbrev pub without_end : Ends → EndId → Ends
without_end bs e = filter (λ b. not (is_same_end b.0 e)) bs

-- the end after the message
abbrev pub moved : Ends → EndId → Way → Msg → Ends
moved bs e way m = map (λ b. (b.0, if is_same_end b.0 e then place_behind b.1 way m else b.1)) bs
