-- Sessions that are opened and accepted, seen from the main records alone.
use Rattle.std.specs.Prelude.{◌≡◌, Option, Some}
use Rattle.sj_base.specs.declared.EndId.{EndId}
use Rattle.sj_table.specs.declared.table.Spot.{Spot}
use Rattle.sj_rules.specs.Record.{HeldAt, MainAt, Held}
use Rattle.sj_rules.specs.Node.{put, held_at}

-- a Held end gets that place
pub record AcceptsFrom (place : Spot) (old new : Option (MainAt Spot)) : Type 0 where
  pub was : HeldAt Spot
  pub there : old ≡ Some (Held was)
  pub left : new ≡ Some (Held (held_at place was))

-- the same, of all main records
pub record Accepts (e : EndId) (place : Spot) (old new : EndId → Option (MainAt Spot)) : Type 0 where
  pub left : Option (MainAt Spot)
  pub from : AcceptsFrom place (old e) left
  pub puts : new ≡ put e left old
