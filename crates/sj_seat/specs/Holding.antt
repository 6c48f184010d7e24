-- Ends that a party holds, at the places for which their spots stand.
use Rattle.std.specs.Prelude.{List, [], ◌∷◌, map, Option, Some, None, if◌then◌else◌}
use Rattle.sj_base.specs.declared.EndId.{EndId}
use Rattle.sj_base.specs.declared.Msg.{Msg}
use Rattle.sj_lang.specs.Place.{Place}
use Rattle.sj_lang.specs.declared.proto.Way.{Way}
use Rattle.sj_semantics.specs.Uses.{place_behind}
use Rattle.sj_table.specs.declared.table.Spot.{Spot}
use Rattle.sj_table.specs.declared.table.Table.{Table}
use Rattle.sj_table.specs.Spots.{place_in}
use Rattle.sj_rules.specs.Record.{is_same_end}
use Rattle.sj_seat_laws.specs.Calls.{Ends}
use Rattle.sj_seat.specs.declared.ends.HeldEnd.{HeldEnd}
use Rattle.sj_seat.specs.declared.guard.Guard.{Guard}

-- an end at its place in the table
abbrev pub entry_at : Table → HeldEnd → EndId × Place
entry_at t b = (b.end, place_in t b.place)

-- ends at their places in the table
abbrev pub ends_at : Table → List HeldEnd → Ends
ends_at t bs = map (entry_at t) bs

-- the one end after the message, where it is that one
abbrev pub entry_moved : EndId × Place → EndId → Way → Msg → EndId × Place
entry_moved b e way m = (b.0, if is_same_end b.0 e then place_behind b.1 way m else b.1)

-- the ends that a guard sees
abbrev pub ends_of : Guard → Ends
ends_of g = ends_at g.table.now g.ends.now

-- the spot of an end that is held
abbrev pub spot_held : List HeldEnd → EndId → Option Spot
spot_held [] e = None
spot_held (b ∷ bs) e = if is_same_end b.end e then Some b.place else spot_held bs e
