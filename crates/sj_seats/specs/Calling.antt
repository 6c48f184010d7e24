-- What a call of a party's code does to its node, and to what the code holds.
use Rattle.std.specs.Prelude.{◌≡◌, ℕ, ◌+◌, is_some, [], ◌∷◌, ◌++◌}
use Rattle.sj_base.specs.declared.EndId.{EndId}
use Rattle.sj_end.specs.declared.note.Entry.{Entry}
use Rattle.sj_lang.specs.Place.{Place}
use Rattle.sj_node.specs.declared.node.Node.{Node}
use Rattle.sj_node.specs.declared.seats.Call as seats
use Rattle.sj_node.specs.Node.{Stays, log_of}
use Rattle.sj_node.specs.Reading.{TakesEntry}
use Rattle.sj_node.specs.Seats.{IsCalled, IsRowOf, head_taken, is_take}
use Rattle.sj_seat.specs.Asked.{IsGuarded, IsOpenable, asked, want_opening}
use Rattle.sj_seat.specs.Holding.{ends_at}
use Rattle.sj_seat.specs.NodeOpening.{Opens, note_opening}
use Rattle.sj_seat.specs.Opened.{openings_at}
use Rattle.sj_seat.specs.Wishes.{open_wished}
use Rattle.sj_seat.specs.declared.wish.OpenWish.{OpenWish}
use Rattle.sj_seat.specs.declared.wish.OpenWish.TheVariants.{Request, Accept}
use Rattle.sj_seat_laws.specs.Calls.{Call}
use Rattle.sj_seat_laws.specs.Guards.{ends_after, opened_place, with_opened}
use Rattle.sj_table.specs.declared.table.Spot.{Spot}
use Rattle.sj_table.specs.Spots.{place_in}
use Rattle.sj_table.specs.declared.table.Table.{Table}
use Rattle.sj_seats.specs.declared.played.Chair.{Chair}

-- the call was guarded, and the node did it; its entry was taken out of the log, and the code holds
-- what it holds after it
pub record Calls (t : Table) (old : Node) (before : Chair) (call : Call) (e : Entry) (new : Node) (after : Chair) : Type 0 where
  pub mid : Node
  pub done : seats.Call
  pub guarded : IsGuarded t (openings_at t before.may) (ends_at t before.ends.items) before.calls done
  pub called : IsCalled old done mid
  pub heads : is_some (head_taken old done) ≡ is_take done
  pub took : TakesEntry mid new
  pub entry : log_of mid ≡ log_of new ++ e ∷ []
  pub is : asked done ≡ call
  pub ends : ends_at t after.ends.items ≡ ends_after (ends_at t before.ends.items) (asked done) (head_taken old done)
  pub calls : after.calls ≡ before.calls + 1
  pub may : after.may ≡ before.may

-- the node opened the session, with its own end at that place
pub record OpensSo (old : Node) (wish : OpenWish) (place : Place) (new : Node) (end : EndId) : Type 0 where
  pub opens : Opens old wish end
  pub called : IsRowOf old (want_opening place wish) (note_opening old wish) new

-- the party may open the session, and the node did it; its entry was taken out of the log, and the code
-- holds its own end of it, too
pub record OpensOne (t : Table) (old : Node) (before : Chair) (wish : OpenWish) (e : Entry) (new : Node) (after : Chair) : Type 0 where
  pub mid : Node
  pub end : EndId
  pub spot : Spot
  pub guarded : IsOpenable t (openings_at t before.may) (ends_at t before.ends.items) before.calls wish spot
  pub opened : OpensSo old wish (place_in t spot) mid end
  pub took : TakesEntry mid new
  pub entry : log_of mid ≡ log_of new ++ e ∷ []
  pub ends : ends_at t after.ends.items ≡ with_opened (ends_at t before.ends.items) end (opened_place (openings_at t before.may) (open_wished wish))
  pub calls : after.calls ≡ before.calls + 1
  pub may : after.may ≡ before.may

-- the protocol as which it is opened
abbrev pub protocol_asked : OpenWish → ℕ
protocol_asked (Request q n) = n
protocol_asked (Accept q n) = n

-- nothing that contracts see has changed
pub record Sits (t : Table) (old : Node) (before : Chair) (new : Node) (after : Chair) : Type 0 where
  pub node : Stays old new
  pub ends : ends_at t after.ends.items ≡ ends_at t before.ends.items
  pub calls : after.calls ≡ before.calls
  pub may : after.may ≡ before.may
