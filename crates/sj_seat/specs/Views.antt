-- What is seen of a guest: its worker and its node, the ends that it holds, the sessions that it may
-- open, and the party that it is in the laws.
use Rattle.std.specs.Prelude.{ℕ, List}
use Rattle.sj_lang.specs.Place.{Place}
use Rattle.sj_node.specs.declared.node.Node.{Node}
use Rattle.sj_rules.specs.Work.{LanedAt}
use Rattle.sj_seat_laws.specs.Calls.{Call, Ends, Openings, SeatedAt}
use Rattle.sj_seat_laws.specs.SeatedPlay.{Player, seated}
use Rattle.sj_seat_laws.specs.SeatRows.{with_player}
use Rattle.sj_table.specs.declared.table.Table.{Table}
use Rattle.sj_work.specs.Laned.{laned}
use Rattle.sj_work.specs.Views as works
use Rattle.sj_work.specs.declared.worker.Worker.{Worker}
use Rattle.sj_seat.specs.Holding.{ends_at}
use Rattle.sj_seat.specs.Opened.{openings_at}
use Rattle.sj_seat.specs.declared.ends.HeldEnd.{HeldEnd}
use Rattle.sj_seat.specs.declared.guest.Guest.{Guest}

-- a worker as the laws see it whose party is played by code: its node, its log, its outboxes and its lanes
abbrev pub laned_at : {O I : Type 0} → SeatedAt → Worker O I → LanedAt Place Player O I
laned_at s w = record {
  node = with_player (seated s) (laned w).node;
  log = (laned w).log;
  box = (laned w).box;
  outs = (laned w).outs;
  ins = (laned w).ins;
}

module _ {O I G : Type 0} where
  abbrev pub worker_of : Guest O I G → Worker O I
  worker_of g = g.worker

  abbrev pub node_of : Guest O I G → Node
  node_of g = works.node_of g.worker

  -- the ends that it holds, at spots
  abbrev pub held_by : Guest O I G → List HeldEnd
  held_by g = g.ends.items

  -- and at their places
  abbrev pub ends_of : Guest O I G → Ends
  ends_of g = ends_at g.table g.ends.items

  -- the sessions that it may open
  abbrev pub may_of : Guest O I G → Openings
  may_of g = openings_at g.table g.may

  -- how many calls it made
  abbrev pub calls_of : Guest O I G → ℕ
  calls_of g = g.calls

  -- how many texts its code may name
  abbrev pub texts_of : Guest O I G → ℕ
  texts_of g = g.texts

  -- how many rounds in vain a call waits
  abbrev pub looks_of : Guest O I G → ℕ
  looks_of g = g.looks

  abbrev pub table_of : Guest O I G → Table
  table_of g = g.table

  -- the party, where its code still makes these calls
  abbrev pub seat_of : List Call → Guest O I G → SeatedAt
  seat_of rest g = record { ends = ends_of g; steps = g.calls; calls = rest; may = may_of g }
