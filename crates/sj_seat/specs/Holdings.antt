-- A guest without its worker.
use Rattle.std.specs.Prelude.{◌≡◌}
use Rattle.sj_table.specs.declared.table.Table.{Table}
use Rattle.sj_seat.specs.declared.holdings.Holdings.{Holdings}
use Rattle.sj_seat.specs.declared.guest.Guest.{Guest}

module _ {G : Type 0} where
  abbrev pub table_in : Holdings G → Table
  table_in h = h.table

  -- the guest has just these: the same ends, sessions to open, texts, calls and looks, over the same table
  pub record IsHeldBy {O I : Type 0} (h : Holdings G) (g : Guest O I G) : Type 0 where
    pub table : g.table ≡ h.table
    pub ends : g.ends.items ≡ h.ends.items
    pub may : g.may ≡ h.may
    pub texts : g.texts ≡ h.texts
    pub calls : g.calls ≡ h.calls
    pub looks : g.looks ≡ h.looks
