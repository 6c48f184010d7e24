-- Logs whose clocks rise are in order.
use Rattle.std.proofs.Common.{◌≡◌, ℕ, List, [], ◌∷◌, map, refl, ap, subst}
use Rattle.sj_rules.specs.Log.{EntryAt, LineAt, IsInOrder, IsRising}
use Rattle.sj_joined_lemmas.proofs.MergingLemmas.{lines_at, merging_begins}
use Rattle.sj_end.specs.declared.note.Entry.{Entry}
use Rattle.sj_core.specs.Views.{entry_at, line_at, line_of}
use Rattle.sj_core.specs.Given.{AreInOrder}

-- a party's entries as lines
lines_same : (party : ℕ) (log : List Entry) → lines_at party (map entry_at log) ≡ map line_at (map (line_of party) log)
lines_same party [] = refl
lines_same party (e ∷ es) = ap (λ ls. line_at (line_of party e) ∷ ls) (lines_same party es)

-- one log
pub rising_in_order : (clock party : ℕ) (log : List Entry) → IsRising clock (map entry_at log) → IsInOrder (map line_at (map (line_of party) log))
rising_in_order clock party log rising =
    subst (λ (ls : List LineAt). IsInOrder ls) (lines_same party log) (merging_begins clock [] party (map entry_at log) tt refl rising).entries_order

-- each of them
pub all_in_order : (clock : ℕ) (logs : ℕ → List EntryAt) → ((p : ℕ) → IsRising clock (logs p)) → AreInOrder logs
all_in_order clock logs rise p = (merging_begins clock [] p (logs p) tt refl (rise p)).entries_order
