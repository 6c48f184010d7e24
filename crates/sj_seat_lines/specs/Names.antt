-- The names of the ends that a party holds.
use Rattle.std.specs.Prelude.{ℕ, List, [], ◌∷◌, codes, filter, map, not, Option, Some, None, if◌then◌else◌}
use Rattle.sj_base.specs.declared.EndId.{EndId}
use Rattle.sj_rules.specs.Record.{is_same_end}
use Rattle.sj_talk.specs.Names.{Ends, end_named}
use Rattle.sj_seat_lines.specs.declared.names.Name.{Name}

-- ends under their names
abbrev pub named : List Name → Ends
named ns = map (λ n. (n.name.items, n.end)) ns

-- the names without those of that end
abbrev pub without : Ends → EndId → Ends
without ns e = filter (λ n. not (is_same_end n.1 e)) ns

-- the name of the end
abbrev pub name_in : Ends → EndId → List ℕ
name_in [] e = codes "?"
name_in (n ∷ ns) e = if is_same_end n.1 e then n.0 else name_in ns e

-- one end and the others, where all are there
abbrev pub both : Option EndId → Option (List EndId) → Option (List EndId)
both None es = None
both (Some e) None = None
both (Some e) (Some es) = Some (e ∷ es)

-- the ends of the names; none where one of them isn't there
abbrev pub ends_under : Ends → List (List ℕ) → Option (List EndId)
ends_under ns [] = Some []
ends_under ns (x ∷ xs) = both (end_named ns x) (ends_under ns xs)
