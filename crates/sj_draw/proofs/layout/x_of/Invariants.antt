use Rattle.std.proofs.Common.{◌≡◌, ◌+◌, ◌*◌, ◌≤◌, ℕ, List, Bor, map, drop}
use Rattle.sj_draw.specs.Columns.{x_of}
use Rattle.sj_draw.proofs.layout.x_of.Given as goal

-- the columns so far, and of the parties that are left the one that is so many further
abbrev pub invariant-loop-name : goal.invariant-loop-name
invariant-loop-name l =
    (x_of l.base (map (λ (n : Bor (List ℕ)). n.now) l.names) l.party ≡ l.x + x_of l.base (map (λ (n : Bor (List ℕ)). n.now) (drop l.name-index l.names)) l.left)
    × (l.x ≤ 8240 * l.name-index)
