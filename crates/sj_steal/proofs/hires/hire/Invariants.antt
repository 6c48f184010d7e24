use Rattle.std.proofs.Common.{◌≡◌, ◌≤◌, All, vec_len, vec_capacity}
use Rattle.sj_steal.specs.Teams.{IsNew}
use Rattle.sj_steal.proofs.hires.hire.Given as goal

abbrev pub invariant-loop : goal.invariant-loop
invariant-loop g l =
    All (IsNew l.count 0) l.members.items
    × All (λ m. m.most ≡ l.most) l.members.items
    × (vec_len l.members ≡ l.counter)
    × (l.count ≤ vec_capacity l.members)
