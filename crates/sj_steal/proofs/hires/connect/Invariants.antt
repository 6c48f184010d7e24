use Rattle.std.proofs.Common.{◌≡◌, ℕ, All, length}
use Rattle.sj_steal.specs.Teams.{IsConnected}
use Rattle.sj_steal.proofs.hires.connect.Given as goal

abbrev pub invariant-loop-worker : goal.invariant-loop-worker
invariant-loop-worker g l =
    IsConnected (length l.initial.members.items) l.worker l.members.items
    × ((k : ℕ) → All (λ m. m.most ≡ k) l.initial.members.items → All (λ m. m.most ≡ k) l.members.items)
