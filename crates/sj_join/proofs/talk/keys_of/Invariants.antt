use Rattle.std.proofs.Common.{◌≡◌, map}
use Rattle.sj_join.specs.Talk.{keys_at}
use Rattle.sj_join.proofs.talk.keys_of.Given as goal

abbrev pub invariant-loop-party : goal.invariant-loop-party
invariant-loop-party l = map (λ k. k.items) l.keys.items ≡ keys_at l.run l.party
