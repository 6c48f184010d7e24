use Rattle.std.proofs.Common.{◌≡◌}
use Rattle.sj_check.specs.Named.{is_same_at}
use Rattle.sj_check.specs.Seen.{env_in}
use Rattle.sj_check.proofs.name_lists.is_same_at.Given as goal

abbrev pub invariant-loop-name : goal.invariant-loop-name
invariant-loop-name l =
    let a = (env_in l.protocols l.a).ends in
    let b = (env_in l.protocols l.b).ends in
    is_same_at l.name-iterator a b ≡ is_same_at l.named.keys a b
