use Rattle.std.proofs.Common.{◌≡◌, drop}
use Rattle.sj_talk.specs.Names.{end_named}
use Rattle.sj_talk.specs.Play.{ends_at}
use Rattle.sj_talk.proofs.names.end_named.Given as goal

abbrev pub invariant-loop-bound : goal.invariant-loop-bound
invariant-loop-bound l = end_named (ends_at (drop l.bound-index l.ends)) l.name ≡ end_named (ends_at l.ends) l.name
