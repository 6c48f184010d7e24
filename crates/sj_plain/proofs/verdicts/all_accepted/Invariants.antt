use Rattle.std.proofs.Common.{◌≡◌, drop}
use Rattle.std.specs.List.{list_all}
use Rattle.sj_semantics.specs.State.{is_accepted}
use Rattle.sj_plain.proofs.verdicts.all_accepted.Given as goal

abbrev pub invariant-loop-session : goal.invariant-loop-session
invariant-loop-session l = list_all is_accepted (drop l.session-index l.opened) ≡ list_all is_accepted l.opened
