use Rattle.std.proofs.Common.{◌≡◌, ◌-◌, ◌++◌, map, drop}
use Rattle.sj_end.specs.Views.{post_at}
use Rattle.sj_rules.specs.Record.{other_end}
use Rattle.sj_rules.specs.Rows.{mails_of, numbered_carries}
use Rattle.sj_handover.proofs.deferrals.resend_as.Given as goal

-- what was put there, and what is left of the cache, are all
abbrev pub invariant-loop-number : goal.invariant-loop-number
invariant-loop-number l =
    map post_at l.posts.items ++ mails_of l.peer (numbered_carries (other_end l.end.id) l.conn l.end.taken l.number (drop (l.number - l.end.base) l.end.cache))
    ≡ map post_at l.initial.posts.items ++ mails_of l.peer (numbered_carries (other_end l.end.id) l.conn l.end.taken l.start (drop (l.start - l.end.base) l.end.cache))
