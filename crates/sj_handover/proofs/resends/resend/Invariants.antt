use Rattle.std.proofs.Common.{◌≡◌, ◌+◌, ◌-◌, ◌++◌, map, drop, vec_len, vec_capacity}
use Rattle.sj_end.specs.Views.{post_at}
use Rattle.sj_rules.specs.Record.{other_end}
use Rattle.sj_rules.specs.Rows.{mails_of, numbered_carries, resent_posts}
use Rattle.sj_handover.proofs.resends.resend.Given as goal

-- what was put there, and what is left of the cache, are all
abbrev pub invariant-loop-number : goal.invariant-loop-number
invariant-loop-number l = record {
  posts : map post_at l.posts.items ++ mails_of l.end.peer (numbered_carries (other_end l.end.id) l.end.conn l.end.taken l.number (drop (l.number - l.end.base) l.end.cache))
      ≡ map post_at l.initial.posts.items ++ resent_posts l.end l.start;
  len : vec_len l.posts + l.start ≡ vec_len l.initial.posts + l.number;
  room : vec_capacity l.posts ≡ vec_capacity l.initial.posts;
}
