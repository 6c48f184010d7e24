-- Refusals below as refusals of a join.
use Rattle.sj_remote.specs.declared.refusal.ConnRefusal.{ConnRefusal}
use Rattle.sj_remote.specs.declared.refusal.ConnRefusal.TheVariants as conns
use Rattle.sj_remote.specs.declared.talk_refusal.TalkRefusal.{TalkRefusal}
use Rattle.sj_remote.specs.declared.talk_refusal.TalkRefusal.TheVariants as talks
use Rattle.sj_streams.specs.declared.misread.Misread.{Misread}
use Rattle.sj_streams.specs.declared.misread.Misread.TheVariants as misreads
use Rattle.sj_join.specs.declared.refusal.JoinRefusal.{JoinRefusal}
use Rattle.sj_join.specs.declared.refusal.JoinRefusal.TheVariants as joins

abbrev pub refusal_of_conn : ConnRefusal → JoinRefusal
refusal_of_conn conns.Lost = joins.Talk talks.Lost
refusal_of_conn conns.NoReply = joins.Talk talks.NoReply
refusal_of_conn conns.NoMemory = joins.NoMemory

abbrev pub refusal_of_talk : TalkRefusal → JoinRefusal
refusal_of_talk talks.NoMemory = joins.NoMemory
refusal_of_talk talks.Lost = joins.Talk talks.Lost
refusal_of_talk talks.NoReply = joins.Talk talks.NoReply
refusal_of_talk talks.Gap = joins.Talk talks.Gap
refusal_of_talk (talks.Refused r) = joins.Talk (talks.Refused r)

abbrev pub refusal_of_misread : Misread → JoinRefusal
refusal_of_misread misreads.NoMemory = joins.NoMemory
refusal_of_misread misreads.Shape = joins.Talk talks.NoReply
refusal_of_misread misreads.Key = joins.Talk talks.NoReply
refusal_of_misread misreads.Gap = joins.Talk talks.NoReply
