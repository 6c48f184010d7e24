-- What callers see of a talk.
use Rattle.sj_talk.specs.declared.talk.Talk.{Talk}
use Rattle.sj_talk.specs.Play.{talk_at}
use Rattle.sj_talk.specs.TalkWorld.{TalkWorld}

-- the file, the played party, the world, the ends that it holds, and the lines that were accepted
abbrev pub talk_of : Talk → TalkWorld
talk_of t = talk_at t
