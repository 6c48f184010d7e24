-- What each refusal below means for a party that is played.
use Rattle.sj_engine.specs.declared.refusal.SpellRefusal.{SpellRefusal}
use Rattle.sj_engine.specs.declared.refusal.SpellRefusal.TheVariants as spells
use Rattle.sj_remote.specs.declared.refusal.ConnRefusal.{ConnRefusal}
use Rattle.sj_remote.specs.declared.refusal.ConnRefusal.TheVariants as conns
use Rattle.sj_remote.specs.declared.talk_refusal.TalkRefusal.{TalkRefusal}
use Rattle.sj_remote.specs.declared.talk_refusal.TalkRefusal.TheVariants as talks
use Rattle.sj_streams.specs.declared.answers.Refusal.{Refusal}
use Rattle.sj_streams.specs.declared.answers.Refusal.TheVariants as refusals
use Rattle.sj_streams.specs.declared.misread.Misread.{Misread}
use Rattle.sj_streams.specs.declared.misread.Misread.TheVariants as misreads
use Rattle.sj_remote_run.specs.declared.refusal.PlayRefusal.{PlayRefusal}
use Rattle.sj_remote_run.specs.declared.refusal.PlayRefusal.TheVariants as plays

-- a number that is taken means that another process wrote it
abbrev pub refusal_means : Refusal → PlayRefusal
refusal_means refusals.Late = plays.Overtaken
refusal_means refusals.Password = plays.Password
refusal_means refusals.Away = plays.NoServer
refusal_means refusals.Full = plays.Server
refusal_means refusals.Other = plays.Server

-- to a password, each error but that of a server that is away means that it is refused
abbrev pub password_means : Refusal → PlayRefusal
password_means refusals.Late = plays.Password
password_means refusals.Password = plays.Password
password_means refusals.Away = plays.NoServer
password_means refusals.Full = plays.Password
password_means refusals.Other = plays.Password

abbrev pub conn_means : ConnRefusal → PlayRefusal
conn_means conns.Lost = plays.Lost
conn_means conns.NoReply = plays.NoReply
conn_means conns.NoMemory = plays.NoMemory

abbrev pub talk_means : TalkRefusal → PlayRefusal
talk_means talks.Lost = plays.Lost
talk_means talks.NoReply = plays.NoReply
talk_means talks.Gap = plays.NoFrame
talk_means (talks.Refused r) = refusal_means r
talk_means talks.NoMemory = plays.NoMemory

abbrev pub misread_means : Misread → PlayRefusal
misread_means misreads.NoMemory = plays.NoMemory
misread_means misreads.Shape = plays.NoReply
misread_means misreads.Key = plays.NoReply
misread_means misreads.Gap = plays.NoReply

abbrev pub spell_means : SpellRefusal → PlayRefusal
spell_means spells.Unlawful = plays.TooLong
spell_means spells.NoMemory = plays.NoMemory
