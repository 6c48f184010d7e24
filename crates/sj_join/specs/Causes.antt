-- Why a server's answer isn't what was asked for.
use Rattle.std.specs.Prelude.{◌≡◌, ◌⊎◌, ⊤, ℕ, List, [], Option, Some, None, option_map}
use Rattle.sj_base.specs.Stream.{Rose}
use Rattle.sj_remote.specs.Conn.{IsLost, IsNoReply, sink_of}
use Rattle.sj_remote.specs.declared.conn.Conn.{Conn}
use Rattle.sj_remote.specs.declared.talk_refusal.TalkRefusal.TheVariants as talks
use Rattle.sj_resp.specs.Token.{TokenAt}
use Rattle.sj_streams.specs.Answers.{failure_at, number_at, refusal_named, text_at, well_at}
use Rattle.sj_streams.specs.Reading.{CameAt, Read, Good, Bad, came_at}
use Rattle.sj_streams.specs.declared.answers.Refusal.{Refusal}
use Rattle.sj_streams.specs.declared.answers.Refusal.TheVariants as refusals
use Rattle.sj_streams.specs.declared.misread.Misread.TheVariants as misreads
use Rattle.sj_join.specs.Talk.{IsAnswered, keys_at, seen_none}
use Rattle.sj_join.specs.declared.refusal.JoinRefusal.{JoinRefusal}
use Rattle.sj_join.specs.declared.refusal.JoinRefusal.TheVariants as joins

-- the reply is an error of the server, whose first words mean that
abbrev pub IsError : Refusal → List TokenAt → Type 0
IsError r tokens = option_map refusal_named (failure_at tokens) ≡ Some r

-- nothing of that form is at the front
abbrev pub IsNone : {A : Type 0} → Read A → Type 0
IsNone {A} read = (x : A) (rest : List TokenAt) → read ≡ Good x rest → ⊥

-- it is no error, and nothing of that form is at the front
abbrev pub IsOdd : {A : Type 0} → List TokenAt → Read A → Type 0
IsOdd tokens read = (failure_at tokens ≡ None) × IsNone read

-- what a reply has that isn't the file's text: there is no file, it is an error, or of another shape
abbrev pub IsNoText : JoinRefusal → List TokenAt → Type 0
IsNoText joins.NoRun tokens = (rest : List TokenAt) × (text_at tokens ≡ Good None rest)
IsNoText (joins.Talk talks.NoReply) tokens = IsOdd tokens (text_at tokens)
IsNoText (joins.Talk (talks.Refused r)) tokens = IsError r tokens
IsNoText _ tokens = ⊥

-- what a reply has that isn't what stands in the streams: an entry isn't the next, it is an error, or of another shape
abbrev pub IsNoRead : (run : List ℕ) → (parties : ℕ) → JoinRefusal → List TokenAt → Type 0
IsNoRead run parties (joins.Talk talks.Gap) tokens = came_at (keys_at run parties) (seen_none parties) tokens ≡ Bad misreads.Gap
IsNoRead run parties (joins.Talk talks.NoReply) tokens =
    (failure_at tokens ≡ None) × ((came : List CameAt) → came_at (keys_at run parties) (seen_none parties) tokens ≡ Good came [] → ⊥)
IsNoRead run parties (joins.Talk (talks.Refused r)) tokens = IsError r tokens
IsNoRead run parties _ tokens = ⊥

-- to a password, another error means that it is refused
abbrev pub by_password : Refusal → Refusal
by_password refusals.Other = refusals.Password
by_password r = r

-- what a reply has that doesn't take the password
abbrev pub IsNoEntry : JoinRefusal → List TokenAt → Type 0
IsNoEntry (joins.Talk talks.NoReply) tokens = IsOdd tokens (well_at tokens)
IsNoEntry (joins.Talk (talks.Refused r)) tokens = option_map by_password (option_map refusal_named (failure_at tokens)) ≡ Some r
IsNoEntry _ tokens = ⊥

-- what a reply has that is no number
abbrev pub IsNoCount : JoinRefusal → List TokenAt → Type 0
IsNoCount (joins.Talk talks.NoReply) tokens = IsOdd tokens (number_at tokens)
IsNoCount (joins.Talk (talks.Refused r)) tokens = IsError r tokens
IsNoCount _ tokens = ⊥

-- out of memory says nothing. The connection is lost where a write or a read failed, or the end is there. There is no reply where
-- bytes came that are none, or it has another shape. Else a reply came that says so
module _ {S K : Type 0} (left : S → Option (List ℕ)) (faults : S → ℕ) (has_ended : S → Type 0) (unwritten : K → ℕ) where
  abbrev pub IsUnanswered : (old new : Conn S K) → (Says : JoinRefusal → List TokenAt → Type 0) → JoinRefusal → Type 0
  IsUnanswered old new Says joins.NoMemory = ⊤
  IsUnanswered old new Says (joins.Talk talks.Lost) = Rose (unwritten (sink_of old)) (unwritten (sink_of new)) ⊎ IsLost faults has_ended old new
  IsUnanswered old new Says (joins.Talk talks.NoReply) = IsNoReply left old new ⊎ IsAnswered left old new (Says (joins.Talk talks.NoReply))
  IsUnanswered old new Says e = IsAnswered left old new (Says e)

  -- no reply came, or one that is an error
  abbrev pub IsUnheard : (old new : Conn S K) → JoinRefusal → Type 0
  IsUnheard old new joins.NoMemory = ⊤
  IsUnheard old new (joins.Talk talks.Lost) = Rose (unwritten (sink_of old)) (unwritten (sink_of new)) ⊎ IsLost faults has_ended old new
  IsUnheard old new (joins.Talk talks.NoReply) = IsNoReply left old new
  IsUnheard old new (joins.Talk (talks.Refused r)) = IsAnswered left old new (IsError r)
  IsUnheard old new _ = ⊥
