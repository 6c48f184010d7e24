-- Why a server's answer isn't what a party that is played asked for.
use Rattle.std.specs.Prelude.{◌≡◌, ◌⊎◌, ⊤, ℕ, ℤ, List, [], ◌∷◌, Option, Some, None, option_map}
use Rattle.sj_base.specs.Stream.{Rose}
use Rattle.sj_remote.specs.Conn.{IsLost, IsNoReply, sink_of}
use Rattle.sj_remote.specs.Talks.{Heard}
use Rattle.sj_remote.specs.declared.conn.Conn.{Conn}
use Rattle.sj_resp.specs.Token.{TokenAt, Bulk}
use Rattle.sj_streams.specs.Answers.{failure_at, number_at, refusal_named, text_at, well_at}
use Rattle.sj_streams.specs.Reading.{CameAt, Read, Bad, Good, came_at}
use Rattle.sj_streams.specs.declared.answers.Refusal.{Refusal}
use Rattle.sj_streams.specs.declared.answers.Refusal.TheVariants as refusals
use Rattle.sj_streams.specs.declared.misread.Misread.TheVariants as misreads
use Rattle.sj_remote_run.specs.declared.refusal.PlayRefusal.{PlayRefusal}
use Rattle.sj_remote_run.specs.declared.refusal.PlayRefusal.TheVariants as plays

-- the reply is an error of the server, whose first words mean that
abbrev pub IsError : Refusal → List TokenAt → Type 0
IsError r tokens = option_map refusal_named (failure_at tokens) ≡ Some r

-- it is an error that means that a party isn't played any further
abbrev pub IsErrorFor : PlayRefusal → List TokenAt → Type 0
IsErrorFor plays.NoServer tokens = IsError refusals.Away tokens
IsErrorFor plays.Password tokens = IsError refusals.Password tokens
IsErrorFor plays.Overtaken tokens = IsError refusals.Late tokens
IsErrorFor plays.Server tokens = IsError refusals.Full tokens ⊎ IsError refusals.Other tokens
IsErrorFor _ tokens = ⊥

-- nothing of that form is at the front
abbrev pub IsNone : {A : Type 0} → Read A → Type 0
IsNone {A} read = (x : A) (rest : List TokenAt) → read ≡ Good x rest → ⊥

-- it is no error, and nothing of that form is at the front
abbrev pub IsOdd : {A : Type 0} → List TokenAt → Read A → Type 0
IsOdd tokens read = (failure_at tokens ≡ None) × IsNone read

-- what a reply to the password has that doesn't take it: any error but that of a server that is away refuses it
abbrev pub IsNoEntry : PlayRefusal → List TokenAt → Type 0
IsNoEntry plays.NoServer tokens = IsError refusals.Away tokens
IsNoEntry plays.Password tokens = (r : Refusal) × IsError r tokens × (r ≡ refusals.Away → ⊥)
IsNoEntry plays.NoReply tokens = IsOdd tokens (well_at tokens)
IsNoEntry _ tokens = ⊥

-- what a reply to the run's new file has that is no number
abbrev pub IsNoShare : PlayRefusal → List TokenAt → Type 0
IsNoShare plays.NoReply tokens = IsOdd tokens (number_at tokens)
IsNoShare e tokens = IsErrorFor e tokens

-- what a reply to the question for the file has that isn't this text: another one, or none
abbrev pub IsNoFile : (text : List ℕ) → PlayRefusal → List TokenAt → Type 0
IsNoFile text plays.NoReply tokens = IsOdd tokens (text_at tokens)
IsNoFile text plays.OtherFile tokens = (shared : Option (List ℕ)) × (rest : List TokenAt) × (text_at tokens ≡ Good shared rest) × (shared ≡ Some text → ⊥)
IsNoFile text e tokens = IsErrorFor e tokens

-- what a reply to an entry that is added has that isn't its name
abbrev pub IsNotAdded : PlayRefusal → List TokenAt → Type 0
IsNotAdded plays.NoReply tokens = (failure_at tokens ≡ None) × ((name : List ℕ) → tokens ≡ Bulk name ∷ [] → ⊥)
IsNotAdded e tokens = IsErrorFor e tokens

-- something came of that party's stream
abbrev pub HasOwn : (party : ℕ) → List CameAt → Type 0
HasOwn party [] = ⊥
HasOwn party (c ∷ cs) = (c.stream ≡ party) ⊎ HasOwn party cs

-- what a reply to a read of streams has that isn't what comes next of them; or an entry of the own one came, which another process added
abbrev pub IsNotRead : (keys : List (List ℕ)) → (seen : List ℕ) → (party : ℕ) → PlayRefusal → List TokenAt → Type 0
IsNotRead keys seen party plays.NoReply tokens = (failure_at tokens ≡ None) × ((cs : List CameAt) → came_at keys seen tokens ≡ Good cs [] → ⊥)
IsNotRead keys seen party plays.Overtaken tokens = IsErrorFor plays.Overtaken tokens ⊎ ((cs : List CameAt) × (came_at keys seen tokens ≡ Good cs []) × HasOwn party cs)
IsNotRead keys seen party plays.NoFrame tokens = came_at keys seen tokens ≡ Bad misreads.Gap
IsNotRead keys seen party e tokens = IsErrorFor e tokens

-- it is this text
abbrev pub IsFile : (text : List ℕ) → List TokenAt → Type 0
IsFile text tokens = (rest : List TokenAt) × (text_at tokens ≡ Good (Some text) rest)

-- it begins with a number
abbrev pub IsNumber : List TokenAt → Type 0
IsNumber tokens = (n : ℤ) × (rest : List TokenAt) × (number_at tokens ≡ Good n rest)

-- what a reply answers: the password, the run's new file, the question for the file, which has to be that text, an entry that is added,
-- or a read of streams after what was seen of them
pub data QuestionAt : Type 0 where
  ToSign : QuestionAt
  ToShare : QuestionAt
  ToGet : (text : List ℕ) → QuestionAt
  ToAdd : QuestionAt
  ToRead : (keys : List (List ℕ)) → (seen : List ℕ) → (party : ℕ) → QuestionAt

-- what a reply has that doesn't answer it
abbrev pub IsNoAnswer : QuestionAt → PlayRefusal → List TokenAt → Type 0
IsNoAnswer ToSign = IsNoEntry
IsNoAnswer ToShare = IsNoShare
IsNoAnswer (ToGet text) = IsNoFile text
IsNoAnswer ToAdd = IsNotAdded
IsNoAnswer (ToRead keys seen party) = IsNotRead keys seen party

-- out of memory says nothing. The connection is lost where a write or a read failed, or the end is there. There is no reply where bytes
-- came that are none, or it has another shape. Else a reply came that says so
module _ {S K : Type 0} (left : S → Option (List ℕ)) (faults : S → ℕ) (has_ended : S → Type 0) (unwritten : K → ℕ) where
  abbrev pub IsLostIn : (old new : Conn S K) → Type 0
  IsLostIn old new = Rose (unwritten (sink_of old)) (unwritten (sink_of new)) ⊎ IsLost faults has_ended old new

  -- no reply came
  abbrev pub IsSilent : (old new : Conn S K) → PlayRefusal → Type 0
  IsSilent old new plays.NoMemory = ⊤
  IsSilent old new plays.Lost = IsLostIn old new
  IsSilent old new plays.NoReply = IsNoReply left old new
  IsSilent old new _ = ⊥

  -- no reply came, or one that says so
  abbrev pub IsUnanswered : (old new : Conn S K) → (Says : PlayRefusal → List TokenAt → Type 0) → PlayRefusal → Type 0
  IsUnanswered old new Says plays.NoMemory = ⊤
  IsUnanswered old new Says plays.Lost = IsLostIn old new
  IsUnanswered old new Says plays.NoReply = IsNoReply left old new ⊎ Heard left old new (Says plays.NoReply)
  IsUnanswered old new Says e = Heard left old new (Says e)

-- the run has the file: a number came, and then the file's text
abbrev pub IsShared : {S K : Type 0} → (left : S → Option (List ℕ)) → (text : List ℕ) → (old new : Conn S K) → Type 0
IsShared {S} {K} left text old new = (mid : Conn S K) × Heard left old mid IsNumber × Heard left mid new (IsFile text)
