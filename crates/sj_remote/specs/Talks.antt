-- Answers to questions, and why there are others.
use Rattle.std.specs.Prelude.{◌≡◌, ◌⊎◌, ℕ, ⊤, List, [], map, Option, Err}
use Rattle.sj_resp.specs.Token.{TokenAt}
use Rattle.sj_streams.specs.Gathering.{IsReply}
use Rattle.sj_streams.specs.Reading.{Good, came_at}
use Rattle.sj_streams.specs.Views.{came_view}
use Rattle.sj_streams.specs.declared.replies.Came.{Came}
use Rattle.sj_remote.specs.Answers.{MeetsAdded, MeetsRead}
use Rattle.sj_remote.specs.Conn.{IsLost, IsNoReply, Replied}
use Rattle.sj_remote.specs.declared.conn.Conn.{Conn}
use Rattle.sj_remote.specs.declared.talk_refusal.TalkRefusal.{TalkRefusal}
use Rattle.sj_remote.specs.declared.talk_refusal.TalkRefusal.TheVariants as talks

module _ {S K : Type 0} where
  -- a whole reply came that has this sense
  pub record Heard (left : S → Option (List ℕ)) (old new : Conn S K) (Means : List TokenAt → Type 0) : Type 0 where
    pub tokens : List TokenAt
    pub replied : Replied left old new tokens
    pub whole : IsReply tokens
    pub means : Means tokens

  -- nothing more comes, bytes came that are no reply, or a reply came that means so; out of memory says nothing
  abbrev pub IsUnmet : (S → Option (List ℕ)) → (S → ℕ) → (S → Type 0) → (old new : Conn S K) → (TalkRefusal → List TokenAt → Type 0) → TalkRefusal → Type 0
  IsUnmet left faults has_ended old new Means talks.Lost = IsLost faults has_ended old new
  IsUnmet left faults has_ended old new Means talks.NoReply = IsNoReply left old new ⊎ Heard left old new (Means talks.NoReply)
  IsUnmet left faults has_ended old new Means talks.Gap = Heard left old new (Means talks.Gap)
  IsUnmet left faults has_ended old new Means (talks.Refused r) = Heard left old new (Means (talks.Refused r))
  IsUnmet left faults has_ended old new Means talks.NoMemory = ⊤

  -- the reply has what came of the streams
  pub record IsAnswer (left : S → Option (List ℕ)) (old new : Conn S K) (keys : List (List ℕ)) (seen : List ℕ) (came : List Came) : Type 0 where
    pub tokens : List TokenAt
    pub replied : Replied left old new tokens
    pub whole : IsReply tokens
    pub read : came_at keys seen tokens ≡ Good (map came_view came) []

-- why an entry wasn't added, and why nothing came of streams
abbrev pub IsNoAdd : TalkRefusal → List TokenAt → Type 0
IsNoAdd e = MeetsAdded (Err e)

abbrev pub IsNoRead : (keys : List (List ℕ)) → (seen : List ℕ) → TalkRefusal → List TokenAt → Type 0
IsNoRead keys seen e = MeetsRead (Err e) keys seen
