-- What the tokens of a whole reply answer.
use Rattle.std.specs.Prelude.{◌≡◌, ℕ, ⊤, List, [], ◌∷◌, map, Some, None, option_map, Result, Ok, Err, Vec}
use Rattle.std.specs.declared.alloc.Global.{Global}
use Rattle.sj_resp.specs.Token.{TokenAt, Bulk}
use Rattle.sj_streams.specs.Answers.{failure_at, refusal_named}
use Rattle.sj_streams.specs.Reading.{CameAt, Good, Bad, came_at}
use Rattle.sj_streams.specs.Views.{came_view}
use Rattle.sj_streams.specs.declared.misread.Misread.TheVariants as misreads
use Rattle.sj_streams.specs.declared.replies.Came.{Came}
use Rattle.sj_remote.specs.declared.talk_refusal.TalkRefusal.{TalkRefusal}
use Rattle.sj_remote.specs.declared.talk_refusal.TalkRefusal.TheVariants as talks

-- to a read: what came, with no token after it; or why not. What is no reply to it isn't an error of the server
abbrev pub MeetsRead : Result (Vec Came Global) TalkRefusal → (keys : List (List ℕ)) → (seen : List ℕ) → List TokenAt → Type 0
MeetsRead (Ok came) keys seen ts = came_at keys seen ts ≡ Good (map came_view came.items) []
MeetsRead (Err (talks.Refused r)) keys seen ts = option_map refusal_named (failure_at ts) ≡ Some r
MeetsRead (Err talks.Gap) keys seen ts = came_at keys seen ts ≡ Bad misreads.Gap
MeetsRead (Err talks.NoReply) keys seen ts = (failure_at ts ≡ None) × ((cs : List CameAt) → came_at keys seen ts ≡ Good cs [] → ⊥)
MeetsRead (Err talks.NoMemory) keys seen ts = ⊤
MeetsRead (Err talks.Lost) keys seen ts = ⊥

-- to an entry that is added: its name; or why not
abbrev pub MeetsAdded : Result (Unit {0}) TalkRefusal → List TokenAt → Type 0
MeetsAdded (Ok u) ts = (name : List ℕ) × (ts ≡ Bulk name ∷ [])
MeetsAdded (Err (talks.Refused r)) ts = option_map refusal_named (failure_at ts) ≡ Some r
MeetsAdded (Err talks.NoReply) ts = (failure_at ts ≡ None) × ((name : List ℕ) → ts ≡ Bulk name ∷ [] → ⊥)
MeetsAdded (Err talks.NoMemory) ts = ⊤
MeetsAdded (Err talks.Gap) ts = ⊥
MeetsAdded (Err talks.Lost) ts = ⊥
