-- The tokens of a reply, as they come.
use Rattle.std.specs.Prelude.{◌≡◌, ◌<◌, ℕ, ◌+◌, ◌-◌, ◌^◌, min, List, [], ◌∷◌, ◌++◌, ⊤}
use Rattle.sj_resp.specs.Command.{AreRead}
use Rattle.sj_resp.specs.Token.{TokenAt, Array}
use Rattle.sj_streams.specs.Words.{tokens_at}
use Rattle.sj_streams.specs.declared.reply.Reply.{Reply}

-- how many replies a token has as its parts
abbrev pub parts_of : TokenAt → ℕ
parts_of (Array n) = n
parts_of _ = 0

-- how many replies are still to come after tokens; the count stays at its last value
unfoldable pub due_after : ℕ → List TokenAt → ℕ
due_after n [] = n
due_after n (t ∷ ts) = due_after (min (n - 1 + parts_of t) (2 ^ 64 - 1)) ts

-- before each of the tokens a reply is still to come
unfoldable pub AreDue : ℕ → List TokenAt → Type 0
AreDue n [] = ⊤
AreDue n (t ∷ ts) = (0 < n) × AreDue (min (n - 1 + parts_of t) (2 ^ 64 - 1)) ts

-- they are one reply: after the last of them nothing is still to come, and before each of them something is
pub record IsReply (ts : List TokenAt) : Type 0 where
  pub whole : due_after 1 ts ≡ 0
  pub needed : AreDue 1 ts

-- what came of a reply
abbrev pub tokens_in : Reply → List TokenAt
tokens_in r = tokens_at r.tokens.items

-- how many replies are still to come, those within others too
abbrev pub due_in : Reply → ℕ
due_in r = r.due

-- tokens were read from the bytes, each while a reply was still to come, and go after those that came before
pub record Took (old new : Reply) (bytes rest : List ℕ) : Type 0 where
  pub tokens : List TokenAt
  pub read : AreRead tokens bytes rest
  pub after : tokens_in new ≡ tokens_in old ++ tokens
  pub due : due_in new ≡ due_after (due_in old) tokens
  pub needed : AreDue (due_in old) tokens
