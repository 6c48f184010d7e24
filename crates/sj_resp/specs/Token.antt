-- Tokens: replies without parts, and the heads of those with parts.
use Rattle.std.specs.Prelude.{ℕ, ℤ, List}
use Rattle.sj_resp.specs.declared.token.Token.{Token}
use Rattle.sj_resp.specs.declared.token.Token.TheVariants as tokens

-- a token, with its bytes and its number as plain values
pub data TokenAt : Type 0 where
  Simple : List ℕ → TokenAt
  Failed : List ℕ → TokenAt
  Int : ℤ → TokenAt
  Bulk : List ℕ → TokenAt
  Null : TokenAt
  Array : ℕ → TokenAt

-- the plain value of a token
abbrev pub token_at : Token → TokenAt
token_at (tokens.Simple bytes) = Simple bytes.items
token_at (tokens.Failed bytes) = Failed bytes.items
token_at (tokens.Int i) = Int i
token_at (tokens.Bulk bytes) = Bulk bytes.items
token_at tokens.Null = Null
token_at (tokens.Array n) = Array n
