-- Words as lists of bytes, and tokens as plain values.
use Rattle.std.specs.Prelude.{ℕ, List, map, Vec}
use Rattle.std.specs.declared.alloc.Global.{Global}
use Rattle.sj_resp.specs.Token.{TokenAt, token_at}
use Rattle.sj_resp.specs.declared.token.Token.{Token}

abbrev pub words_at : List (Vec ℕ Global) → List (List ℕ)
words_at words = map (λ w. w.items) words

abbrev pub tokens_at : List Token → List TokenAt
tokens_at tokens = map token_at tokens
