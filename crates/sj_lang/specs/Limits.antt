-- How much a file may have.
use Rattle.std.specs.Prelude.{ℕ, ◌≤◌, length, All}
use Rattle.sj_lang.specs.FileAt.{FileAt}
use Rattle.sj_lang.specs.ItemCount.{item_count}

-- bytes of a file
abbrev pub file_limit : ℕ
file_limit = 65536

-- bytes of a log, and of a file with a log after it
abbrev pub source_limit : ℕ
source_limit = 16777216

pub record Limits : Type 0 where
  pub protocols : ℕ
  pub parties : ℕ
  pub connects : ℕ
  -- in a protocol, inner ones counted
  pub items : ℕ
  -- of a protocol, of blocks and of an expression, each on its own
  pub nesting : ℕ
  -- in a choice
  pub labels : ℕ
  -- numbers, texts, names, `true` and `false` in an expression
  pub operands : ℕ
  -- bytes
  pub name : ℕ
  pub text : ℕ

abbrev pub limits : Limits
limits = record { protocols = 256; parties = 16; connects = 64; items = 1024; nesting = 32; labels = 16; operands = 256; name = 64; text = 255 }

-- the file is within these limits, as far as protocols and their items, parties and connections go
pub record IsWithin (L : Limits) (f : FileAt) : Type 0 where
  pub protocols : length f.protocols ≤ L.protocols
  pub items : All (λ p. item_count p.body ≤ L.items) f.protocols
  pub parties : length f.parties ≤ L.parties
  pub connects : length f.connects ≤ L.connects
