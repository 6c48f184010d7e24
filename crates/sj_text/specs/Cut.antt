-- What is left of a text where memory is short.
use Rattle.std.specs.Prelude.{◌≡◌, ℕ, List, ◌++◌}

-- the old text, and then the beginning of what was to be appended
pub record IsCutShort (old whole new : List ℕ) : Type 0 where
  pub some : List ℕ
  pub rest : List ℕ
  pub appended : new ≡ old ++ some
  pub begins : whole ≡ some ++ rest
