-- Where a reader stands after a call, refused or not.
use Rattle.std.specs.Prelude.{◌≡◌, ◌≤◌, ◌++◌, length}
use Rattle.sj_grammar.specs.Reading.{Reading}

-- in the same text, where it stood or further on: what was read isn't read again
pub record Advances (old new : Reading) : Type 0 where
  pub text : new.before ++ new.ahead ≡ old.before ++ old.ahead
  pub onward : length new.ahead ≤ length old.ahead
