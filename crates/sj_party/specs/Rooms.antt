-- What names and texts may still come, where several come one after another.
use Rattle.std.specs.Prelude.{ℕ, ◌+◌, ◌≤◌}
use Rattle.sj_lang.specs.declared.file.Names.{Names}
use Rattle.sj_grammar.specs.Reading.{Reading}
use Rattle.sj_proto.specs.Parsed.{need, room_for_names}

-- so many names and texts may come before the next other token
pub record HasRoomFor (k : ℕ) (names : Names) (r : Reading) : Type 0 where
  pub words : need names.words r + k ≤ room_for_names + 1
  pub texts : need names.texts r + k ≤ room_for_names + 1

-- so many names and texts took room, and tokens gave so much back
pub record Uses (k back : ℕ) (old : Names) (r : Reading) (new : Names) (q : Reading) : Type 0 where
  pub words : need new.words q + back ≤ need old.words r + k
  pub texts : need new.texts q + back ≤ need old.texts r + k
