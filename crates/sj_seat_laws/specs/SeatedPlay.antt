-- The play of a file in which a party may be played by code of its own.
use Rattle.std.specs.Prelude.{nat_lt, Bool, true, not, length, is_some, Option}
use Rattle.sj_base.specs.declared.EndId.{EndId}
use Rattle.sj_base.specs.declared.Msg.{Msg}
use Rattle.sj_lang.specs.Place.{Place}
use Rattle.sj_lang.specs.FileAt.{FileAt}
use Rattle.sj_semantics.specs.Program.{Program}
use Rattle.sj_rules.specs.Limits.{limit_of_steps}
use Rattle.sj_rules.specs.Node.{Play, Want}
use Rattle.sj_rules.specs.Party.{binds, play_of}
use Rattle.sj_seat_laws.specs.Calls.{SeatedAt, place_held}
use Rattle.sj_seat_laws.specs.Guards.{called, opened, seated_want}

-- a party of a run: by the statements of the file, or by code of its own
pub data Player : Type 0 where
  written : Program → Player
  seated : SeatedAt → Player

abbrev pub player_wants : FileAt → Player → Want Place
player_wants file (written g) = (play_of file).wants g
player_wants file (seated s) = seated_want s

abbrev pub player_goes : FileAt → Player → Option Msg → Player
player_goes file (written g) taken = written ((play_of file).goes g taken)
player_goes file (seated s) taken = seated (called s taken)

abbrev pub player_opened : FileAt → Player → EndId → Player
player_opened file (written g) e = written ((play_of file).opened g e)
player_opened file (seated s) e = seated (opened s e)

-- code of its own takes whatever is next
abbrev pub player_fits : FileAt → Player → Msg → Bool
player_fits file (written g) m = (play_of file).fits g m
player_fits file (seated s) m = true

abbrev pub player_worn : FileAt → Player → Bool
player_worn file (written g) = (play_of file).is_worn g
player_worn file (seated s) = not (nat_lt s.steps limit_of_steps)

-- the play of the file, party by party
abbrev pub seated_play : FileAt → Play Place Player
seated_play file = record {
  next = (play_of file).next;
  is_over = (play_of file).is_over;
  blank = (play_of file).blank;
  dual = (play_of file).dual;
  wants = player_wants file;
  goes = player_goes file;
  opened = player_opened file;
  fits = player_fits file;
  is_worn = player_worn file;
  parties = length file.parties;
}

-- a party binds the ends that it has names for, or holds
abbrev pub player_binds : Player → EndId → Bool
player_binds (written g) e = binds g e
player_binds (seated s) e = is_some (place_held s.ends e)
