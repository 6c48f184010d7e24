-- What a call of the parser leaves due.
use Rattle.std.specs.Prelude.{ℕ}
use Rattle.sj_lang.specs.Place.{Place, done, message, choice, repeat}
use Rattle.sj_grammar.specs.ProtocolDues.{ProtocolDue, more, maybe}

-- after items that may be none
abbrev pub due_behind : ℕ → Place → ProtocolDue
due_behind o done = maybe o
due_behind o (message w k rest) = more o
due_behind o (choice w a rest) = more o
due_behind o (repeat w p rest) = more o
