use Rattle.sj_proto.specs.Found.{IsPosition}
use Rattle.std.proofs.Common.{take}
use Rattle.sj_grammar.specs.Reading.{column_number}
use Rattle.sj_wanted.proofs.trial.last_line.Given as goal

abbrev pub invariant-loop-i : goal.invariant-loop-i
invariant-loop-i l = IsPosition l.front l.i l.line (column_number (take l.i l.front))
