use Rattle.sj_lang.specs.FileView.{file_of}
use Rattle.sj_seat_local.specs.Parties.{IsNameOf, IsNone}
use Rattle.sj_seat_local.proofs.parties.of_name.Given as goal

abbrev pub invariant-loop-party : goal.invariant-loop-party
invariant-loop-party l = IsNone (IsNameOf (file_of l.file) l.word) l.party
