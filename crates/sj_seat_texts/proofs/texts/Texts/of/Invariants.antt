use Rattle.std.proofs.Common.{◌≡◌, take}
use Rattle.sj_seat_texts.specs.Once.{IsEachOnce}
use Rattle.sj_seat_texts.proofs.texts.Texts.of.Given as goal

abbrev pub invariant-loop-n : goal.invariant-loop-n
invariant-loop-n l = IsEachOnce l.file → l.texts ≡ take l.n l.file
