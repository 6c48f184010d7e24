-- Room for names and texts, one call after another.
use Rattle.std.proofs.Common.{◌<◌, length, arith}
use Rattle.sj_lang.specs.declared.file.Names.{Names}
use Rattle.sj_grammar.specs.Reading.{Reading}
use Rattle.sj_expr.specs.Read.{Grows}
use Rattle.sj_proto.proofs.ReadLemmas.{Extends-refl}
use Rattle.sj_party.specs.Read.{KeepsRoom}
use Rattle.sj_party.specs.Rooms.{Uses}

pub uses_on : (a b c : Names) (r q u : Reading) → Uses 0 0 a r b q → Uses 0 0 b q c u → Uses 0 0 a r c u
uses_on a b c r q u h k = let i = h.words in let j = h.texts in let l = k.words in let m = k.texts in record { words = omega arith; texts = omega arith }

-- a token gives back what the rest of a statement takes
pub keeps_on : (a b c : Names) (r q u z : Reading) → KeepsRoom a r b q → length u.ahead < length q.ahead → Uses 1 0 b u c z → KeepsRoom a r c z
keeps_on a b c r q u z h s k = let i = h.words in let j = h.texts in let l = k.words in let m = k.texts in record { words = omega arith; texts = omega arith }

pub keeps_itself : (a : Names) (r : Reading) → KeepsRoom a r a r
keeps_itself a r = record { words = omega arith; texts = omega arith }

pub grows_itself : (a : Names) → Grows a a
grows_itself a = record { words = Extends-refl a.words; texts = Extends-refl a.texts }
