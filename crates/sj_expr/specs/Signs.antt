-- Operators as tokens.
use Rattle.std.specs.Prelude.{ℕ, List, codes}
use Rattle.sj_lang.specs.declared.party.Op.{Op}
use Rattle.sj_lang.specs.declared.party.Op.TheVariants.{Add, Sub, Mul, Less, LessEq, Equal}

abbrev pub op_piece : Op → List ℕ
op_piece Add = codes "+"
op_piece Sub = codes "-"
op_piece Mul = codes "*"
op_piece Less = codes "<"
op_piece LessEq = codes "<="
op_piece Equal = codes "=="

-- between two terms
abbrev pub IsSign : Op → Type 0
IsSign Add = Unit {0}
IsSign Sub = Unit {0}
IsSign Mul = ⊥
IsSign Less = ⊥
IsSign LessEq = ⊥
IsSign Equal = ⊥

-- between two sums
abbrev pub IsComparison : Op → Type 0
IsComparison Add = ⊥
IsComparison Sub = ⊥
IsComparison Mul = ⊥
IsComparison Less = Unit {0}
IsComparison LessEq = Unit {0}
IsComparison Equal = Unit {0}
