-- A table to which an entry was added.
use Rattle.std.proofs.Common.{◌≡◌, ℕ, ◌+◌, ◌≤◌, Bool, true, false, List, [], ◌∷◌, ◌++◌, length, sym, ◌∙◌, arith, append-nil, length-append}
use Rattle.std.specs.Prelude.{nat_lt, if◌then◌else◌}
use Rattle.sj_proto.specs.Parsed.{Extends}

-- it keeps what it has, and has one entry more at most
pub one_added : (old new : List (List ℕ)) (w : List ℕ) (n : ℕ) → new ≡ (if nat_lt n (length old) then old else old ++ w ∷ []) → Extends old new × (length new ≤ length old + 1)
one_added old new w n e = by_test (nat_lt n (length old)) e
  where
    by_test : (b : Bool) → new ≡ (if b then old else old ++ w ∷ []) → Extends old new × (length new ≤ length old + 1)
    by_test true same = (record { more = []; whole = same ∙ sym (append-nil old) }, rw same (omega arith))
    by_test false same = (record { more = w ∷ []; whole = same }, rw same (omega (arith, length-append old (w ∷ []))))
