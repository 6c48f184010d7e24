-- What a step changes in a plain world.
use Rattle.std.specs.Prelude.{◌≡◌, ℕ, ◌<◌, false, ◌==◌, if◌then◌else◌, List}
use Rattle.sj_base.specs.declared.EndId.{EndId}
use Rattle.sj_base.specs.declared.Msg.{Msg}
use Rattle.sj_rules.specs.Record.{other_end, is_same_end}
use Rattle.sj_rules.specs.PlainSide.{PlainAt, untaken_of, CountsFit}
use Rattle.sj_rules.specs.Acts.{plain_parked}

-- what waits for each end
abbrev pub waits_of : {P Q : Type 0} → PlainAt P Q → EndId → List Msg
waits_of plain e = untaken_of (plain.sides (other_end e)) (plain.sides e)

-- the program of one party goes on, and no session is opened or accepted
pub record Proceeds {P Q : Type 0} (plain plain' : PlainAt P Q) (p : ℕ) (q : Q) : Type 0 where
  pub here : plain'.programs p ≡ q
  pub away : (k : ℕ) → (k == p) ≡ false → plain'.programs k ≡ plain.programs k
  pub requests : (k : ℕ) → plain'.requests k ≡ plain.requests k
  pub offers : (from to : ℕ) → plain'.offers from to ≡ plain.offers from to
  pub offered : (e : EndId) → (plain'.sides e).offered ≡ (plain.sides e).offered

-- counts of a plain world: no more is taken than was sent, and hops stay below the limit of numbers
abbrev pub CountsHold : {P Q : Type 0} → PlainAt P Q → Type 0
CountsHold plain = (e : EndId) → e.side < 2 → CountsFit (plain.sides (other_end e)) (plain.sides e)

-- the plain world where only the hops of d have risen
abbrev pub plain_with_hop : {P Q : Type 0} → PlainAt P Q → EndId → PlainAt P Q
plain_with_hop plain d = record plain { sides = λ e. if is_same_end e d then plain_parked (plain.sides d) else plain.sides e }
