-- Expressions by their pieces: each is read in one way.
use Rattle.std.proofs.Common.{ℕ, Bool, List, [], ◌∷◌, Option, Some, None}
use Rattle.std.specs.Prelude.{codes, if◌then◌else◌}
use Rattle.std.specs.Str.{bytes_eq}
use Rattle.sj_lang.specs.declared.party.Op.{Op}
use Rattle.sj_lang.specs.declared.party.Op.TheVariants.{Add, Sub, Mul, Less, LessEq, Equal}
use Rattle.sj_grammar.specs.Positions.{Pieces}
use Rattle.sj_grammar.specs.ExpressionDues.{is_operand}

-- an expression whose operands are their pieces
pub data Shape : Type 0 where
  leaf : List ℕ → Shape
  minus : List ℕ → Shape
  negated : Shape → Shape
  joined : Op → Shape → Shape → Shape

-- what stands before an operand that is awaited
pub data OpenOperand : Type 0 where
  negation : OpenOperand
  group : OpenOperand
  product : Shape → OpenOperand
  addition : Op → Shape → OpenOperand
  comparison : Op → Shape → OpenOperand

-- a factor is wanted; or the number after a minus; or something is there that may go on
pub data State : Type 0 where
  wants : List OpenOperand → State
  number : List OpenOperand → State
  has : Shape → List OpenOperand → State

pub data Move : Type 0 where
  moves : State → Move
  ends : Move

-- a token after a factor
pub data Sign : Type 0 where
  star : Sign
  plus : Op → Sign
  compare : Op → Sign
  close : Sign
  other : Sign

abbrev pub sign_by : Bool → Bool → Bool → Bool → Bool → Bool → Bool → Sign
sign_by mul add sub less less_eq equal closes =
    if mul then star else (if add then plus Add else (if sub then plus Sub else (if less then compare Less else (if less_eq then compare LessEq else (if equal then compare Equal else (if closes then close else other))))))

abbrev pub sign_of : List ℕ → Sign
sign_of s = sign_by (bytes_eq s (codes "*")) (bytes_eq s (codes "+")) (bytes_eq s (codes "-")) (bytes_eq s (codes "<")) (bytes_eq s (codes "<=")) (bytes_eq s (codes "==")) (bytes_eq s (codes ")"))

-- what was wanted for a `not`, a product, a sum, a comparison is there
abbrev pub settled : Shape → List OpenOperand → State
settled s [] = has s []
settled s (negation ∷ k) = settled (negated s) k
settled s (group ∷ k) = has s (group ∷ k)
settled s (product l ∷ k) = has s (product l ∷ k)
settled s (addition op l ∷ k) = has s (addition op l ∷ k)
settled s (comparison op l ∷ k) = has s (comparison op l ∷ k)

abbrev pub Held : Type 0
Held = Shape × List OpenOperand

abbrev pub up_product : Shape → List OpenOperand → Held
up_product s [] = (s, [])
up_product s (negation ∷ k) = (s, negation ∷ k)
up_product s (group ∷ k) = (s, group ∷ k)
up_product s (product l ∷ k) = (joined Mul l s, k)
up_product s (addition op l ∷ k) = (s, addition op l ∷ k)
up_product s (comparison op l ∷ k) = (s, comparison op l ∷ k)

abbrev pub up_addition : Shape → List OpenOperand → Held
up_addition s [] = (s, [])
up_addition s (negation ∷ k) = (s, negation ∷ k)
up_addition s (group ∷ k) = (s, group ∷ k)
up_addition s (product l ∷ k) = (s, product l ∷ k)
up_addition s (addition op l ∷ k) = (joined op l s, k)
up_addition s (comparison op l ∷ k) = (s, comparison op l ∷ k)

abbrev pub up_comparison : Shape → List OpenOperand → Held
up_comparison s [] = (s, [])
up_comparison s (negation ∷ k) = (s, negation ∷ k)
up_comparison s (group ∷ k) = (s, group ∷ k)
up_comparison s (product l ∷ k) = (s, product l ∷ k)
up_comparison s (addition op l ∷ k) = (s, addition op l ∷ k)
up_comparison s (comparison op l ∷ k) = (joined op l s, k)

abbrev pub closed : Shape → List OpenOperand → Move
closed s [] = ends
closed s (negation ∷ k) = ends
closed s (group ∷ k) = moves (settled s k)
closed s (product l ∷ k) = ends
closed s (addition op l ∷ k) = ends
closed s (comparison op l ∷ k) = ends

-- after a sum
abbrev pub by_sum : Sign → Held → Move
by_sum star h = ends
by_sum (plus op) h = moves (wants (addition op h.0 ∷ h.1))
by_sum (compare op) h = moves (wants (comparison op h.0 ∷ h.1))
by_sum close h = let up = up_comparison h.0 h.1 in closed up.0 up.1
by_sum other h = ends

-- after a term
abbrev pub by_term : Sign → Held → Move
by_term star h = moves (wants (product h.0 ∷ h.1))
by_term (plus op) h = by_sum (plus op) (up_addition h.0 h.1)
by_term (compare op) h = by_sum (compare op) (up_addition h.0 h.1)
by_term close h = by_sum close (up_addition h.0 h.1)
by_term other h = ends

abbrev pub by_token : State → List ℕ → Move
by_token (wants k) s =
    if is_operand s then moves (settled (leaf s) k)
    else (if bytes_eq s (codes "-") then moves (number k)
    else (if bytes_eq s (codes "not") then moves (wants (negation ∷ k))
    else (if bytes_eq s (codes "(") then moves (wants (group ∷ k)) else ends)))
by_token (number k) s = moves (settled (minus s) k)
by_token (has t k) s = by_term (sign_of s) (up_product t k)

-- where nothing waits any more, the expression and what is left
abbrev pub whole_of : Held → Pieces → Option (Shape × Pieces)
whole_of (s, []) rest = Some (s, rest)
whole_of (s, f ∷ k) rest = None

abbrev pub at_sum : Held → Pieces → Option (Shape × Pieces)
at_sum h rest = whole_of (up_comparison h.0 h.1) rest

abbrev pub at_term : Held → Pieces → Option (Shape × Pieces)
at_term h rest = at_sum (up_addition h.0 h.1) rest

abbrev pub result_of : State → Pieces → Option (Shape × Pieces)
result_of (wants k) rest = None
result_of (number k) rest = None
result_of (has s k) rest = at_term (up_product s k) rest

abbrev pub moved : Move → (State → Option (Shape × Pieces)) → Option (Shape × Pieces) → Option (Shape × Pieces)
moved (moves st) f last = f st
moved ends f last = last

-- token by token, up to the first that goes on with none
abbrev pub reading : State → Pieces → Option (Shape × Pieces)
reading st [] = result_of st []
reading st (s ∷ ps) = moved (by_token st s) (λ next. reading next ps) (result_of st (s ∷ ps))
