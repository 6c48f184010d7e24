-- Which tokens may stand at the end of a text.
use Rattle.std.specs.Prelude.{◌≡◌, ℕ, ◌+◌, ◌≤◌, ◌<◌, ◌⊎◌, Bool, true, false, ◌&&◌, ◌==◌, List, [], ◌∷◌, ◌++◌, length, codes}
use Rattle.sj_grammar.specs.declared.tokens.Fault.{Fault}
use Rattle.sj_lang.specs.Limits.{limits}
use Rattle.sj_grammar.specs.Reading.{line_number}
use Rattle.sj_grammar.specs.Positions.{start}
use Rattle.sj_grammar.specs.FileDues.{file_layer, file_due}
use Rattle.sj_grammar.specs.Faults.{Stuck}

-- the most bytes of a text at whose end tokens are tried, and of such a token
abbrev pub front_limit : ℕ
front_limit = 65000

abbrev pub token_limit : ℕ
token_limit = 64

-- the text, and the token after it on a line of its own
abbrev pub with_token : List ℕ → List ℕ → List ℕ
with_token front token = front ++ (codes "\n" ++ token)

-- the first fault of that text is at the token, or at the end where the token has no bytes
pub record HasFaultThere (front token : List ℕ) : Type 0 where
  pub fault : Fault
  pub first : Stuck file_layer limits 0 (start (with_token front token) [] []) file_due fault
  pub line : fault.line ≡ line_number front + 1
  pub column : fault.column ≡ 1

-- the fault is where that line begins
abbrev pub begins_line : Fault → ℕ → Bool
begins_line fault line = (fault.line == line) && (fault.column == 1)

-- it is not there
abbrev pub MayStand : List ℕ → List ℕ → Type 0
MayStand front token = HasFaultThere front token → ⊥

-- none of the tokens is too long to be tried
abbrev pub AreShort : List (List ℕ) → Type 0
AreShort [] = Unit {0}
AreShort (token ∷ tokens) = (length token ≤ token_limit) × AreShort tokens

-- for each of the tokens, in order, whether it may stand there
abbrev pub Tells : List ℕ → List (List ℕ) → List Bool → Type 0
Tells front [] [] = Unit {0}
Tells front (token ∷ tokens) (true ∷ marks) = MayStand front token × Tells front tokens marks
Tells front (token ∷ tokens) (false ∷ marks) = HasFaultThere front token × Tells front tokens marks
Tells front tokens marks = ⊥

-- the text goes on with these tokens, each after those before it and none too long to be tried; one
-- without bytes is its end
abbrev pub GoesOn : List ℕ → List (List ℕ) → Type 0
GoesOn front [] = Unit {0}
GoesOn front ([] ∷ tokens) = (length front ≤ front_limit) × MayStand front []
GoesOn front ((b ∷ bs) ∷ tokens) =
    ((length front ≤ front_limit) × (length (b ∷ bs) ≤ token_limit)) × (MayStand front (b ∷ bs) × GoesOn (with_token front (b ∷ bs)) tokens)

-- it comes to one that may not stand there, or is too long to be tried; none comes after its end
abbrev pub Halts : List ℕ → List (List ℕ) → Type 0
Halts front [] = ⊥
Halts front ([] ∷ tokens) = (front_limit < length front) ⊎ HasFaultThere front []
Halts front ((b ∷ bs) ∷ tokens) =
    ((front_limit < length front) ⊎ (token_limit < length (b ∷ bs))) ⊎ (HasFaultThere front (b ∷ bs) ⊎ Halts (with_token front (b ∷ bs)) tokens)
