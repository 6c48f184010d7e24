-- The grammar of protocols, and which piece passes a limit.
use Rattle.std.specs.Prelude.{◌≡◌, ℕ, suc, Bool, false, ◌||◌, nat_le, nat_lt, IsTrue, List, [], ◌∷◌, ◌++◌, length, drop, codes, if◌then◌else◌}
use Rattle.std.specs.List.{fold}
use Rattle.std.specs.Str.{bytes_eq}
use Rattle.sj_lang.specs.Limits.{Limits, limits}
use Rattle.sj_grammar.specs.Names.{is_name}
use Rattle.sj_grammar.specs.Positions.{Pieces}
use Rattle.sj_grammar.specs.ProtocolDues.{is_way}
use Rattle.sj_grammar.specs.Wrong.{Grammar}
use Rattle.sj_proto.specs.Writable.{IsSomeProtocol}

abbrev pub is_open : List ℕ → Bool
is_open s = bytes_eq s (codes "<") || (bytes_eq s (codes "(") || (bytes_eq s (codes "{") || bytes_eq s (codes "[")))

abbrev pub is_close : List ℕ → Bool
is_close s = bytes_eq s (codes ">") || (bytes_eq s (codes ")") || (bytes_eq s (codes "}") || bytes_eq s (codes "]")))

abbrev pub one_more : List ℕ → List ℕ
one_more [] = []
one_more (n ∷ ns) = suc n ∷ ns

-- the open brackets after a piece, innermost first: for each the commas in it
abbrev pub brackets_behind : List ℕ → List ℕ → List ℕ
brackets_behind ns s = if is_open s then 0 ∷ ns else (if is_close s then drop 1 ns else (if bytes_eq s (codes ",") then one_more ns else ns))

abbrev pub brackets_in : Pieces → List ℕ
brackets_in ps = fold brackets_behind [] ps

-- an item begins with a `!` or a `?`
abbrev pub items_behind : ℕ → List ℕ → ℕ
items_behind n s = if is_way s then suc n else n

abbrev pub items_in : Pieces → ℕ
items_in ps = fold items_behind 0 ps

-- the arms before the next one in the innermost bracket
abbrev pub arms_in : List ℕ → ℕ
arms_in [] = 0
arms_in (n ∷ ns) = n

-- with so many items and these brackets before it, the piece is one item too many,
-- a bracket too deep, or a label too many or too long
abbrev pub is_over : Limits → ℕ → List ℕ → List ℕ → Bool
is_over L n ns s =
    if is_way s then nat_le L.items n
    else (if is_open s then nat_le L.nesting (length ns)
    else (if is_name s then nat_le L.labels (arms_in ns) || nat_lt L.name (length s) else false))

-- after these pieces it passes a limit
abbrev pub passes_limit : Pieces → List ℕ → Bool
passes_limit ps s = is_over limits (items_in ps) (brackets_in ps) s

-- none of the pieces does
abbrev pub PassesNone : Pieces → Type 0
PassesNone pieces = (before later : Pieces) (s : List ℕ) → pieces ≡ before ++ s ∷ later → passes_limit before s ≡ false

-- the grammar of protocols
abbrev pub protocol_grammar : Grammar
protocol_grammar = record { IsWhole = IsSomeProtocol; IsWithin = PassesNone; PassesLimit = λ ps s. IsTrue (passes_limit ps s) }
