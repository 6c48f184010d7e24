-- The tokens of the generated text, each with the blanks before it.
use Rattle.std.proofs.Common.{ℕ, true, false, List, [], ◌∷◌}
use Rattle.std.specs.Prelude.{codes}
use Rattle.std.specs.Str.Parse.{digits_value}
use Rattle.sj_grammar.specs.declared.tokens.What.TheVariants.{Word, Number, Symbol}
use Rattle.sj_generator_laws.proofs.TokenRunLemmas.{Tok}

-- a word, a word that begins a line's definition or statement, a number, and a symbol
abbrev pub word : List ℕ → List ℕ → Tok
word g s = record { gap = g; spelled = s; what = Word; opens = false }

abbrev pub head : List ℕ → List ℕ → Tok
head g s = record { gap = g; spelled = s; what = Word; opens = true }

abbrev pub num : List ℕ → List ℕ → Tok
num g s = record { gap = g; spelled = s; what = Number (digits_value 10 s); opens = false }

abbrev pub sign : List ℕ → List ℕ → Tok
sign g s = record { gap = g; spelled = s; what = Symbol; opens = false }

-- the blanks between them
abbrev pub sp : List ℕ
sp = codes " "

abbrev pub nl : List ℕ
nl = codes "\n"

abbrev pub in_two : List ℕ
in_two = codes "\n  "

abbrev pub in_four : List ℕ
in_four = codes "\n    "

abbrev pub protocol_tokens : List Tok
protocol_tokens =
    head [] (codes "protocol") ∷ word sp (codes "w") ∷ sign sp (codes "{") ∷ word sp (codes "begin") ∷ sign [] (codes ".") ∷ sign [] (codes "!") ∷
    sign [] (codes "[") ∷ sign [] (codes "!") ∷ sign [] (codes "<") ∷ word [] (codes "int") ∷ sign [] (codes ">") ∷ sign [] (codes "]") ∷
    sign [] (codes "*") ∷ sign [] (codes ".") ∷ sign [] (codes "?") ∷ sign [] (codes "(") ∷ word [] (codes "int") ∷ sign [] (codes ")") ∷
    sign sp (codes "}") ∷ head nl (codes "protocol") ∷ word sp (codes "v") ∷ sign sp (codes "{") ∷ word sp (codes "begin") ∷ sign [] (codes ".") ∷
    sign [] (codes "?") ∷ sign [] (codes "[") ∷ sign [] (codes "?") ∷ sign [] (codes "(") ∷ word [] (codes "int") ∷ sign [] (codes ")") ∷
    sign [] (codes "]") ∷ sign [] (codes "*") ∷ sign [] (codes ".") ∷ sign [] (codes "!") ∷ sign [] (codes "<") ∷ word [] (codes "int") ∷
    sign [] (codes ">") ∷ sign sp (codes "}") ∷ head nl (codes "protocol") ∷ word sp (codes "g") ∷ sign sp (codes "{") ∷ word sp (codes "begin") ∷
    sign [] (codes ".") ∷ sign [] (codes "!") ∷ sign [] (codes "<") ∷ sign [] (codes "?") ∷ sign [] (codes "[") ∷ sign [] (codes "?") ∷
    sign [] (codes "(") ∷ word [] (codes "int") ∷ sign [] (codes ")") ∷ sign [] (codes "]") ∷ sign [] (codes "*") ∷ sign [] (codes ".") ∷
    sign [] (codes "!") ∷ sign [] (codes "<") ∷ word [] (codes "int") ∷ sign [] (codes ">") ∷ sign [] (codes ">") ∷ sign sp (codes "}") ∷
    head nl (codes "protocol") ∷ word sp (codes "h") ∷ sign sp (codes "{") ∷ word sp (codes "begin") ∷ sign [] (codes ".") ∷ sign [] (codes "?") ∷
    sign [] (codes "(") ∷ sign [] (codes "?") ∷ sign [] (codes "[") ∷ sign [] (codes "?") ∷ sign [] (codes "(") ∷ word [] (codes "int") ∷
    sign [] (codes ")") ∷ sign [] (codes "]") ∷ sign [] (codes "*") ∷ sign [] (codes ".") ∷ sign [] (codes "!") ∷ sign [] (codes "<") ∷
    word [] (codes "int") ∷ sign [] (codes ">") ∷ sign [] (codes ")") ∷ sign sp (codes "}") ∷ []

-- of each party by the digit of its group, the sender's with its two numbers
abbrev pub sender_tokens : List ℕ → List ℕ → List ℕ → List Tok
sender_tokens e d v =
    head nl (codes "party") ∷ word sp (97 ∷ e) ∷ sign sp (codes "{") ∷ head in_two (codes "outwhile") ∷ word sp (codes "x") ∷ num sp d ∷
    sign sp (codes "{") ∷ head in_four (codes "send") ∷ word sp (codes "x") ∷ num sp v ∷ sign [] (codes ";") ∷ sign in_two (codes "}") ∷
    head in_two (codes "recv") ∷ word sp (codes "x") ∷ word sp (codes "r") ∷ word sp (codes "int") ∷ sign [] (codes ";") ∷
    head in_two (codes "close") ∷ word sp (codes "x") ∷ sign [] (codes ";") ∷ sign nl (codes "}") ∷ []

abbrev pub giver_tokens : List ℕ → List Tok
giver_tokens e =
    head nl (codes "party") ∷ word sp (98 ∷ e) ∷ sign sp (codes "{") ∷ head in_two (codes "delegate") ∷ word sp (codes "z") ∷ word sp (codes "y") ∷
    sign [] (codes ";") ∷ head in_two (codes "close") ∷ word sp (codes "z") ∷ sign [] (codes ";") ∷ sign nl (codes "}") ∷ []

abbrev pub adder_tokens : List ℕ → List Tok
adder_tokens e =
    head nl (codes "party") ∷ word sp (99 ∷ e) ∷ sign sp (codes "{") ∷ head in_two (codes "recv") ∷ word sp (codes "u") ∷ word sp (codes "y") ∷
    word sp (codes "session") ∷ word sp (codes "v") ∷ sign [] (codes ";") ∷ head in_two (codes "let") ∷ word sp (codes "s") ∷ sign sp (codes "=") ∷
    num sp (codes "0") ∷ sign [] (codes ";") ∷ head in_two (codes "inwhile") ∷ word sp (codes "y") ∷ sign sp (codes "{") ∷
    head in_four (codes "recv") ∷ word sp (codes "y") ∷ word sp (codes "k") ∷ word sp (codes "int") ∷ sign [] (codes ";") ∷
    head in_four (codes "let") ∷ word sp (codes "s") ∷ sign sp (codes "=") ∷ word sp (codes "s") ∷ sign sp (codes "+") ∷ word sp (codes "k") ∷
    sign [] (codes ";") ∷ sign in_two (codes "}") ∷ head in_two (codes "send") ∷ word sp (codes "y") ∷ word sp (codes "s") ∷ sign [] (codes ";") ∷
    head in_two (codes "close") ∷ word sp (codes "y") ∷ sign [] (codes ";") ∷ head in_two (codes "close") ∷ word sp (codes "u") ∷
    sign [] (codes ";") ∷ sign nl (codes "}") ∷ []

abbrev pub connect_tokens : List ℕ → List Tok
connect_tokens e =
    head nl (codes "connect") ∷ word sp (97 ∷ e) ∷ word sp (codes "x") ∷ word sp (codes "w") ∷ word sp (codes "to") ∷ word sp (98 ∷ e) ∷
    word sp (codes "y") ∷ word sp (codes "v") ∷ sign [] (codes ";") ∷ head nl (codes "connect") ∷ word sp (98 ∷ e) ∷ word sp (codes "z") ∷
    word sp (codes "g") ∷ word sp (codes "to") ∷ word sp (99 ∷ e) ∷ word sp (codes "u") ∷ word sp (codes "h") ∷ sign [] (codes ";") ∷ []
