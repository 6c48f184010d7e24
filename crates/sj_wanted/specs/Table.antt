-- The tokens of the language, as they are tried and as they are shown.
use Rattle.std.specs.Prelude.{ℕ, Bool, true, false, List, [], ◌∷◌, ◌++◌, codes}
use Rattle.sj_grammar.specs.Names.{early_reserved, middle_reserved, late_reserved}

-- symbols; the longer ones after their beginnings
abbrev pub symbols : List (List ℕ)
symbols = codes ";" ∷ codes "." ∷ codes "," ∷ codes ":" ∷ codes ")" ∷ codes ">" ∷ codes "]" ∷ codes "}" ∷ codes "(" ∷ codes "<" ∷ codes "[" ∷ codes "{"
    ∷ codes "!" ∷ codes "?" ∷ codes "=" ∷ codes "==" ∷ codes "<=" ∷ codes "+" ∷ codes "-" ∷ codes "*" ∷ []

-- reserved words, in the order of the alphabet
abbrev pub reserved : List (List ℕ)
reserved = early_reserved ++ (middle_reserved ++ late_reserved)

-- a name, a number and a text stand for all of them, and nothing for the end of the file
abbrev pub tokens : List (List ℕ)
tokens = symbols ++ (codes "x" ∷ codes "1" ∷ codes "\"\"" ∷ reserved ++ (codes "" ∷ []))

abbrev pub shown : List (List ℕ)
shown = symbols ++ (codes "NAME" ∷ codes "NUMBER" ∷ codes "TEXT" ∷ reserved ++ (codes "END" ∷ []))

-- the marked ones of these words, with a space before each
abbrev pub chosen : List Bool → List (List ℕ) → List ℕ
chosen (true ∷ marks) (word ∷ words) = codes " " ++ (word ++ chosen marks words)
chosen (false ∷ marks) (word ∷ words) = chosen marks words
chosen marks words = []

-- the line that names them
abbrev pub wanted_line : List Bool → List ℕ
wanted_line marks = codes "wanted one of:" ++ (chosen marks shown ++ codes "\n")
