-- Text of a picture, put together from pieces.
use Rattle.std.specs.Prelude.{ℕ, ◌==◌, List, [], ◌∷◌, ◌++◌, length, take, if◌then◌else◌, nat_le, map, decimal, codes}
use Rattle.std.specs.List.{concat, flat_map}
use Rattle.sj_draw.specs.declared.pieces.Piece.{Piece}
use Rattle.sj_draw.specs.declared.pieces.Piece.TheVariants.{Plain, Number, Escaped, Cut}

-- `&`, `<` and `>` have names in the picture's text
abbrev pub escaped_byte : ℕ → List ℕ
escaped_byte b = if b == 38 then codes "&amp;" else (if b == 60 then codes "&lt;" else (if b == 62 then codes "&gt;" else b ∷ []))

abbrev pub escaped : List ℕ → List ℕ
escaped text = flat_map escaped_byte text

-- at most so many letters of a text, and an ellipsis where it has more
abbrev pub cut_text : ℕ → List ℕ → List ℕ
cut_text room text = if nat_le (length text) room then escaped text else escaped (take room text) ++ codes "&#8230;"

abbrev pub piece_text : Piece → List ℕ
piece_text (Plain bytes) = bytes.now
piece_text (Number n) = decimal n
piece_text (Escaped bytes) = escaped bytes.now
piece_text (Cut bytes room) = cut_text room bytes.now

abbrev pub pieces_text : List Piece → List ℕ
pieces_text ps = concat (map piece_text ps)
