-- The picture of a chart: its head, a line for each party, an arrow for each
-- message or frame, and its foot.
use Rattle.std.specs.Prelude.{ℕ, ◌+◌, ◌*◌, ◌-◌, ◌/◌, ◌%◌, ◌==◌, List, [], ◌∷◌, ◌++◌, length, min, max, Bool, ◌&&◌, ◌||◌, Option, Some, None, if◌then◌else◌, nat_lt, decimal, codes}
use Rattle.std.specs.List.{concat}
use Rattle.sj_draw.specs.declared.lines.Mark.{Mark}
use Rattle.sj_draw.specs.declared.lines.Mark.TheVariants.{Message, Fin, Session, Claim, Signal, Ack, Give, Request, Open, Accept}
use Rattle.sj_draw.specs.declared.layout.Layout.{Layout}
use Rattle.sj_draw.specs.declared.style.TheConstants.{STYLE}
use Rattle.sj_draw.specs.Chart.{ArrowAt, ChartAt}
use Rattle.sj_draw.specs.Columns.{base_of, letters_of, tip_of, x_of}
use Rattle.sj_draw.specs.Piece.{cut_text, escaped}

-- names stand above the first row, between rows, and below the last one
abbrev pub rows_of_names : ℕ
rows_of_names = 40

-- how far down the row of that number begins; names stand above each fortieth
abbrev pub row_of : ℕ → ℕ
row_of k = 28 * (k + k / rows_of_names)

abbrev pub height_of : ChartAt → ℕ
height_of f = row_of (length f.arrows) + 100

-- right of the last column there is room for an arrow that goes to no other party
abbrev pub side_of : ChartAt → ℕ
side_of f = if f.hooks then base_of f else 0

-- all columns; the line that says what an arrow means needs 640
abbrev pub width_of : ChartAt → ℕ
width_of f = max 640 (x_of (base_of f) f.parties (length f.parties) + side_of f)

abbrev pub layout_of : ChartAt → Layout
layout_of f = record { base = base_of f; width = width_of f; height = height_of f }

abbrev pub head_text : Layout → List ℕ
head_text l = concat
    (codes "<svg xmlns='http://www.w3.org/2000/svg' width='" ∷ decimal l.width ∷ codes "' height='" ∷ decimal l.height
    ∷ codes "' viewBox='0 0 " ∷ decimal l.width ∷ codes " " ∷ decimal l.height ∷ codes "'>\n" ∷ [])

-- a party's name, at the head of its column
abbrev pub name_text : ℕ → List ℕ → List ℕ
name_text x name = concat (codes "<text class='name' x='" ∷ decimal x ∷ codes "' y='40'>" ∷ escaped name ∷ codes "</text>\n" ∷ [])

-- the names of these parties, which are those from that number on of all
abbrev pub names_text : ℕ → List (List ℕ) → ℕ → List (List ℕ) → List ℕ
names_text base all i [] = []
names_text base all i (p ∷ ps) = name_text (x_of base all i) p ++ names_text base all (i + 1) ps

-- a party's line
abbrev pub line_text : Layout → ℕ → List ℕ
line_text l x = concat (codes "<path class='party' d='M " ∷ decimal x ∷ codes " 50 V " ∷ decimal (l.height - 28) ∷ codes "'/>\n" ∷ [])

abbrev pub lines_text : Layout → List (List ℕ) → ℕ → List (List ℕ) → List ℕ
lines_text l all i [] = []
lines_text l all i (p ∷ ps) = line_text l (x_of l.base all i) ++ lines_text l all (i + 1) ps

-- the names are a group, which is drawn again further down; then come the lines
abbrev pub parties_text : Layout → List (List ℕ) → List ℕ
parties_text l ps = names_text l.base ps 0 ps ++ (codes "</g>\n" ++ lines_text l ps 0 ps)

abbrev pub class_of : Mark → List ℕ
class_of Message = codes "message"
class_of Fin = codes "fin"
class_of Session = codes "session"
class_of Claim = codes "claim"
class_of Signal = codes "signal"
class_of Ack = codes "ack"
class_of Give = codes "give"
class_of Request = codes "request"
class_of Open = codes "open"
class_of Accept = codes "accept"

-- a message that nobody took ends in an open circle
abbrev pub end_class : Option ℕ → List ℕ
end_class None = codes " untaken"
end_class (Some to) = []

-- an arrow to the party itself bends
abbrev pub way_of : ℕ → Option ℕ → List ℕ
way_of from None = codes " H "
way_of from (Some to) = if from == to then codes " h 44 v 8 H " else codes " H "

-- the names again
abbrev pub again_text : ℕ → List ℕ
again_text y = concat (codes "<use href='#names' y='" ∷ decimal y ∷ codes "'/>\n" ∷ [])

-- they stand above each fortieth row but the first
abbrev pub between_text : ℕ → List ℕ
between_text k = if (k % rows_of_names == 0) && nat_lt 0 k then again_text (row_of k + 18) else []

-- an arrow, and the place of what stands above it
abbrev pub way_text : ℕ → ℕ → ℕ → ArrowAt → List ℕ
way_text start tip k a = concat
    (codes "<path class='" ∷ class_of a.mark ∷ end_class a.to ∷ codes "' d='M " ∷ decimal start ∷ codes " " ∷ decimal (row_of k + 88)
    ∷ way_of a.from a.to ∷ decimal tip ∷ codes "'/><text x='" ∷ decimal (min start tip + 14) ∷ codes "' y='" ∷ decimal (row_of k + 80) ∷ codes "'>" ∷ [])

-- the most letters of an end's name above an arrow
abbrev pub letters_of_name : ℕ
letters_of_name = 12

-- letters that are left for the text, of that many, after the name, a colon and a
-- space, and with an ellipsis
abbrev pub room_of : ℕ → ArrowAt → ℕ
room_of letters a = letters - (min (length a.name) letters_of_name + 3)

-- the name or the text doesn't fit
abbrev pub is_cut : ℕ → ArrowAt → Bool
is_cut room a = nat_lt letters_of_name (length a.name) || nat_lt room (length a.text)

-- what is cut stands whole in a title
abbrev pub title_text : ℕ → ArrowAt → List ℕ
title_text room a =
    if is_cut room a then concat (codes "<title>" ∷ escaped a.name ∷ codes ": " ∷ escaped a.text ∷ codes "</title>" ∷ []) else []

-- the name of an arrow's end and its text
abbrev pub label_text : ℕ → ArrowAt → List ℕ
label_text room a =
    title_text room a ++ concat (cut_text letters_of_name a.name ∷ codes ": " ∷ cut_text room a.text ∷ codes "</text>\n" ∷ [])

-- the room above an arrow
abbrev pub room_at : ℕ → List (List ℕ) → ArrowAt → ℕ
room_at base ps a = room_of (letters_of base (x_of base ps a.from) (tip_of base ps a.from a.to)) a

-- the row of an arrow
abbrev pub arrow_text : ℕ → List (List ℕ) → ℕ → ArrowAt → List ℕ
arrow_text base ps k a =
    between_text k ++ (way_text (x_of base ps a.from) (tip_of base ps a.from a.to) k a ++ label_text (room_at base ps a) a)

abbrev pub arrows_text : ℕ → List (List ℕ) → ℕ → List ArrowAt → List ℕ
arrows_text base ps k [] = []
arrows_text base ps k (a ∷ more) = arrow_text base ps k a ++ arrows_text base ps (k + 1) more

-- the names once more, and the end
abbrev pub foot_text : Layout → List ℕ
foot_text l = concat (codes "<use href='#names' y='" ∷ decimal (l.height - 52) ∷ codes "'/>\n</svg>\n" ∷ [])

abbrev pub picture_at : Layout → ChartAt → List ℕ
picture_at l f =
    head_text l ++ (STYLE.now ++ (parties_text l f.parties ++ (arrows_text l.base f.parties 0 f.arrows ++ foot_text l)))

abbrev pub picture : ChartAt → List ℕ
picture f = picture_at (layout_of f) f
