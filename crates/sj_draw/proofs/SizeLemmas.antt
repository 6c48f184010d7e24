-- How long the text of a picture is.
use Rattle.std.proofs.Common.{ℕ, ◌+◌, ◌*◌, ◌-◌, ◌/◌, ◌%◌, ◌≤◌, min, max, Bool, true, false, ◌&&◌, List, [], ◌∷◌, ◌++◌, length, take, Option, Some, None, if◌then◌else◌, eqb, nat_le, nat_lt, arith, lit<, lit≤, decimal, codes}
use Rattle.std.specs.Prelude.{◌==◌}
use Rattle.std.proofs.lemmas.List.{length-append, length-take}
use Rattle.std.proofs.lemmas.Fmt.{length-decimal-le}
use Rattle.std.specs.List.{concat}
use Rattle.sj_draw.specs.declared.lines.Mark.{Mark}
use Rattle.sj_draw.specs.declared.lines.Mark.TheVariants.{Message, Fin, Session, Claim, Signal, Ack, Give, Request, Open, Accept}
use Rattle.sj_draw.specs.declared.layout.Layout.{Layout}
use Rattle.sj_draw.specs.Columns.{half_of, tip_of, x_of}
use Rattle.sj_draw.specs.Drawn.{again_text, arrow_text, between_text, class_of, end_class, foot_text, head_text, is_cut, label_text, letters_of_name, line_text, name_text}
use Rattle.sj_draw.specs.Drawn.{room_at, row_of, rows_of_names, title_text, way_of, way_text}
use Rattle.sj_draw.specs.Chart.{ArrowAt}
use Rattle.sj_draw.specs.Piece.{cut_text, escaped, escaped_byte}
use Rattle.sj_draw.specs.Small.{IsSmall}

-- pieces, and the most bytes of all of them
data UpTo : List (List ℕ) → ℕ → Type 0 where
  none : UpTo [] 0
  up : {xs : List (List ℕ)} {m : ℕ} → (x : List ℕ) (n : ℕ) → length x ≤ n → UpTo xs m → UpTo (x ∷ xs) (n + m)

fits : {xs : List (List ℕ)} {n : ℕ} → UpTo xs n → length (concat xs) ≤ n
fits none = omega arith
fits (up {xs = xs} x n h more) = omega (arith, length-append x (concat xs), h, fits more)

-- eight digits do
digits_8 : (n : ℕ) → n ≤ 40000000 → length (decimal n) ≤ 8
digits_8 n h = length-decimal-le 8 n (lit< tt) (omega (arith, h)) (omega (arith, h))

byte_5 : (b : ℕ) (x y z : Bool) → length (if x then codes "&amp;" else (if y then codes "&lt;" else (if z then codes "&gt;" else b ∷ []))) ≤ 5
byte_5 b true y z = lit≤ tt
byte_5 b false true z = lit≤ tt
byte_5 b false false true = lit≤ tt
byte_5 b false false false = lit≤ tt

escaped_5 : (bs : List ℕ) → length (escaped bs) ≤ 5 * length bs
escaped_5 [] = omega arith
escaped_5 (b ∷ bs) = omega (arith, length-append (escaped_byte b) (escaped bs), byte_5 b (eqb b 38) (eqb b 60) (eqb b 62), escaped_5 bs)

-- a text that is cut, with its ellipsis
cut_7 : (room : ℕ) (bs : List ℕ) → length (cut_text room bs) ≤ 5 * length bs + 7
cut_7 room bs = by (nat_le (length bs) room)
  where
    by : (b : Bool) → length (if b then escaped bs else escaped (take room bs) ++ codes "&#8230;") ≤ 5 * length bs + 7
    by true = omega (arith, escaped_5 bs)
    by false = omega (arith, length-append (escaped (take room bs)) (codes "&#8230;"), escaped_5 (take room bs), length-take room bs)

half_low : (base : ℕ) (name : List ℕ) → base ≤ 4120 → half_of base name ≤ 4120
half_low base name h = omega (arith, h)

x_by : (b : Bool) (h k n : ℕ) → h ≤ 4120 → k ≤ 8240 * n → (if b then h else 2 * h + k) ≤ 8240 * (n + 1)
x_by true h k n low more = omega (arith, low)
x_by false h k n low more = omega (arith, low, more)

x_among : (base : ℕ) (ps : List (List ℕ)) (i : ℕ) → base ≤ 4120 → x_of base ps i ≤ 8240 * length ps
x_among base [] i h = omega arith
x_among base (p ∷ ps) i h = omega (arith, x_by (eqb i 0) (half_of base p) (x_of base ps (i - 1)) (length ps) (half_low base p h) (x_among base ps (i - 1) h))

pub x_low : (base : ℕ) (ps : List (List ℕ)) (i : ℕ) → base ≤ 4120 → length ps ≤ 16 → x_of base ps i ≤ 150000
x_low base ps i h few = omega (arith, x_among base ps i h, few)

pub tip_low : (base : ℕ) (ps : List (List ℕ)) (from : ℕ) (to : Option ℕ) → base ≤ 4120 → length ps ≤ 16 → tip_of base ps from to ≤ 160000
tip_low base ps from None h few = omega (arith, x_low base ps from h few)
tip_low base ps from (Some to) h few = omega (arith, x_low base ps to h few)

pub row_low : (k : ℕ) → k ≤ 1000000 → row_of k ≤ 28700000
row_low k few = omega (arith, few)

class_7 : (m : Mark) → length (class_of m) ≤ 7
class_7 Message = lit≤ tt
class_7 Fin = lit≤ tt
class_7 Session = lit≤ tt
class_7 Claim = lit≤ tt
class_7 Signal = lit≤ tt
class_7 Ack = lit≤ tt
class_7 Give = lit≤ tt
class_7 Request = lit≤ tt
class_7 Open = lit≤ tt
class_7 Accept = lit≤ tt

end_8 : (to : Option ℕ) → length (end_class to) ≤ 8
end_8 None = lit≤ tt
end_8 (Some to) = lit≤ tt

way_12 : (from : ℕ) (to : Option ℕ) → length (way_of from to) ≤ 12
way_12 from None = lit≤ tt
way_12 from (Some to) = by (eqb from to)
  where
    by : (b : Bool) → length (if b then codes " h 44 v 8 H " else codes " H ") ≤ 12
    by true = lit≤ tt
    by false = lit≤ tt

between_34 : (k : ℕ) → k ≤ 1000000 → length (between_text k) ≤ 34
between_34 k few = by ((k % rows_of_names == 0) && nat_lt 0 k)
  where
    by : (b : Bool) → length (if b then again_text (row_of k + 18) else []) ≤ 34
    by true =
        let h = up (codes "<use href='#names' y='") 22 (lit≤ tt) (up (decimal (row_of k + 18)) 8 (digits_8 _ (omega (arith, row_low k few))) (up (codes "'/>\n") 4 (lit≤ tt) none)) in
        omega (arith, fits h)
    by false = omega arith

way_size : (start tip k : ℕ) (a : ArrowAt) → start ≤ 150000 → tip ≤ 160000 → k ≤ 1000000 → length (way_text start tip k a) ≤ 107
way_size start tip k a low less few =
    let row = row_low k few in
    let h =
    up (codes "<path class='") 13 (lit≤ tt) (up (class_of a.mark) 7 (class_7 a.mark) (up (end_class a.to) 8 (end_8 a.to)
    (up (codes "' d='M ") 7 (lit≤ tt) (up (decimal start) 8 (digits_8 _ (omega (arith, low))) (up (codes " ") 1 (lit≤ tt)
    (up (decimal (row_of k + 88)) 8 (digits_8 _ (omega (arith, row))) (up (way_of a.from a.to) 12 (way_12 a.from a.to)
    (up (decimal tip) 8 (digits_8 _ (omega (arith, less))) (up (codes "'/><text x='") 12 (lit≤ tt)
    (up (decimal (min start tip + 14)) 8 (digits_8 _ (omega (arith, low, less))) (up (codes "' y='") 5 (lit≤ tt)
    (up (decimal (row_of k + 80)) 8 (digits_8 _ (omega (arith, row))) (up (codes "'>") 2 (lit≤ tt) none)))))))))))))
    in omega (arith, fits h)

title_size : (room : ℕ) (a : ArrowAt) → length (title_text room a) ≤ 17 + 5 * (length a.name + length a.text)
title_size room a = by (is_cut room a)
  where
    by : (b : Bool) → length (if b then concat (codes "<title>" ∷ escaped a.name ∷ codes ": " ∷ escaped a.text ∷ codes "</title>" ∷ []) else [])
        ≤ 17 + 5 * (length a.name + length a.text)
    by true =
        let h =
        up (codes "<title>") 7 (lit≤ tt) (up (escaped a.name) (5 * length a.name) (escaped_5 a.name) (up (codes ": ") 2 (lit≤ tt)
        (up (escaped a.text) (5 * length a.text) (escaped_5 a.text) (up (codes "</title>") 8 (lit≤ tt) none)))) in omega (arith, fits h)
    by false = omega arith

words_size : (room : ℕ) (a : ArrowAt)
    → length (concat (cut_text letters_of_name a.name ∷ codes ": " ∷ cut_text room a.text ∷ codes "</text>\n" ∷ [])) ≤ 24 + 5 * (length a.name + length a.text)
words_size room a =
    let h =
    up (cut_text letters_of_name a.name) (5 * length a.name + 7) (cut_7 letters_of_name a.name) (up (codes ": ") 2 (lit≤ tt)
    (up (cut_text room a.text) (5 * length a.text + 7) (cut_7 room a.text) (up (codes "</text>\n") 8 (lit≤ tt) none))) in omega (arith, fits h)

label_size : (room : ℕ) (a : ArrowAt) → length (label_text room a) ≤ 41 + 10 * (length a.name + length a.text)
label_size room a =
    let words = concat (cut_text letters_of_name a.name ∷ codes ": " ∷ cut_text room a.text ∷ codes "</text>\n" ∷ []) in
    omega (arith, length-append (title_text room a) words, title_size room a, words_size room a)

pub arrow_size : (base : ℕ) (ps : List (List ℕ)) (k : ℕ) (a : ArrowAt) → base ≤ 4120 → length ps ≤ 16 → k ≤ 1000000
    → length (arrow_text base ps k a) ≤ 200 + 10 * (length a.name + length a.text)
arrow_size base ps k a h parties few =
    let start = x_of base ps a.from in let tip = tip_of base ps a.from a.to in let room = room_at base ps a in
    omega (
      arith,
      length-append (between_text k) (way_text start tip k a ++ label_text room a),
      length-append (way_text start tip k a) (label_text room a),
      between_34 k few,
      way_size start tip k a (x_low base ps a.from h parties) (tip_low base ps a.from a.to h parties) few,
      label_size room a,
    )

pub name_size : (x : ℕ) (name : List ℕ) → x ≤ 150000 → length (name_text x name) ≤ 50 + 5 * length name
name_size x name low =
    let h =
    up (codes "<text class='name' x='") 22 (lit≤ tt) (up (decimal x) 8 (digits_8 _ (omega (arith, low))) (up (codes "' y='40'>") 9 (lit≤ tt)
    (up (escaped name) (5 * length name) (escaped_5 name) (up (codes "</text>\n") 8 (lit≤ tt) none))))
    in omega (arith, fits h)

pub line_size : (l : Layout) (x : ℕ) → IsSmall l → x ≤ 150000 → length (line_text l x) ≤ 60
line_size l x s low =
    let h =
    up (codes "<path class='party' d='M ") 25 (lit≤ tt) (up (decimal x) 8 (digits_8 _ (omega (arith, low))) (up (codes " 50 V ") 6 (lit≤ tt)
    (up (decimal (l.height - 28)) 8 (digits_8 _ (omega (arith, s.height))) (up (codes "'/>\n") 4 (lit≤ tt) none))))
    in omega (arith, fits h)

pub head_size : (l : Layout) → IsSmall l → length (head_text l) ≤ 120
head_size l s =
    let h =
    up (codes "<svg xmlns='http://www.w3.org/2000/svg' width='") 47 (lit≤ tt) (up (decimal l.width) 8 (digits_8 _ (omega (arith, s.width))) (up (codes "' height='") 10 (lit≤ tt)
    (up (decimal l.height) 8 (digits_8 _ (omega (arith, s.height))) (up (codes "' viewBox='0 0 ") 15 (lit≤ tt) (up (decimal l.width) 8 (digits_8 _ (omega (arith, s.width)))
    (up (codes " ") 1 (lit≤ tt) (up (decimal l.height) 8 (digits_8 _ (omega (arith, s.height))) (up (codes "'>\n") 3 (lit≤ tt) none))))))))
    in omega (arith, fits h)

pub foot_size : (l : Layout) → IsSmall l → length (foot_text l) ≤ 60
foot_size l s =
    let h =
    up (codes "<use href='#names' y='") 22 (lit≤ tt) (up (decimal (l.height - 52)) 8 (digits_8 _ (omega (arith, s.height))) (up (codes "'/>\n</svg>\n") 11 (lit≤ tt) none))
    in omega (arith, fits h)
