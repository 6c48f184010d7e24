-- A picture doesn't outgrow its lines.
use Rattle.std.proofs.Common.{◌≡◌, ℕ, ◌+◌, ◌*◌, ◌≤◌, ◌-◌, Bool, true, false, ◌&&◌, List, [], ◌∷◌, ◌++◌, length, nat_le, if◌then◌else◌, arith, codes, rules, tests}
use Rattle.std.proofs.lemmas.List.{length-append}
use Rattle.std.specs.List.{AllByRecursion}
use Rattle.sj_draw.specs.declared.layout.Layout.{Layout}
use Rattle.sj_draw.specs.declared.style.TheConstants.{STYLE}
use Rattle.sj_draw.specs.Columns.{base_of, x_of}
use Rattle.sj_draw.specs.Drawn.{arrow_text, arrows_text, foot_text, head_text, layout_of, line_text, lines_text, name_text, names_text, parties_text, picture}
use Rattle.sj_draw.specs.Chart.{ArrowAt, ChartAt, Gathered, empty, gathered}
use Rattle.sj_draw.specs.Small.{IsSmall}
use Rattle.sj_draw.proofs.RoomLemmas.{roomy, wider}
use Rattle.sj_draw.proofs.SizeLemmas.{arrow_size, foot_size, head_size, line_size, name_size, row_low, x_low}

names_size : (base : ℕ) (all : List (List ℕ)) (i : ℕ) (ps : List (List ℕ)) → base ≤ 4120 → length all ≤ 16 → AllByRecursion (λ p. length p ≤ 64) ps
    → length (names_text base all i ps) ≤ 370 * length ps
names_size base all i [] h few a = omega arith
names_size base all i (p ∷ ps) h few a =
    omega (arith, length-append (name_text (x_of base all i) p) (names_text base all (i + 1) ps), name_size (x_of base all i) p (x_low base all i h few), a.0, names_size base all (i + 1) ps h few a.1)

lines_size : (l : Layout) (all : List (List ℕ)) (i : ℕ) (ps : List (List ℕ)) → IsSmall l → length all ≤ 16 → length (lines_text l all i ps) ≤ 60 * length ps
lines_size l all i [] s few = omega arith
lines_size l all i (p ∷ ps) s few =
    let x = x_of l.base all i in
    omega (arith, length-append (line_text l x) (lines_text l all (i + 1) ps), line_size l x s (x_low l.base all i s.base few), lines_size l all (i + 1) ps s few)

parties_size : (l : Layout) (ps : List (List ℕ)) → IsSmall l → length ps ≤ 16 → AllByRecursion (λ p. length p ≤ 64) ps → length (parties_text l ps) ≤ 7000
parties_size l ps s few a =
    omega (
      arith,
      length-append (names_text l.base ps 0 ps) (codes "</g>\n" ++ lines_text l ps 0 ps),
      length-append (codes "</g>\n") (lines_text l ps 0 ps),
      names_size l.base ps 0 ps s.base few a,
      lines_size l ps 0 ps s few,
      few,
    )

arrows_size : (base : ℕ) (ps : List (List ℕ)) (k : ℕ) (xs : List ArrowAt) → base ≤ 4120 → length ps ≤ 16 → k + length xs ≤ 1000000
    → AllByRecursion (λ a. length a.name + length a.text ≤ 1024) xs → length (arrows_text base ps k xs) ≤ 10440 * length xs
arrows_size base ps k [] h few more a = omega arith
arrows_size base ps k (x ∷ xs) h few more a =
    omega (
      arith,
      length-append (arrow_text base ps k x) (arrows_text base ps (k + 1) xs),
      arrow_size base ps k x h few (omega (arith, more)),
      a.0,
      arrows_size base ps (k + 1) xs h few (omega (arith, more)) a.1,
    )

-- the limits that a chart within them keeps
record IsWithin (parties arrows names texts : ℕ) : Type 0 where
  few_parties : parties ≤ 16
  few_arrows : arrows ≤ 1000000
  low_names : names ≤ 64
  low_texts : texts ≤ 1024

both : (a b : Bool) → (a && b) ≡ true → (a ≡ true) × (b ≡ true)
both true true h = (h, h)
both true false h = cc
both false b h = cc

le_of : (m n : ℕ) → nat_le m n ≡ true → m ≤ n
le_of m n h = search (rules, tests)

within : (a b c d e : ℕ) → (nat_le a 16 && nat_le b 1664 && nat_le c 1000000 && nat_le d 64 && nat_le e 1024) ≡ true → IsWithin a c d e
within a b c d e h =
    let h4 = both (nat_le a 16 && nat_le b 1664 && nat_le c 1000000 && nat_le d 64) (nat_le e 1024) h in
    let h3 = both (nat_le a 16 && nat_le b 1664 && nat_le c 1000000) (nat_le d 64) h4.0 in
    let h2 = both (nat_le a 16 && nat_le b 1664) (nat_le c 1000000) h3.0 in
    let h1 = both (nat_le a 16) (nat_le b 1664) h2.0 in
    record { few_parties = le_of a 16 h1.0; few_arrows = le_of c 1000000 h2.1; low_names = le_of d 64 h3.1; low_texts = le_of e 1024 h4.1 }

side_low : (b : Bool) (x : ℕ) → x ≤ 4120 → (if b then x else 0) ≤ 4120
side_low true x h = h
side_low false x h = omega arith

small : (g : ChartAt) → IsWithin (length g.parties) (length g.arrows) g.names g.texts → IsSmall (layout_of g)
small g w =
    let low : base_of g ≤ 4120 = omega (arith, w.low_texts) in
    record {
      base = low;
      width = omega (arith, x_low (base_of g) g.parties (length g.parties) low w.few_parties, side_low g.hooks (base_of g) low);
      height_low = omega arith;
      height = omega (arith, row_low (length g.arrows) w.few_arrows);
    }

-- five parts, one after another
lengths : (a b c d e : List ℕ) → length (a ++ (b ++ (c ++ (d ++ e)))) ≡ length a + (length b + (length c + (length d + length e)))
lengths a b c d e = omega (arith, length-append a (b ++ (c ++ (d ++ e))), length-append b (c ++ (d ++ e)), length-append c (d ++ e), length-append d e)

pub growth : (g : ChartAt) (lines : List (List ℕ)) → gathered empty 1 lines ≡ Gathered g → length (picture g) ≤ length STYLE.now + (10000 + 10440 * length lines)
growth g lines e =
    let r = roomy g lines e in
    let w = within (length g.parties) (length g.sessions) (length g.arrows) g.names g.texts r.within in
    let l = layout_of g in let s = small g w in
    omega (
      arith,
      lengths (head_text l) STYLE.now (parties_text l g.parties) (arrows_text l.base g.parties 0 g.arrows) (foot_text l),
      head_size l s,
      parties_size l g.parties s w.few_parties (wider (λ p. length p) g.names 64 g.parties w.low_names r.parties),
      arrows_size l.base g.parties 0 g.arrows s.base w.few_parties (omega (arith, w.few_arrows)) (wider (λ a. length a.name + length a.text) g.texts 1024 g.arrows w.low_texts r.arrows),
      foot_size l s,
      r.few,
    )
