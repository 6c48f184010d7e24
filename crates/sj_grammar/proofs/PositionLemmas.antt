-- Two positions of a text differ in their line or their column.
use Rattle.std.proofs.Common.{◌≡◌, ℕ, suc, ◌+◌, ◌-◌, ◌<◌, ◌≤◌, Bool, true, false, List, [], ◌∷◌, ◌++◌, length, take, refl, ap, sym, ◌∙◌, append_assoc, arith, length-append}
use Rattle.std.specs.Prelude.{if◌then◌else◌, ◌==◌}
use Rattle.std.specs.List.{fold}
use Rattle.std.proofs.lemmas.List.Sums.{fold-append}
use Rattle.std.proofs.Math.Seq.{take-append_seam}
use Rattle.sj_grammar.specs.declared.tokens.What.{What}
use Rattle.sj_grammar.specs.declared.tokens.Rule.{Rule}
use Rattle.sj_grammar.specs.declared.tokens.Fault.{Fault}
use Rattle.sj_grammar.specs.Lexis.{Ahead, at_end, bad, token, next_of}
use Rattle.sj_grammar.specs.Reading.{Reading, line_number, column_number, passed, before_next, fault_at}
use Rattle.sj_grammar.proofs.SplitLemmas.{next_split}

abbrev pub lines_from : ℕ → List ℕ → ℕ
lines_from l bs = fold (λ n b. if b == 10 then n + 1 else n) l bs

abbrev columns_from : ℕ → List ℕ → ℕ
columns_from c bs = fold (λ n b. if b == 10 then 1 else n + 1) c bs

lines_grow : (bs : List ℕ) (l : ℕ) → l ≤ lines_from l bs
lines_grow [] l = omega arith
lines_grow (b ∷ bs) l = by_test (b == 10) (lines_grow bs (l + 1)) (lines_grow bs l)
  where
    by_test : (x : Bool) → l + 1 ≤ lines_from (l + 1) bs → l ≤ lines_from l bs → l ≤ lines_from (if x then l + 1 else l) bs
    by_test true down along = omega (arith, down)
    by_test false down along = along

-- on one line the column grows
columns_grow : (bs : List ℕ) (l c : ℕ) → lines_from l bs ≡ l → columns_from c bs ≡ c + length bs
columns_grow [] l c e = omega arith
columns_grow (b ∷ bs) l c e = by_test (columns_grow bs l (c + 1)) (b == 10) e
  where
    by_test : (lines_from l bs ≡ l → columns_from (c + 1) bs ≡ (c + 1) + length bs) → (x : Bool) → lines_from (if x then l + 1 else l) bs ≡ l → columns_from (if x then 1 else c + 1) bs ≡ c + suc (length bs)
    by_test along true h = absurd (omega (arith, lines_grow bs (l + 1)))
    by_test along false h = omega (arith, along h)

pub two_places : (xs ys : List ℕ) (p q : Rule) → 0 < length ys → fault_at xs p ≡ fault_at (xs ++ ys) q → ⊥
two_places xs ys p q some e =
    let line : lines_from (line_number xs) ys ≡ line_number xs = sym (fold-append (λ n b. if b == 10 then n + 1 else n) 1 xs ys) ∙ sym (ap (λ (f : Fault). f.line) e) in
    let column : columns_from (column_number xs) ys ≡ column_number xs = sym (fold-append (λ n b. if b == 10 then 1 else n + 1) 1 xs ys) ∙ sym (ap (λ (f : Fault). f.column) e) in
    omega (arith, columns_grow ys (line_number xs) (column_number xs) line)

take_front : (xs ys : List ℕ) → take (length (xs ++ ys) - length ys) (xs ++ ys) ≡ xs
take_front xs ys = let n : length (xs ++ ys) - length ys ≡ length xs = omega (arith, length-append xs ys) in ap (λ k. take k (xs ++ ys)) n ∙ take-append_seam xs ys

passed_front : (before ahead pre rest : List ℕ) → ahead ≡ pre ++ rest → passed (record { before = before; ahead = ahead }) rest ≡ before ++ pre
passed_front before ahead pre rest e = ap (λ (t : List ℕ). before ++ take (length t - length rest) t) e ∙ ap (λ t. before ++ t) (take_front pre rest)

-- what stands before what comes next goes on from what was read
pub before_goes_on : (r : Reading) (x : Ahead) → (more : List ℕ) × (before_next r x ≡ r.before ++ more)
before_goes_on r at_end = (r.ahead, refl)
before_goes_on r (bad rule rest) = (take (length r.ahead - length rest) r.ahead, refl)
before_goes_on r (token what s rest) = (take (length r.ahead - length (s ++ rest)) r.ahead, refl)

-- a fault at a token differs from any after it
pub two_faults : (r : Reading) (what : What) (s rest : List ℕ) (x : Ahead) (p q : Rule) → next_of r.ahead ≡ token what s rest
    → fault_at (before_next r (token what s rest)) p ≡ fault_at (before_next (record { before = passed r rest; ahead = rest }) x) q → ⊥
two_faults r what s rest x p q next e =
    let split = next_split r.ahead what s rest next in
    let here : before_next r (token what s rest) ≡ r.before ++ split.skipped = passed_front r.before r.ahead split.skipped (s ++ rest) split.whole in
    let behind : passed r rest ≡ r.before ++ (split.skipped ++ s) = passed_front r.before r.ahead (split.skipped ++ s) rest (split.whole ∙ sym (append_assoc split.skipped s rest)) in
    let on = before_goes_on (record { before = passed r rest; ahead = rest }) x in
    let there : before_next (record { before = passed r rest; ahead = rest }) x ≡ (r.before ++ split.skipped) ++ (s ++ on.0) =
    on.1 ∙ ap (λ t. t ++ on.0) behind ∙ ap (λ t. t ++ on.0) (sym (append_assoc r.before split.skipped s)) ∙ append_assoc (r.before ++ split.skipped) s on.0 in
    two_places (r.before ++ split.skipped) (s ++ on.0) p q (omega (arith, split.some, length-append s on.0))
    (sym (ap (λ t. fault_at t p) here) ∙ e ∙ ap (λ t. fault_at t q) there)
