-- What was read once the reader stands at a position.
use Rattle.std.proofs.Common.{◌≡◌, subst, ℕ, ◌+◌, ◌-◌, ◌<◌, ◌≤◌, List, ◌++◌, length, take, drop, Ok, Err, Result, ap, sym, ◌∙◌, arith, length-drop}
use Rattle.std.proofs.Math.Seq.{take-add}
use Rattle.std.proofs.lemmas.List.{take_all, take-append-drop, length-take-le, drop-drop}
use Rattle.sj_grammar.specs.declared.tokens.What.{What}
use Rattle.sj_grammar.specs.declared.tokens.Rule.{Rule}
use Rattle.sj_grammar.specs.declared.tokens.Token.{Token}
use Rattle.sj_grammar.specs.declared.tokens.Fault.{Fault}
use Rattle.sj_grammar.specs.Lexis.{Ahead, bad, token, next_of}
use Rattle.sj_proto.specs.declared.scan.Found.{Found}
use Rattle.sj_proto.specs.declared.scan.Found.TheVariants as found
use Rattle.sj_proto.specs.Found.{found_of, spot_of, IsAhead, IsPosition}
use Rattle.sj_grammar.specs.Refusals.{first_rule, fault_next}
use Rattle.sj_grammar.specs.Asked.{TakesText}
use Rattle.sj_grammar.specs.Reading.{Reading, passed, before_next, token_at, answer_to, reading_after, line_number, column_number}

abbrev pub reading_at : List ℕ → ℕ → Reading
reading_at xs at = record { before = take at xs; ahead = drop at xs }

pub passed_is : (xs : List ℕ) (at to : ℕ) → at ≤ to → to ≤ length xs → passed (reading_at xs at) (drop to xs) ≡ take to xs
passed_is xs at to later within =
    let n : length (drop at xs) - length (drop to xs) ≡ to - at = omega (arith, length-drop at xs, length-drop to xs) in
    let whole : at + (to - at) ≡ to = omega arith in
    ap (λ k. take at xs ++ take k (drop at xs)) n ∙ sym (take-add at (to - at) xs) ∙ ap (λ k. take k xs) whole

-- a piece, and what is after it
pub piece_and_rest : (xs : List ℕ) (from to : ℕ) → from ≤ to → take (to - from) (drop from xs) ++ drop to xs ≡ drop from xs
piece_and_rest xs from to later =
    let whole : from + (to - from) ≡ to = omega arith in
    ap (λ k. take (to - from) (drop from xs) ++ drop k xs) (sym whole)
    ∙ ap (λ r. take (to - from) (drop from xs) ++ r) (sym (drop-drop (to - from) from xs))
    ∙ take-append-drop (to - from) (drop from xs)

pub bad_answer : (xs : List ℕ) (at to : ℕ) (rule : Rule) (l c : ℕ) → at ≤ to → to ≤ length xs → IsPosition xs to l c
    → ◌≡◌ {A = Result Token Fault} (Err (record { rule = rule; line = l; column = c })) (answer_to (reading_at xs at) (bad rule (drop to xs)))
bad_answer xs at to rule l c later within position =
    let line : l ≡ line_number (passed (reading_at xs at) (drop to xs)) = position.line ∙ ap line_number (sym (passed_is xs at to later within)) in
    let column : c ≡ column_number (passed (reading_at xs at) (drop to xs)) = position.column ∙ ap column_number (sym (passed_is xs at to later within)) in
    λ i. Err (record { rule = rule; line = line i; column = column i })

pub piece_answer : (xs : List ℕ) (at from to : ℕ) (what : What) (l c : ℕ) → at ≤ from → from < to → to ≤ length xs → IsPosition xs from l c
    → ◌≡◌ {A = Result Token Fault} (Ok (record { what = what; from = from; to = to; line = l; column = c }))
    (answer_to (reading_at xs at) (token what (take (to - from) (drop from xs)) (drop to xs)))
piece_answer xs at from to what l c later some within position =
    let piece = take (to - from) (drop from xs) in
    let before : take from xs ≡ passed (reading_at xs at) (piece ++ drop to xs) =
    sym (ap (passed (reading_at xs at)) (piece_and_rest xs from to (omega arith)) ∙ passed_is xs at from later (omega arith)) in
    let long : length (take from xs) ≡ from = length-take-le from xs (omega arith) in
    let size : length piece ≡ to - from = length-take-le (to - from) (drop from xs) (omega (arith, length-drop from xs)) in
    let end : to ≡ from + length piece = omega arith in
    let here : ◌≡◌ {A = Token} (record { what = what; from = from; to = to; line = l; column = c }) (token_at (take from xs) what piece) =
    λ i. record { what = what; from = sym long i; to = (end ∙ ap (λ k. k + length piece) (sym long)) i; line = position.line i; column = position.column i } in
    ap Ok here ∙ ap (λ b. Ok (token_at b what piece)) before

pub piece_after : (xs : List ℕ) (at from to : ℕ) (what : What) → at ≤ from → from < to → to ≤ length xs
    → reading_at xs to ≡ reading_after (reading_at xs at) (token what (take (to - from) (drop from xs)) (drop to xs))
piece_after xs at from to what later some within =
    let before : take to xs ≡ passed (reading_at xs at) (drop to xs) = sym (passed_is xs at to (omega arith) within) in
    λ i. record { before = before i; ahead = drop to xs }

-- what stands before what was found
pub before_is : (xs : List ℕ) (at : ℕ) (f : Found) → at ≤ length xs → IsAhead at xs f → take (spot_of xs f) xs ≡ before_next (reading_at xs at) (found_of xs f)
before_is xs at found.Nothing within ahead = take_all (length xs) xs (omega arith) ∙ sym (take-append-drop at xs)
before_is xs at (found.Bad rule p) within ahead = sym (passed_is xs at p ahead.0 ahead.1)
before_is xs at (found.Piece what from to) within ahead =
    sym (ap (passed (reading_at xs at)) (piece_and_rest xs from to (omega (arith, ahead.1))) ∙ passed_is xs at from ahead.0 (omega (arith, ahead.1, ahead.2)))

pub spot_is : (xs : List ℕ) (at : ℕ) (f : Found) → at ≤ length xs → IsAhead at xs f → (at ≤ spot_of xs f) × (spot_of xs f ≤ length xs)
spot_is xs at found.Nothing within ahead = (within, omega arith)
spot_is xs at (found.Bad rule p) within ahead = ahead
spot_is xs at (found.Piece what from to) within ahead = (ahead.0, omega (arith, ahead.1, ahead.2))

pub fault_found : (xs : List ℕ) (at : ℕ) (rule : Rule) (f : Found) (x : Ahead) (r : Reading) (l c : ℕ) → reading_at xs at ≡ r → found_of xs f ≡ x → at ≤ length xs → IsAhead at xs f → IsPosition xs (spot_of xs f) l c
    → ◌≡◌ {A = Fault} (record { rule = first_rule rule (found_of xs f); line = l; column = c }) (fault_next r rule x)
fault_found xs at rule f x r l c same next within ahead position =
    let before : take (spot_of xs f) xs ≡ before_next r x = before_is xs at f within ahead ∙ (λ i. before_next (same i) (next i)) in
    let line : l ≡ line_number (before_next r x) = position.line ∙ ap line_number before in
    let column : c ≡ column_number (before_next r x) = position.column ∙ ap column_number before in
    λ i. record { rule = first_rule rule (next i); line = line i; column = column i }

pub taken_is : (xs : List ℕ) (at from to : ℕ) (what : What) (s : List ℕ) (r : Reading) → reading_at xs at ≡ r → found_of xs (found.Piece what from to) ≡ next_of (drop at xs)
    → take (to - from) (drop from xs) ≡ s → at ≤ from → from < to → to ≤ length xs → TakesText r s (reading_at xs to)
taken_is xs at from to what s r e ahead same later some within =
    subst (λ (q : Reading). TakesText q s (reading_at xs to)) e (record {
      what = what;
      rest = drop to xs;
      token = sym ahead ∙ ap (λ (t : List ℕ). token what t (drop to xs)) same;
      there = λ i. record { before = sym (passed_is xs at to (omega arith) within) i; ahead = drop to xs };
    })
