-- Canonical texts of statements on one line are statements again, equal but for lines.
use Rattle.std.proofs.Common.{◌≡◌, ℕ, List, [], ◌∷◌, ◌++◌, refl, ap, ◌∙◌, append_assoc}
use Rattle.std.specs.Prelude.{codes}
use Rattle.sj_lang.specs.declared.party.Scalar.{Scalar}
use Rattle.sj_lang.specs.Code.{at, send, delegate, take_value, take_end, outbranch, let_be, close, request, accept}
use Rattle.sj_lang.specs.Term.{Term}
use Rattle.sj_lang.specs.Limits.{Limits}
use Rattle.sj_grammar.specs.Tables.{Spelling, IsNamed}
use Rattle.sj_grammar.specs.Positions.{Pieces, plain, first_on, all_plain, spellings}
use Rattle.sj_grammar.specs.Expressions.{IsExpression, whole}
use Rattle.sj_grammar.specs.Statements.{scalar_piece}
use Rattle.sj_grammar.specs.Statements as grammar
use Rattle.sj_grammar.proofs.LexingLemmas.{read}
use Rattle.sj_party.specs.CanonicalExpression.{expression_text}
use Rattle.sj_party.specs.CanonicalCode.{named_text, pair_text, valued_text, given_text, stmt_text, deed_text}
use Rattle.sj_party.proofs.AddAlike.{AddAlike, alike_same, alike_cons}
use Rattle.sj_party.proofs.PrintableLemmas.{expression_pieces}
use Rattle.sj_party.proofs.PieceTextLemmas.{AreBlank}
use Rattle.sj_party.proofs.ExpressionTextLemmas.{word_lines}
use Rattle.sj_party.proofs.LineLemmas.{adds_append, expression_again, expression_adds, name_has}
use Rattle.sj_party.proofs.HeadLemmas.{ended, pair_tail, given_tail, pair_has, given_has, let_has, take_has, three_has}
use Rattle.sj_party.proofs.BlockLineLemmas.{StmtAgain, on_one_line}

module _ (L : Limits) (names : Spelling) where
  -- what heads are, after their keyword
  pub named_is : (w : List ℕ) (x : ℕ) → named_text names (w ++ codes " ") x ≡ w ++ (32 ∷ names.word x)
  unfolding named_text
  named_is w x = append_assoc w (codes " ") (names.word x)

  pub pair_is : (w : List ℕ) (x y : ℕ) → pair_text names (w ++ codes " ") x y ≡ w ++ pair_tail L names x y
  unfolding named_text pair_text
  pair_is w x y = append_assoc (w ++ codes " ") (names.word x) (32 ∷ names.word y) ∙ append_assoc w (codes " ") (names.word x ++ (32 ∷ names.word y))

  pub valued_is : (w : List ℕ) (t : Term) → valued_text names (w ++ codes " ") t ≡ w ++ (32 ∷ expression_text names whole t)
  unfolding valued_text
  valued_is w t = append_assoc w (codes " ") (expression_text names whole t)

  pub given_is : (w : List ℕ) (x : ℕ) (mark : List ℕ) (t : Term) → given_text names (w ++ codes " ") x mark t ≡ w ++ given_tail L names x mark t
  unfolding named_text valued_text given_text
  given_is w x mark t = append_assoc (w ++ codes " ") (names.word x) (mark ++ expression_text names whole t) ∙ append_assoc w (codes " ") (names.word x ++ (mark ++ expression_text names whole t))

  ended_adds : (t : Term) (e : Pieces) → IsExpression L names t e → AddAlike (spellings (all_plain e ++ plain (codes ";") ∷ [])) (spellings (all_plain (expression_pieces names whole t) ++ plain (codes ";") ∷ []))
  ended_adds t e h = adds_append (all_plain e) (plain (codes ";") ∷ []) (all_plain (expression_pieces names whole t)) (plain (codes ";") ∷ []) (expression_adds L names t e h) (alike_same (codes ";" ∷ []))

  take_end_is : (x y p : ℕ) → pair_text names (codes "recv ") x y ++ (named_text names (codes " session ") p ++ codes ";") ≡ codes "recv" ++ (pair_tail L names x y ++ ((codes " session" ++ (32 ∷ names.word p)) ++ codes ";"))
  unfolding named_text
  take_end_is x y p = ap (λ h. h ++ (named_text names (codes " session ") p ++ codes ";")) (pair_is (codes "recv") x y)

  request_is : (x p b : ℕ) → pair_text names (codes "request ") x p ++ (named_text names (codes " to ") b ++ codes ";") ≡ codes "request" ++ (pair_tail L names x p ++ ((codes " to" ++ (32 ∷ names.word b)) ++ codes ";"))
  unfolding named_text
  request_is x p b = ap (λ h. h ++ (named_text names (codes " to ") b ++ codes ";")) (pair_is (codes "request") x p)

  accept_is : (x p b : ℕ) → pair_text names (codes "accept ") x p ++ (named_text names (codes " from ") b ++ codes ";") ≡ codes "accept" ++ (pair_tail L names x p ++ ((codes " from" ++ (32 ∷ names.word b)) ++ codes ";"))
  unfolding named_text
  accept_is x p b = ap (λ h. h ++ (named_text names (codes " from ") b ++ codes ";")) (pair_is (codes "accept") x p)

  module _ (o n l : ℕ) (before g rest : List ℕ) (blank : AreBlank g) where
    pub send_again : (x : ℕ) (t : Term) (e : Pieces) → IsNamed L names.word x → IsExpression L names t e
        → StmtAgain L names o (at l (send x t)) (first_on l (codes "send") ∷ plain (names.word x) ∷ (all_plain e ++ plain (codes ";") ∷ [])) (read before (g ++ (stmt_text names n (at l (send x t)) ++ rest))) rest
    send_again x t e is h =
        on_one_line L names o n (codes "send") (given_tail L names x (codes " ") t ++ codes ";") (deed_text names n (send x t)) (plain (names.word x) ∷ (all_plain (expression_pieces names whole t) ++ plain (codes ";") ∷ []))
        (first_on l (codes "send") ∷ plain (names.word x) ∷ (all_plain e ++ plain (codes ";") ∷ [])) (at l (send x t)) (λ k. at k (send x t)) before g rest refl (λ more. refl)
        (ended (given_tail L names x (codes " ") t) (plain (names.word x) ∷ all_plain (expression_pieces names whole t)) (given_has L names x t e is h)) blank (ap (λ u. u ++ codes ";") (given_is (codes "send") x (codes " ") t)) (λ k. refl)
        (λ k. grammar.of_send is (expression_again L names t e h)) (alike_cons (codes "send") ((names.word x) ∷ spellings (all_plain e ++ plain (codes ";") ∷ [])) ((names.word x) ∷ spellings (all_plain (expression_pieces names whole t) ++ plain (codes ";") ∷ [])) (alike_cons (names.word x) (spellings (all_plain e ++ plain (codes ";") ∷ [])) (spellings (all_plain (expression_pieces names whole t) ++ plain (codes ";") ∷ [])) (ended_adds t e h)))

    pub let_again : (x : ℕ) (t : Term) (e : Pieces) → IsNamed L names.word x → IsExpression L names t e
        → StmtAgain L names o (at l (let_be x t)) (first_on l (codes "let") ∷ plain (names.word x) ∷ plain (codes "=") ∷ (all_plain e ++ plain (codes ";") ∷ [])) (read before (g ++ (stmt_text names n (at l (let_be x t)) ++ rest))) rest
    let_again x t e is h =
        on_one_line L names o n (codes "let") (given_tail L names x (codes " = ") t ++ codes ";") (deed_text names n (let_be x t)) (plain (names.word x) ∷ plain (codes "=") ∷ (all_plain (expression_pieces names whole t) ++ plain (codes ";") ∷ []))
        (first_on l (codes "let") ∷ plain (names.word x) ∷ plain (codes "=") ∷ (all_plain e ++ plain (codes ";") ∷ [])) (at l (let_be x t)) (λ k. at k (let_be x t)) before g rest refl (λ more. refl)
        (ended (given_tail L names x (codes " = ") t) (plain (names.word x) ∷ plain (codes "=") ∷ all_plain (expression_pieces names whole t)) (let_has L names x t e is h)) blank (ap (λ u. u ++ codes ";") (given_is (codes "let") x (codes " = ") t)) (λ k. refl)
        (λ k. grammar.of_let is (expression_again L names t e h)) (alike_cons (codes "let") ((names.word x) ∷ (codes "=") ∷ spellings (all_plain e ++ plain (codes ";") ∷ [])) ((names.word x) ∷ (codes "=") ∷ spellings (all_plain (expression_pieces names whole t) ++ plain (codes ";") ∷ [])) (alike_cons (names.word x) ((codes "=") ∷ spellings (all_plain e ++ plain (codes ";") ∷ [])) ((codes "=") ∷ spellings (all_plain (expression_pieces names whole t) ++ plain (codes ";") ∷ [])) (alike_cons (codes "=") (spellings (all_plain e ++ plain (codes ";") ∷ [])) (spellings (all_plain (expression_pieces names whole t) ++ plain (codes ";") ∷ [])) (ended_adds t e h))))

    pub delegate_again : (x y : ℕ) → IsNamed L names.word x → IsNamed L names.word y
        → StmtAgain L names o (at l (delegate x y)) (first_on l (codes "delegate") ∷ plain (names.word x) ∷ plain (names.word y) ∷ plain (codes ";") ∷ []) (read before (g ++ (stmt_text names n (at l (delegate x y)) ++ rest))) rest
    delegate_again x y is also =
        on_one_line L names o n (codes "delegate") (pair_tail L names x y ++ codes ";") (deed_text names n (delegate x y)) (plain (names.word x) ∷ plain (names.word y) ∷ plain (codes ";") ∷ [])
        (first_on l (codes "delegate") ∷ plain (names.word x) ∷ plain (names.word y) ∷ plain (codes ";") ∷ []) (at l (delegate x y)) (λ k. at k (delegate x y)) before g rest refl (λ more. refl)
        (ended (pair_tail L names x y) (plain (names.word x) ∷ plain (names.word y) ∷ []) (pair_has L names x y is also)) blank (ap (λ u. u ++ codes ";") (pair_is (codes "delegate") x y)) (λ k. refl) (λ k. grammar.of_delegate is also) (alike_same _)

    pub outbranch_again : (x y : ℕ) → IsNamed L names.word x → IsNamed L names.word y
        → StmtAgain L names o (at l (outbranch x y)) (first_on l (codes "outbranch") ∷ plain (names.word x) ∷ plain (names.word y) ∷ plain (codes ";") ∷ []) (read before (g ++ (stmt_text names n (at l (outbranch x y)) ++ rest))) rest
    outbranch_again x y is also =
        on_one_line L names o n (codes "outbranch") (pair_tail L names x y ++ codes ";") (deed_text names n (outbranch x y)) (plain (names.word x) ∷ plain (names.word y) ∷ plain (codes ";") ∷ [])
        (first_on l (codes "outbranch") ∷ plain (names.word x) ∷ plain (names.word y) ∷ plain (codes ";") ∷ []) (at l (outbranch x y)) (λ k. at k (outbranch x y)) before g rest refl (λ more. refl)
        (ended (pair_tail L names x y) (plain (names.word x) ∷ plain (names.word y) ∷ []) (pair_has L names x y is also)) blank (ap (λ u. u ++ codes ";") (pair_is (codes "outbranch") x y)) (λ k. refl) (λ k. grammar.of_outbranch is also) (alike_same _)

    pub take_again : (x y : ℕ) (d : Scalar) → IsNamed L names.word x → IsNamed L names.word y
        → StmtAgain L names o (at l (take_value x y d)) (first_on l (codes "recv") ∷ plain (names.word x) ∷ plain (names.word y) ∷ plain (scalar_piece d) ∷ plain (codes ";") ∷ []) (read before (g ++ (stmt_text names n (at l (take_value x y d)) ++ rest))) rest
    take_again x y d is also =
        on_one_line L names o n (codes "recv") (pair_tail L names x y ++ (codes " " ++ (scalar_piece d ++ codes ";"))) (deed_text names n (take_value x y d)) (plain (names.word x) ∷ plain (names.word y) ∷ plain (scalar_piece d) ∷ plain (codes ";") ∷ [])
        (first_on l (codes "recv") ∷ plain (names.word x) ∷ plain (names.word y) ∷ plain (scalar_piece d) ∷ plain (codes ";") ∷ []) (at l (take_value x y d)) (λ k. at k (take_value x y d)) before g rest refl (λ more. refl)
        (take_has L names x y d is also) blank (ap (λ u. u ++ (codes " " ++ (scalar_piece d ++ codes ";"))) (pair_is (codes "recv") x y)) (λ k. refl) (λ k. grammar.of_take is also) (alike_same _)

    pub take_end_again : (x y p : ℕ) → IsNamed L names.word x → IsNamed L names.word y → IsNamed L names.word p
        → StmtAgain L names o (at l (take_end x y p)) (first_on l (codes "recv") ∷ plain (names.word x) ∷ plain (names.word y) ∷ plain (codes "session") ∷ plain (names.word p) ∷ plain (codes ";") ∷ []) (read before (g ++ (stmt_text names n (at l (take_end x y p)) ++ rest))) rest
    take_end_again x y p is also third =
        on_one_line L names o n (codes "recv") (pair_tail L names x y ++ ((codes " session" ++ (32 ∷ names.word p)) ++ codes ";")) (deed_text names n (take_end x y p)) (plain (names.word x) ∷ plain (names.word y) ∷ plain (codes "session") ∷ plain (names.word p) ∷ plain (codes ";") ∷ [])
        (first_on l (codes "recv") ∷ plain (names.word x) ∷ plain (names.word y) ∷ plain (codes "session") ∷ plain (names.word p) ∷ plain (codes ";") ∷ []) (at l (take_end x y p)) (λ k. at k (take_end x y p)) before g rest refl (λ more. refl)
        (three_has L names (codes "session") x y p (word_lines (codes "session") refl) is also third) blank (take_end_is x y p) (λ k. refl) (λ k. grammar.of_take_end is also third) (alike_same _)

    pub close_again : (x : ℕ) → IsNamed L names.word x → StmtAgain L names o (at l (close x)) (first_on l (codes "close") ∷ plain (names.word x) ∷ plain (codes ";") ∷ []) (read before (g ++ (stmt_text names n (at l (close x)) ++ rest))) rest
    close_again x is =
        on_one_line L names o n (codes "close") ((32 ∷ names.word x) ++ codes ";") (deed_text names n (close x)) (plain (names.word x) ∷ plain (codes ";") ∷ []) (first_on l (codes "close") ∷ plain (names.word x) ∷ plain (codes ";") ∷ []) (at l (close x)) (λ k. at k (close x)) before g rest refl (λ more. refl)
        (ended (32 ∷ names.word x) (plain (names.word x) ∷ []) (name_has L names x is)) blank (ap (λ u. u ++ codes ";") (named_is (codes "close") x)) (λ k. refl) (λ k. grammar.of_close is) (alike_same _)

    pub request_again : (x p b : ℕ) → IsNamed L names.word x → IsNamed L names.word p → IsNamed L names.word b
        → StmtAgain L names o (at l (request x p b)) (first_on l (codes "request") ∷ plain (names.word x) ∷ plain (names.word p) ∷ plain (codes "to") ∷ plain (names.word b) ∷ plain (codes ";") ∷ []) (read before (g ++ (stmt_text names n (at l (request x p b)) ++ rest))) rest
    request_again x p b is also third =
        on_one_line L names o n (codes "request") (pair_tail L names x p ++ ((codes " to" ++ (32 ∷ names.word b)) ++ codes ";")) (deed_text names n (request x p b)) (plain (names.word x) ∷ plain (names.word p) ∷ plain (codes "to") ∷ plain (names.word b) ∷ plain (codes ";") ∷ [])
        (first_on l (codes "request") ∷ plain (names.word x) ∷ plain (names.word p) ∷ plain (codes "to") ∷ plain (names.word b) ∷ plain (codes ";") ∷ []) (at l (request x p b)) (λ k. at k (request x p b)) before g rest refl (λ more. refl)
        (three_has L names (codes "to") x p b (word_lines (codes "to") refl) is also third) blank (request_is x p b) (λ k. refl) (λ k. grammar.of_request is also third) (alike_same _)

    pub accept_again : (x p b : ℕ) → IsNamed L names.word x → IsNamed L names.word p → IsNamed L names.word b
        → StmtAgain L names o (at l (accept x p b)) (first_on l (codes "accept") ∷ plain (names.word x) ∷ plain (names.word p) ∷ plain (codes "from") ∷ plain (names.word b) ∷ plain (codes ";") ∷ []) (read before (g ++ (stmt_text names n (at l (accept x p b)) ++ rest))) rest
    accept_again x p b is also third =
        on_one_line L names o n (codes "accept") (pair_tail L names x p ++ ((codes " from" ++ (32 ∷ names.word b)) ++ codes ";")) (deed_text names n (accept x p b)) (plain (names.word x) ∷ plain (names.word p) ∷ plain (codes "from") ∷ plain (names.word b) ∷ plain (codes ";") ∷ [])
        (first_on l (codes "accept") ∷ plain (names.word x) ∷ plain (names.word p) ∷ plain (codes "from") ∷ plain (names.word b) ∷ plain (codes ";") ∷ []) (at l (accept x p b)) (λ k. at k (accept x p b)) before g rest refl (λ more. refl)
        (three_has L names (codes "from") x p b (word_lines (codes "from") refl) is also third) blank (accept_is x p b) (λ k. refl) (λ k. grammar.of_accept is also third) (alike_same _)
