-- The canonical text of small files.
use Rattle.std.specs.Prelude.{◌≡◌, refl, ℕ, List, [], ◌∷◌, ◌++◌, pos, negsuc, true, codes}
use Rattle.std.specs.Fmt.{digits}
use Rattle.sj_lang.specs.declared.proto.Way.TheVariants.{Out, Into}
use Rattle.sj_lang.specs.declared.party.Op.TheVariants.{Add, Sub, Mul, Less, LessEq, Equal}
use Rattle.sj_lang.specs.declared.party.Scalar.TheVariants as scalars
use Rattle.sj_lang.specs.Place.{done, message}
use Rattle.sj_lang.specs.Place as place
use Rattle.sj_lang.specs.Term.{Term, int, boolean, text, var, not, two}
use Rattle.sj_lang.specs.Code.{no_stmt, stmt_then, at, send, take_value, outbranch, inbranch, outwhile, if_else, let_be, close, request, accept, no_branch, branch}
use Rattle.sj_lang.specs.FileAt.{FileAt}
use Rattle.sj_grammar.specs.Tables.{Spelling}
use Rattle.sj_grammar.specs.Expressions.{whole}
use Rattle.sj_party.specs.CanonicalExpression.{expression_text}
use Rattle.sj_party.specs.CanonicalCode.{in_block, named_text, pair_text, valued_text, given_text, stmt_text, deed_text}
use Rattle.sj_party.specs.CanonicalFile.{end_text, protocol_line, file_text}

-- names of one letter, from `a` on, and one text
abbrev letters : Spelling
letters = record { word = λ n. codes "a"; text = λ n. codes "Paris" }

abbrev a : Term
a = var 0

abbrev written : Term → List ℕ
written t = expression_text letters whole t

pub sums_and_terms_group_to_the_left : written (two Sub (two Add a (two Mul (two Mul a a) a)) a) ≡ codes "a + a * a * a - a"
sums_and_terms_group_to_the_left = refl

pub a_sum_on_the_right_is_enclosed : written (two Sub a (two Sub a a)) ≡ codes "a - (a - a)"
a_sum_on_the_right_is_enclosed = refl

pub a_product_on_the_right_is_enclosed : written (two Mul a (two Mul a a)) ≡ codes "a * (a * a)"
a_product_on_the_right_is_enclosed = refl

pub a_sum_under_a_product_is_enclosed : written (two Mul (two Add a a) (two Sub a a)) ≡ codes "(a + a) * (a - a)"
a_sum_under_a_product_is_enclosed = refl

pub a_comparison_is_enclosed : written (two Equal (two Less a a) (boolean true)) ≡ codes "(a < a) == true"
a_comparison_is_enclosed = refl

pub not_takes_a_factor : written (two LessEq (not (not (two Mul a a))) (two Mul (not a) a)) ≡ codes "not not (a * a) <= not a * a"
not_takes_a_factor = refl

pub a_text_has_its_quotes : written (two Equal (text 0) a) ≡ codes "\"Paris\" == a"
a_text_has_its_quotes = refl

pub a_negative_number_has_a_minus : written (two Sub (int (pos 0)) (int (negsuc 6))) ≡ codes "0 - -7"
unfolding digits
a_negative_number_has_a_minus = refl

-- a block stands two spaces further in, also an empty one
pub an_empty_block_has_two_lines : stmt_text letters 2 (at 9 (outwhile 0 (int (pos 3)) no_stmt)) ≡ codes "  outwhile a 3 {\n  }\n"
unfolding digits in_block named_text valued_text given_text
an_empty_block_has_two_lines = refl

pub else_stands_between_its_braces : deed_text letters 2 (if_else a (stmt_then (at 3 (close 0)) no_stmt) (stmt_then (at 4 (let_be 0 a)) no_stmt)) ≡ codes "if a {\n    close a;\n  } else {\n    let a = a;\n  }"
unfolding in_block named_text valued_text given_text
else_stands_between_its_braces = refl

pub arms_stand_further_in : deed_text letters 2 (inbranch 0 (branch 0 no_stmt (branch 0 (stmt_then (at 5 (outbranch 0 0)) no_stmt) no_branch)))
    ≡ codes "inbranch a {\n    a: {\n    }\n    a: {\n      outbranch a a;\n    }\n  }"
unfolding in_block named_text pair_text
arms_stand_further_in = refl

pub a_party_stands_behind_to_or_from : deed_text letters 2 (request 0 0 0) ++ deed_text letters 2 (accept 0 0 0) ≡ codes "request a a to a;accept a a from a;"
unfolding named_text pair_text
a_party_stands_behind_to_or_from = refl

pub the_dual_has_a_line : protocol_line (codes "dual") letters.word 0 (message Into place.int done) ≡ codes "dual a { begin.?(int) }\n"
the_dual_has_a_line = refl

-- two parties and a connection
abbrev first_file : FileAt
first_file = record {
  words = codes "p" ∷ codes "q" ∷ codes "a" ∷ codes "x" ∷ codes "b" ∷ codes "y" ∷ codes "n" ∷ [];
  texts = [];
  protocols = record { line = 1; name = 0; body = message Out place.int done } ∷ record { line = 2; name = 1; body = message Into place.int done } ∷ [];
  parties = record { line = 3; name = 2; code = stmt_then (at 3 (send 3 (int (pos 5)))) (stmt_then (at 3 (close 3)) no_stmt) }
      ∷ record { line = 4; name = 4; code = stmt_then (at 4 (take_value 5 6 scalars.Int)) (stmt_then (at 4 (close 5)) no_stmt) } ∷ [];
  connects = record { line = 5; first = record { party = 2; name = 3; protocol = 0 }; second = record { party = 4; name = 5; protocol = 1 } } ∷ [];
}

pub the_first_file
    : file_text first_file
    ≡ codes "protocol p { begin.!<int> }\nprotocol q { begin.?(int) }\nparty a {\n  send x 5;\n  close x;\n}\nparty b {\n  recv y n int;\n  close y;\n}\nconnect a x p to b y q;\n"
unfolding digits in_block named_text pair_text valued_text given_text end_text
the_first_file = refl
