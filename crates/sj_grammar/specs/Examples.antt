-- The definitions on small texts.
use Rattle.std.specs.Prelude.{◌≡◌, refl, true, false, [], ◌∷◌, ◌++◌, codes}
use Rattle.sj_grammar.specs.declared.tokens.Rule.TheVariants.{P1, P2, P3, P4, P5}
use Rattle.sj_grammar.specs.declared.tokens.What.TheVariants.{Number, Symbol}
use Rattle.sj_lang.specs.Limits.{limits}
use Rattle.sj_grammar.specs.Lexis.{next_of, at_end, bad, token}
use Rattle.sj_grammar.specs.Names.{is_name, is_reserved}
use Rattle.sj_grammar.specs.Literals.{inner}
use Rattle.sj_grammar.specs.Positions.{start}
use Rattle.sj_grammar.specs.Layers.{goes, stops, run}
use Rattle.sj_grammar.specs.Refusals.{fault_next}
use Rattle.sj_grammar.specs.ProtocolDues.{body, more, maybe, arms}
use Rattle.sj_grammar.specs.ProtocolDues as protocol
use Rattle.sj_grammar.specs.ExpressionDues.{whole, factor, times, plus, compare}
use Rattle.sj_grammar.specs.FileDues.{protocols, parties, connects, stmts, branches, fixed, semicolon, proto, expr, file_layer, file_due, statement_follow}

-- a comment ends with its line, and no blank is asked between tokens
pub behind_a_comment : next_of (codes " // a \" b" ++ 10 ∷ codes "5x") ≡ token (Number 5) (codes "5") (codes "x")
behind_a_comment = refl

pub a_comment_ends_the_file : next_of (codes "// to") ≡ at_end
a_comment_ends_the_file = refl

pub a_leading_zero : next_of (codes "05;") ≡ bad P3 (codes "05;")
a_leading_zero = refl

pub beyond_the_largest : next_of (codes "9223372036854775809") ≡ bad P3 (codes "9223372036854775809")
beyond_the_largest = refl

pub the_longest_symbol : next_of (codes "<==") ≡ token Symbol (codes "<=") (codes "=")
the_longest_symbol = refl

pub without_its_quote : next_of (codes "\"a\\" ++ 10 ∷ []) ≡ bad P5 (codes "\"a\\" ++ 10 ∷ [])
without_its_quote = refl

pub with_a_backslash : next_of (codes "\"a\\b\" {") ≡ bad P2 (codes "\\b\" {")
with_a_backslash = refl

pub a_byte_128 : next_of (128 ∷ []) ≡ bad P2 (128 ∷ [])
a_byte_128 = refl

pub a_word_is_a_name : is_name (codes "a_1") ≡ true
unfolding is_reserved
a_word_is_a_name = refl

pub a_reserved_word_is_none : is_name (codes "relay") ≡ false
unfolding is_reserved
a_reserved_word_is_none = refl

pub no_word_is_a_name : is_name (codes "a.b") ≡ false
no_word_is_a_name = refl

pub a_text_without_its_quotes : inner (codes "\"3 May\"") ≡ codes "3 May"
a_text_without_its_quotes = refl

-- where the end of the file is
pub the_end_is_behind_the_last_byte : fault_next (start (codes "a" ++ 10 ∷ codes " // b") [] []).text P1 at_end ≡ record { rule = P1; line = 2; column = 6 }
the_end_is_behind_the_last_byte = refl

-- after the head of a protocol its body is due
pub behind_a_head : run file_layer limits 0 file_due (codes "protocol" ∷ codes "p" ∷ codes "{" ∷ []) ≡ goes 0 (proto body ∷ fixed (codes "}") ∷ protocols 1 ∷ parties 0 ∷ connects 0 ∷ [])
unfolding is_reserved
behind_a_head = refl

-- `begin` counts its items from none
pub behind_an_item : run file_layer limits 7 (proto body ∷ []) (codes "begin" ∷ codes "." ∷ codes "?" ∷ codes "{" ∷ codes "a" ∷ codes ":" ∷ [])
    ≡ goes 1 (proto (maybe 1) ∷ proto (arms 1 1) ∷ proto (protocol.fixed (codes "}")) ∷ proto (more 0) ∷ [])
unfolding is_reserved
behind_an_item = refl

-- the bracket that is one too deep passes the limit, and not what stands in it
pub too_deep : run file_layer (record limits { nesting = 1 }) 0 (proto body ∷ []) (codes "begin" ∷ codes "." ∷ codes "!" ∷ codes "[" ∷ codes "!" ∷ codes "[" ∷ []) ≡ stops P4
too_deep = refl

pub another_bracket : run file_layer (record limits { nesting = 1 }) 0 (proto body ∷ []) (codes "begin" ∷ codes "." ∷ codes "!" ∷ codes "[" ∷ codes "!" ∷ codes "(" ∷ []) ≡ stops P1
another_bracket = refl

-- terms group to the left, and a comparison stands once
pub compared_twice : run file_layer limits 0 (expr whole ∷ semicolon ∷ []) (codes "1" ∷ codes "<" ∷ codes "2" ∷ codes "<" ∷ []) ≡ stops P1
unfolding is_reserved
compared_twice = refl

pub behind_a_product : run file_layer limits 9 (expr whole ∷ semicolon ∷ []) (codes "1" ∷ codes "*" ∷ codes "n" ∷ codes "-" ∷ [])
    ≡ goes 2 (expr (factor 0) ∷ expr (times 0) ∷ expr (plus 0) ∷ expr (compare 0) ∷ semicolon ∷ [])
unfolding is_reserved
behind_a_product = refl

-- a `not` is open until its factor ends
pub open_until_its_factor_ends : run file_layer (record limits { nesting = 1 }) 0 (expr whole ∷ semicolon ∷ []) (codes "not" ∷ codes "a" ∷ codes "==" ∷ codes "not" ∷ codes "b" ∷ codes ";" ∷ []) ≡ goes 2 []
unfolding is_reserved
open_until_its_factor_ends = refl

pub too_deep_in_a_not : run file_layer (record limits { nesting = 1 }) 0 (expr whole ∷ semicolon ∷ []) (codes "not" ∷ codes "(" ∷ []) ≡ stops P4
unfolding is_reserved
too_deep_in_a_not = refl

-- 2^63 stands only after a factor's own minus
pub the_largest : run file_layer limits 0 (expr whole ∷ semicolon ∷ []) (codes "-" ∷ codes "9223372036854775808" ∷ codes ";" ∷ []) ≡ goes 1 []
unfolding is_reserved
the_largest = refl

pub the_largest_elsewhere : run file_layer limits 0 (expr whole ∷ semicolon ∷ []) (codes "1" ∷ codes "-" ∷ codes "9223372036854775808" ∷ []) ≡ stops P3
unfolding is_reserved
the_largest_elsewhere = refl

-- the outer brace of an `inbranch` isn't counted
pub the_braces_of_arms : run file_layer (record limits { nesting = 1 }) 0 (stmts 0 ∷ []) (codes "inbranch" ∷ codes "x" ∷ codes "{" ∷ codes "L" ∷ codes ":" ∷ codes "{" ∷ [])
    ≡ goes 0 (stmts 1 ∷ fixed (codes "}") ∷ branches 0 ∷ fixed (codes "}") ∷ stmts 0 ∷ [])
unfolding is_reserved statement_follow
the_braces_of_arms = refl

-- at one token a missing rule comes before a passed limit
pub no_text_goes_on_before_a_limit : run file_layer (record limits { name = 1 }) 0 (protocols 0 ∷ []) (codes "protocol" ∷ codes "p" ∷ codes "begun" ∷ []) ≡ stops P1
unfolding is_reserved
no_text_goes_on_before_a_limit = refl

pub one_party_too_many : run file_layer (record limits { parties = 1 }) 0 file_due (codes "party" ∷ codes "a" ∷ codes "{" ∷ codes "}" ∷ codes "party" ∷ []) ≡ stops P4
unfolding is_reserved statement_follow
one_party_too_many = refl
