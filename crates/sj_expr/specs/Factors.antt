-- What a reader of factors asks of the next token.
use Rattle.std.specs.Prelude.{ℕ, Bool, ◌||◌, nat_lt, List, length, codes, Option, Some, None, if◌then◌else◌}
use Rattle.std.specs.Str.{bytes_eq}
use Rattle.sj_grammar.specs.declared.tokens.Rule.{Rule}
use Rattle.sj_lang.specs.Limits.{limits}
use Rattle.sj_grammar.specs.Literals.{inner}
use Rattle.sj_grammar.specs.Rules.{not_due, over_limit}
use Rattle.sj_expr.specs.declared.taking.Outer.{Outer}
use Rattle.sj_expr.specs.declared.taking.Outer.TheVariants as outers

abbrev pub outer_piece : Outer → List ℕ
outer_piece outers.Not = codes "not"
outer_piece outers.Parens = codes "("

-- nothing that opens, or one too deep
abbrev pub but_outer : Bool → List ℕ → Option Rule
but_outer deep s = if bytes_eq s (codes "not") || bytes_eq s (codes "(") then (if deep then Some over_limit else None) else Some not_due

-- a text that is too long
abbrev pub but_text : List ℕ → Option Rule
but_text s = if nat_lt limits.text (length (inner s)) then Some over_limit else None
