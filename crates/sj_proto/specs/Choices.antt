-- What a reader of items asks of the next token.
use Rattle.std.specs.Prelude.{ℕ, Bool, ◌||◌, List, codes, Option, Some, None, if◌then◌else◌}
use Rattle.std.specs.Str.{bytes_eq}
use Rattle.sj_lang.specs.declared.proto.Way.{Way}
use Rattle.sj_grammar.specs.declared.tokens.Rule.{Rule}
use Rattle.sj_grammar.specs.Protocols.{open_piece}
use Rattle.sj_grammar.specs.ProtocolDues.{is_way}
use Rattle.sj_grammar.specs.Rules.{not_due, over_limit}
use Rattle.sj_proto.specs.declared.choices.Bracket.{Bracket}
use Rattle.sj_proto.specs.declared.choices.Bracket.TheVariants as brackets

-- no item, or one too many
abbrev pub but_way : Bool → List ℕ → Option Rule
but_way full s = if is_way s then (if full then Some over_limit else None) else Some not_due

abbrev pub opens : Way → List ℕ → Bool
opens w s = bytes_eq s (open_piece w) || (bytes_eq s (codes "{") || bytes_eq s (codes "["))

-- nothing that stands after that way, or a bracket too deep
abbrev pub but_open : Way → Bool → List ℕ → Option Rule
but_open w deep s = if opens w s then (if deep then Some over_limit else None) else Some not_due

-- this piece, or one too many of what it begins
abbrev pub but_first : List ℕ → Bool → List ℕ → Option Rule
but_first spelled full s = if bytes_eq s spelled then (if full then Some over_limit else None) else Some not_due

-- what opens a bracket
abbrev pub bracket_piece : Way → Bracket → List ℕ
bracket_piece w brackets.Kind = open_piece w
bracket_piece w brackets.Arms = codes "{"
bracket_piece w brackets.Turns = codes "["
