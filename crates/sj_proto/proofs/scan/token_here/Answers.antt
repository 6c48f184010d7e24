use Rattle.std.proofs.Common.{◌+◌, ◌∙◌, sym, get_or, drop, ap, refl}
use Rattle.sj_grammar.specs.declared.tokens.What.TheVariants.{Symbol}
use Rattle.sj_grammar.specs.declared.tokens.Rule.TheVariants.{P2}
use Rattle.sj_grammar.specs.Lexis.{token_of, cut, bad}
use Rattle.sj_proto.proofs.ScanLemmas.{open_at, piece_is, double_is, single_is, none_is}
use Rattle.sj_proto.proofs.scan.token_here.Goals as goal

pub returns-then-begins_double-clause-found : goal.returns-then-begins_double-clause-found
returns-then-begins_double-clause-found c =
    let xs = c.args.bytes.now in
    let i = c.args.from in
    let e = open_at xs i c.requires in
    piece_is Symbol xs i (i + 2) 2 refl ∙ ap (cut Symbol 2) e
    ∙ sym (ap token_of e ∙ double_is (get_or xs i 0) (drop (i + 1) xs) c.if-is_letter_byte.ensures c.if-is_in.ensures c.if-b-eq34.false c.if-begins_double.ensures)

pub returns-then-is_symbol_byte-clause-found : goal.returns-then-is_symbol_byte-clause-found
returns-then-is_symbol_byte-clause-found c =
    let xs = c.args.bytes.now in
    let i = c.args.from in
    let e = open_at xs i c.requires in
    piece_is Symbol xs i (i + 1) 1 refl ∙ ap (cut Symbol 1) e
    ∙ sym (ap token_of e ∙ single_is (get_or xs i 0) (drop (i + 1) xs) c.if-is_letter_byte.ensures c.if-is_in.ensures c.if-b-eq34.false c.if-begins_double.ensures c.if-is_symbol_byte.ensures)

pub returns-clause-found : goal.returns-clause-found
returns-clause-found c =
    let xs = c.args.bytes.now in
    let i = c.args.from in
    let e = open_at xs i c.requires in
    ap (bad P2) e
    ∙ sym (ap token_of e ∙ none_is (get_or xs i 0) (drop (i + 1) xs) c.if-is_letter_byte.ensures c.if-is_in.ensures c.if-b-eq34.false c.if-begins_double.ensures c.if-is_symbol_byte.ensures)
