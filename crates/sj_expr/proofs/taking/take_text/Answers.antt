use Rattle.std.proofs.Common.{◌≡◌, ◌≤◌, true, List, ℕ, length, ap, sym, subst, ◌∙◌, arith}
use Rattle.sj_lang.specs.Words.{IsFirstIndex}
use Rattle.sj_grammar.specs.Literals.{is_text, inner}
use Rattle.sj_grammar.specs.Tables.{with_entry}
use Rattle.sj_proto.proofs.ReadLemmas.{Extends-refl}
use Rattle.sj_proto.proofs.TableLemmas.{table_is}
use Rattle.sj_expr.proofs.TokenLemmas.{text_no_name}
use Rattle.sj_expr.proofs.ReadLemmas.{text_read}
use Rattle.sj_expr.proofs.TableLemmas.{one_added}
use Rattle.sj_expr.proofs.taking.take_text.Goals as goal

pub returns-clause-reads : goal.returns-clause-reads
returns-clause-reads c =
    let s = c.take_piece.result.now in
    let text : is_text s ≡ true = subst (λ (x : List ℕ). is_text x ≡ true) (sym c.take_piece.ensures.piece) c.requires.text in
    let inside : c.inner_of-inside.result.now ≡ inner s = c.inner_of-inside.ensures ∙ ap inner (c.spelling.ensures ∙ sym c.take_piece.ensures.piece) in
    let short : length (inner s) ≤ 255 = subst (λ (x : List ℕ). length x ≤ 255) inside (omega arith) in
    let place : IsFirstIndex (inner s) c.add.new.self c.in_ok-n.n = subst (λ (x : List ℕ). IsFirstIndex x c.add.new.self c.in_ok-n.n) inside c.in_ok-n.ensures.index in
    let table : c.add.new.self ≡ with_entry c.args.names.now.texts (inner s) =
    table_is c.args.names.now.texts c.add.new.self c.inner_of-inside.result.now c.in_ok-n.n c.in_ok-n.ensures.index c.in_ok-n.ensures.kept ∙ ap (with_entry c.args.names.now.texts) inside in
    text_read c.args.tokens.now c.take_piece.new.tokens c.args.names.now.words c.args.names.now.texts c.add.new.self s c.in_ok-n.n (text_no_name s text) text short table place c.take_piece.ensures.taken

pub returns-clause-leaves : goal.returns-clause-leaves
returns-clause-leaves c =
    let more = one_added c.args.names.now.texts c.add.new.self c.inner_of-inside.result.now c.in_ok-n.n c.in_ok-n.ensures.kept in
    record {
      onward = c.take_piece.ensures.onward;
      kept = record { words = Extends-refl c.args.names.now.words; texts = more.0 };
      shorter = c.take_piece.ensures.shorter;
      room = record { words = omega (arith, c.take_piece.ensures.shorter); texts = omega (arith, more.1, c.take_piece.ensures.shorter) };
    }
