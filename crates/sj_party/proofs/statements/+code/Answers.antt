use Rattle.std.proofs.Common.{◌≡◌, ℕ, ◌+◌, ◌<◌, true, List, [], ◌∷◌, refl, ap, sym, subst, ◌∙◌, arith, add-one}
use Rattle.std.specs.Prelude.{codes, map}
use Rattle.std.proofs.lemmas.Bool.{leb-false}
use Rattle.sj_lang.specs.declared.party.Stmt.{Stmt}
use Rattle.sj_lang.specs.declared.party.StmtArm.{StmtArm}
use Rattle.sj_lang.specs.CodeView.{term_of, code_of, arm_of, deed_of, branches_of}
use Rattle.sj_lang.specs.Code.{Code, StmtAt, DeedAt, outwhile, inwhile, relay}
use Rattle.sj_lang.proofs.FoldLemmas.{deed_of-OutWhile, deed_of-InWhile, deed_of-Relay, deed_of-If, deed_of-Branch}
use Rattle.sj_grammar.specs.declared.refusal.ParseRefusal.TheVariants as refusals
use Rattle.sj_lang.specs.Limits.{limits}
use Rattle.sj_grammar.specs.Lexis.{next_of}
use Rattle.sj_grammar.specs.Reading.{Reading}
use Rattle.sj_grammar.specs.Names.{is_name}
use Rattle.sj_grammar.specs.ExpressionDues.{whole}
use Rattle.sj_grammar.specs.FileDues.{stmts, block, branches, name, fixed, expr, file_layer}
use Rattle.sj_grammar.specs.Statements.{IsStatement, AreArms}
use Rattle.sj_grammar.specs.Asked.{Passes, spelled_next}
use Rattle.sj_proto.specs.Parsed.{standing}
use Rattle.sj_proto.proofs.ExitLemmas.{plain}
use Rattle.sj_proto.proofs.OnwardLemmas.{advances_on, advances_none}
use Rattle.sj_expr.proofs.ReadLemmas.{grows_on}
use Rattle.sj_party.specs.declared.first_words.FirstWord.{FirstWord}
use Rattle.sj_party.specs.declared.first_words.FirstWord.TheVariants as firsts
use Rattle.sj_party.specs.Read.{ReadsOnLines, ReadsCode}
use Rattle.sj_party.specs.Parts.{a_name, an_expression, a_piece, a_block, some_arms, AreSome, ReadsDeed}
use Rattle.sj_party.specs.Words.{word_of}
use Rattle.sj_party.proofs.PartLemmas.{stops_behind, parts_on, piece_stops}
use Rattle.sj_party.proofs.CodeReads.{arm_read, statement_read, code_more, arms_more, some_more, no_code, block_read}
use Rattle.sj_party.proofs.WordLemmas.{no_name_else, word_piece, word_stops, err_begun}
use Rattle.sj_party.proofs.CodeStuck.{code_stops, block_stops, opened_stops, filled_stops, arms_stop}
use Rattle.sj_party.proofs.RoomLemmas.{uses_on, keeps_on, keeps_itself, grows_itself}
use Rattle.sj_party.proofs.statements.+code.Goals as goal

pub arm-returns-in_err-label-clause-fault : goal.arm-returns-in_err-label-clause-fault
arm-returns-in_err-label-clause-fault t c =
    let a = standing c.args.tokens.now c.args.names.now in
    stops_behind _ c.in_err-label.field-0.0 [] a a (λ ds. name ∷ ds) (λ ds. fixed (codes ":") ∷ block c.args.depth ∷ ds) c.from_residual.ensures.1 refl c.in_err-label.ensures.fault

pub arm-returns-in_err-expect-clause-fault : goal.arm-returns-in_err-expect-clause-fault
arm-returns-in_err-expect-clause-fault t c =
    let a = standing c.args.tokens.now c.args.names.now in
    let m = standing c.one_name.new.tokens c.one_name.new.names in
    let f = c.in_err-expect.field-0.0 in
    stops_behind _ (refusals.At f) (a_name c.in_ok-label.label ∷ []) a m (λ ds. fixed (codes ":") ∷ ds) (λ ds. block c.args.depth ∷ ds) c.from_residual-in_err-expect.ensures.1 c.in_ok-label.ensures.reads
    (piece_stops (codes ":") c.one_name.new.tokens c.one_name.new.names f refl c.in_err-expect.ensures.fault)

pub arm-returns-in_err-body-clause-fault : goal.arm-returns-in_err-body-clause-fault
arm-returns-in_err-body-clause-fault t c =
    let a = standing c.args.tokens.now c.args.names.now in
    let m = standing c.one_name.new.tokens c.one_name.new.names in
    let u = standing c.expect.new.self c.one_name.new.names in
    let taken = plain c.one_name.new.tokens c.expect.new.self c.one_name.new.names (codes ":") refl refl c.in_ok-expect.ensures.ok in
    stops_behind _ c.in_err-body.field-0.0 (a_name c.in_ok-label.label ∷ a_piece (codes ":") ∷ []) a u (λ ds. block c.args.depth ∷ ds) (λ ds. ds) c.from_residual-in_err-body.ensures.1
    (parts_on (a_name c.in_ok-label.label ∷ []) (a_piece (codes ":") ∷ []) a m u c.in_ok-label.ensures.reads (u, taken, refl)) c.in_err-body.ensures.fault

pub arm-returns-clause-reads : goal.arm-returns-clause-reads
arm-returns-clause-reads t c =
    let a = standing c.args.tokens.now c.args.names.now in
    let m = standing c.one_name.new.tokens c.one_name.new.names in
    let u = standing c.expect.new.self c.one_name.new.names in
    let b = standing c.block.new.tokens c.block.new.names in
    let taken = plain c.one_name.new.tokens c.expect.new.self c.one_name.new.names (codes ":") refl refl c.in_ok-expect.ensures.ok in
    let code = code_of c.in_ok-body.body.items in
    subst (λ (x : ℕ × Code). ReadsOnLines a b (λ names ps. AreArms limits names c.args.depth (branches_of (x ∷ [])) ps)) (sym c.labelled.ensures)
    (arm_read c.args.depth c.in_ok-label.label code a b (parts_on (a_name c.in_ok-label.label ∷ []) (a_piece (codes ":") ∷ a_block c.args.depth code ∷ []) a m b c.in_ok-label.ensures.reads (u, taken, (b, c.in_ok-body.ensures.reads, refl))))

pub arms-returns-in_err-arm-clause-fault : goal.arms-returns-in_err-arm-clause-fault
arms-returns-in_err-arm-clause-fault t c =
    let a = standing c.args.tokens.now c.args.names.now in
    stops_behind _ c.in_err-arm.field-0.0 [] a a (λ ds. name ∷ fixed (codes ":") ∷ block c.args.depth ∷ ds) (λ ds. branches c.args.depth ∷ ds) c.from_residual.ensures.1 refl c.in_err-arm.ensures.fault

pub arms-returns-in_err-next-clause-fault : goal.arms-returns-in_err-next-clause-fault
arms-returns-in_err-next-clause-fault t c =
    let a = standing c.args.tokens.now c.args.names.now in
    let m = standing c.all.tokens c.all.names in
    let named : is_name (spelled_next (next_of c.all.tokens.ahead)) ≡ true = ap is_name (sym c.spelling.ensures) ∙ sym c.is_name_text.ensures ∙ c.all-test.true in
    stops_behind _ c.in_err-next.field-0.0 [] a a (λ ds. name ∷ fixed (codes ":") ∷ block c.args.depth ∷ branches c.args.depth ∷ ds) (λ ds. ds) c.from_residual-in_err-next.ensures.1 refl
    (arms_stop c.args.depth m named (branches_of (map arm_of c.all.list.items)) a c.in_err-next.field-0.0 c.all.invariant.some c.all.invariant.reads c.in_err-next.ensures.fault)

pub arms-all-preserved : goal.arms-all-preserved
arms-all-preserved t c =
    let a = standing c.args.tokens.now c.args.names.now in
    let m = standing c.all.tokens c.all.names in
    let b = standing c.arm-in-all.new.tokens c.arm-in-all.new.names in
    let xs = c.all.list.items in
    let x = c.in_ok-next.next in
    record {
      some = subst (λ (ys : List StmtArm). AreSome (branches_of (map arm_of ys))) (sym c.in_ok-push-2.ensures.items) (some_more xs x);
      reads = subst (λ (ys : List StmtArm). ReadsOnLines a b (λ names ps. AreArms limits names c.args.depth (branches_of (map arm_of ys)) ps)) (sym c.in_ok-push-2.ensures.items) (arms_more c.args.depth xs x a m b c.all.invariant.reads c.in_ok-next.ensures.reads);
      room = uses_on c.args.names.now c.all.names c.arm-in-all.new.names c.args.tokens.now c.all.tokens c.arm-in-all.new.tokens c.all.invariant.room c.in_ok-next.ensures.leaves.room;
      shorter = omega (arith, c.in_ok-next.ensures.leaves.shorter, c.all.invariant.shorter);
      kept = grows_on c.args.names.now c.all.names c.arm-in-all.new.names c.all.invariant.kept c.in_ok-next.ensures.leaves.kept;
      onward = advances_on c.all.invariant.onward c.in_ok-next.ensures.leaves.onward;
    }

pub block-returns-in_err-take_first-clause-fault : goal.block-returns-in_err-take_first-clause-fault
block-returns-in_err-take_first-clause-fault t c =
    let a = standing c.args.tokens.now c.args.names.now in
    let o = c.args.depth in
    let f = c.in_err-take_first.field-0.0 in
    stops_behind _ (refusals.At f) [] a a (λ ds. block o ∷ ds) (λ ds. ds) c.from_residual.ensures.1 refl (block_stops o c.args.tokens.now c.args.names.now f c.in_err-take_first.ensures.fault)

pub block-returns-in_err-body-clause-fault : goal.block-returns-in_err-body-clause-fault
block-returns-in_err-body-clause-fault t c =
    let a = standing c.args.tokens.now c.args.names.now in
    let o = c.args.depth in
    let m = standing c.take_first.new.tokens c.args.names.now in
    let brace = plain c.args.tokens.now c.take_first.new.tokens c.args.names.now (codes "{") refl refl c.in_ok-take_first.ensures.ok in
    let deep : o < 32 = leb-false 32 o c.in_ok-take_first.ensures.room in
    stops_behind _ c.in_err-body.field-0.0 [] a a (λ ds. block o ∷ ds) (λ ds. ds) c.from_residual-in_err-body.ensures.1 refl (opened_stops o (o + 1) a m (add-one o) deep brace c.in_err-body.field-0.0 c.in_err-body.ensures.fault)

pub block-returns-in_err-expect-clause-fault : goal.block-returns-in_err-expect-clause-fault
block-returns-in_err-expect-clause-fault t c =
    let a = standing c.args.tokens.now c.args.names.now in
    let o = c.args.depth in
    let m = standing c.take_first.new.tokens c.args.names.now in
    let u = standing c.statements.new.tokens c.statements.new.names in
    let brace = plain c.args.tokens.now c.take_first.new.tokens c.args.names.now (codes "{") refl refl c.in_ok-take_first.ensures.ok in
    let deep : o < 32 = leb-false 32 o c.in_ok-take_first.ensures.room in
    let f = c.in_err-expect.field-0.0 in
    stops_behind _ (refusals.At f) [] a a (λ ds. block o ∷ ds) (λ ds. ds) c.from_residual-in_err-expect.ensures.1 refl
    (filled_stops o (o + 1) a m (add-one o) deep brace (code_of c.in_ok-body.body.items) u (refusals.At f) c.in_ok-body.ensures.reads c.in_ok-body.ensures.ends
    (piece_stops (codes "}") c.statements.new.tokens c.statements.new.names f refl c.in_err-expect.ensures.fault))

pub block-returns-clause-reads : goal.block-returns-clause-reads
block-returns-clause-reads t c =
    let a = standing c.args.tokens.now c.args.names.now in
    let o = c.args.depth in
    let m = standing c.take_first.new.tokens c.args.names.now in
    let u = standing c.statements.new.tokens c.statements.new.names in
    let b = standing c.expect.new.self c.statements.new.names in
    let brace = plain c.args.tokens.now c.take_first.new.tokens c.args.names.now (codes "{") refl refl c.in_ok-take_first.ensures.ok in
    let deep : o < 32 = leb-false 32 o c.in_ok-take_first.ensures.room in
    let close = plain c.statements.new.tokens c.expect.new.self c.statements.new.names (codes "}") refl refl c.in_ok-expect.ensures.ok in
    block_read o (o + 1) (code_of c.in_ok-body.body.items) a m u b (add-one o) deep brace c.in_ok-body.ensures.reads close

pub deed-returns-in_err-end-in-Outwhile-clause-fault : goal.deed-returns-in_err-end-in-Outwhile-clause-fault
deed-returns-in_err-end-in-Outwhile-clause-fault t c =
    let a = standing c.args.tokens.now c.args.names.now in
    let o = c.args.depth in
    err_begun _ c.args.first firsts.Outwhile o a c.in-Outwhile.is
    (stops_behind _ c.in_err-end-in-Outwhile.field-0.0 [] a a (λ ds. name ∷ expr whole ∷ ds) (λ ds. block o ∷ ds) c.from_residual.ensures.1 refl c.in_err-end-in-Outwhile.ensures.fault)

pub deed-returns-in_err-body-in-Outwhile-clause-fault : goal.deed-returns-in_err-body-in-Outwhile-clause-fault
deed-returns-in_err-body-in-Outwhile-clause-fault t c =
    let a = standing c.args.tokens.now c.args.names.now in
    let o = c.args.depth in
    let m = standing c.name_and_value.new.tokens c.name_and_value.new.names in
    err_begun _ c.args.first firsts.Outwhile o a c.in-Outwhile.is
    (stops_behind _ c.in_err-body-in-Outwhile.field-0.0 (a_name c.in_ok-end-in-Outwhile.end ∷ an_expression (term_of c.in_ok-end-in-Outwhile.count) ∷ []) a m (λ ds. block o ∷ ds) (λ ds. ds) c.from_residual-in_err-body-in-Outwhile.ensures.1 c.in_ok-end-in-Outwhile.ensures.reads c.in_err-body-in-Outwhile.ensures.fault)

pub deed-returns-in_ok-body-in-Outwhile-clause-reads : goal.deed-returns-in_ok-body-in-Outwhile-clause-reads
deed-returns-in_ok-body-in-Outwhile-clause-reads t c =
    let a = standing c.args.tokens.now c.args.names.now in
    let o = c.args.depth in
    let m = standing c.name_and_value.new.tokens c.name_and_value.new.names in
    let b = standing c.block.new.tokens c.block.new.names in
    let code = code_of c.in_ok-body-in-Outwhile.body.items in
    subst (λ (deed : DeedAt). ReadsDeed (word_of c.args.first) o a b deed) (sym (deed_of-OutWhile c.in_ok-end-in-Outwhile.end c.in_ok-end-in-Outwhile.count c.in_ok-body-in-Outwhile.body))
    (subst (λ (w : FirstWord). ReadsDeed (word_of w) o a b (outwhile c.in_ok-end-in-Outwhile.end (term_of c.in_ok-end-in-Outwhile.count) code)) (sym c.in-Outwhile.is)
    (record { first = refl; parts = parts_on (a_name c.in_ok-end-in-Outwhile.end ∷ an_expression (term_of c.in_ok-end-in-Outwhile.count) ∷ []) (a_block o code ∷ []) a m b c.in_ok-end-in-Outwhile.ensures.reads (b, c.in_ok-body-in-Outwhile.ensures.reads, refl) }))

pub deed-returns-in_err-end-in-Inwhile-clause-fault : goal.deed-returns-in_err-end-in-Inwhile-clause-fault
deed-returns-in_err-end-in-Inwhile-clause-fault t c =
    let a = standing c.args.tokens.now c.args.names.now in
    let o = c.args.depth in
    err_begun _ c.args.first firsts.Inwhile o a c.in-Inwhile.is
    (stops_behind _ c.in_err-end-in-Inwhile.field-0.0 [] a a (λ ds. name ∷ ds) (λ ds. block o ∷ ds) c.from_residual-in_err-end-in-Inwhile.ensures.1 refl c.in_err-end-in-Inwhile.ensures.fault)

pub deed-returns-in_err-body-in-Inwhile-clause-fault : goal.deed-returns-in_err-body-in-Inwhile-clause-fault
deed-returns-in_err-body-in-Inwhile-clause-fault t c =
    let a = standing c.args.tokens.now c.args.names.now in
    let o = c.args.depth in
    let m = standing c.one_name.new.tokens c.one_name.new.names in
    err_begun _ c.args.first firsts.Inwhile o a c.in-Inwhile.is
    (stops_behind _ c.in_err-body-in-Inwhile.field-0.0 (a_name c.in_ok-end-in-Inwhile.end ∷ []) a m (λ ds. block o ∷ ds) (λ ds. ds) c.from_residual-in_err-body-in-Inwhile.ensures.1 c.in_ok-end-in-Inwhile.ensures.reads c.in_err-body-in-Inwhile.ensures.fault)

pub deed-returns-in_ok-body-in-Inwhile-clause-reads : goal.deed-returns-in_ok-body-in-Inwhile-clause-reads
deed-returns-in_ok-body-in-Inwhile-clause-reads t c =
    let a = standing c.args.tokens.now c.args.names.now in
    let o = c.args.depth in
    let m = standing c.one_name.new.tokens c.one_name.new.names in
    let b = standing c.block-in-Inwhile.new.tokens c.block-in-Inwhile.new.names in
    let code = code_of c.in_ok-body-in-Inwhile.body.items in
    subst (λ (deed : DeedAt). ReadsDeed (word_of c.args.first) o a b deed) (sym (deed_of-InWhile c.in_ok-end-in-Inwhile.end c.in_ok-body-in-Inwhile.body))
    (subst (λ (w : FirstWord). ReadsDeed (word_of w) o a b (inwhile c.in_ok-end-in-Inwhile.end code)) (sym c.in-Inwhile.is)
    (record { first = refl; parts = parts_on (a_name c.in_ok-end-in-Inwhile.end ∷ []) (a_block o code ∷ []) a m b c.in_ok-end-in-Inwhile.ensures.reads (b, c.in_ok-body-in-Inwhile.ensures.reads, refl) }))

pub deed-returns-in_err-from-in-Relay-clause-fault : goal.deed-returns-in_err-from-in-Relay-clause-fault
deed-returns-in_err-from-in-Relay-clause-fault t c =
    let a = standing c.args.tokens.now c.args.names.now in
    let o = c.args.depth in
    err_begun _ c.args.first firsts.Relay o a c.in-Relay.is
    (stops_behind _ c.in_err-from-in-Relay.field-0.0 [] a a (λ ds. name ∷ name ∷ ds) (λ ds. block o ∷ ds) c.from_residual-in_err-from-in-Relay.ensures.1 refl c.in_err-from-in-Relay.ensures.fault)

pub deed-returns-in_err-body-in-Relay-clause-fault : goal.deed-returns-in_err-body-in-Relay-clause-fault
deed-returns-in_err-body-in-Relay-clause-fault t c =
    let a = standing c.args.tokens.now c.args.names.now in
    let o = c.args.depth in
    let m = standing c.two_names.new.tokens c.two_names.new.names in
    err_begun _ c.args.first firsts.Relay o a c.in-Relay.is
    (stops_behind _ c.in_err-body-in-Relay.field-0.0 (a_name c.in_ok-from-in-Relay.from ∷ a_name c.in_ok-from-in-Relay.to ∷ []) a m (λ ds. block o ∷ ds) (λ ds. ds) c.from_residual-in_err-body-in-Relay.ensures.1 c.in_ok-from-in-Relay.ensures.reads c.in_err-body-in-Relay.ensures.fault)

pub deed-returns-in_ok-body-in-Relay-clause-reads : goal.deed-returns-in_ok-body-in-Relay-clause-reads
deed-returns-in_ok-body-in-Relay-clause-reads t c =
    let a = standing c.args.tokens.now c.args.names.now in
    let o = c.args.depth in
    let m = standing c.two_names.new.tokens c.two_names.new.names in
    let b = standing c.block-in-Relay.new.tokens c.block-in-Relay.new.names in
    let code = code_of c.in_ok-body-in-Relay.body.items in
    subst (λ (deed : DeedAt). ReadsDeed (word_of c.args.first) o a b deed) (sym (deed_of-Relay c.in_ok-from-in-Relay.from c.in_ok-from-in-Relay.to c.in_ok-body-in-Relay.body))
    (subst (λ (w : FirstWord). ReadsDeed (word_of w) o a b (relay c.in_ok-from-in-Relay.from c.in_ok-from-in-Relay.to code)) (sym c.in-Relay.is)
    (record { first = refl; parts = parts_on (a_name c.in_ok-from-in-Relay.from ∷ a_name c.in_ok-from-in-Relay.to ∷ []) (a_block o code ∷ []) a m b c.in_ok-from-in-Relay.ensures.reads (b, c.in_ok-body-in-Relay.ensures.reads, refl) }))

pub deed-returns-in-Simple-clause-fault : goal.deed-returns-in-Simple-clause-fault
deed-returns-in-Simple-clause-fault t c =
    let a = standing c.args.tokens.now c.args.names.now in
    err_begun c.simple.result c.args.first (firsts.Simple c.in-Simple.word) c.args.depth a c.in-Simple.is c.simple.ensures.fault

pub deed-returns-in-Inbranch-clause-fault : goal.deed-returns-in-Inbranch-clause-fault
deed-returns-in-Inbranch-clause-fault t c =
    let a = standing c.args.tokens.now c.args.names.now in
    err_begun c.inbranch.result c.args.first firsts.Inbranch c.args.depth a c.in-Inbranch.is c.inbranch.ensures.fault

pub deed-returns-in-If-clause-fault : goal.deed-returns-in-If-clause-fault
deed-returns-in-If-clause-fault t c =
    let a = standing c.args.tokens.now c.args.names.now in
    err_begun c.test.result c.args.first firsts.If c.args.depth a c.in-If.is c.test.ensures.fault

pub inbranch-returns-in_err-end-clause-fault : goal.inbranch-returns-in_err-end-clause-fault
inbranch-returns-in_err-end-clause-fault t c =
    let a = standing c.args.tokens.now c.args.names.now in
    let o = c.args.depth in
    stops_behind _ c.in_err-end.field-0.0 [] a a (λ ds. name ∷ ds) (λ ds. fixed (codes "{") ∷ name ∷ fixed (codes ":") ∷ block o ∷ branches o ∷ fixed (codes "}") ∷ ds) c.from_residual.ensures.1 refl c.in_err-end.ensures.fault

pub inbranch-returns-in_err-expect-clause-fault : goal.inbranch-returns-in_err-expect-clause-fault
inbranch-returns-in_err-expect-clause-fault t c =
    let a = standing c.args.tokens.now c.args.names.now in
    let o = c.args.depth in
    let m = standing c.one_name.new.tokens c.one_name.new.names in
    let f = c.in_err-expect.field-0.0 in
    stops_behind _ (refusals.At f) (a_name c.in_ok-end.end ∷ []) a m (λ ds. fixed (codes "{") ∷ ds) (λ ds. name ∷ fixed (codes ":") ∷ block o ∷ branches o ∷ fixed (codes "}") ∷ ds) c.from_residual-in_err-expect.ensures.1 c.in_ok-end.ensures.reads
    (piece_stops (codes "{") c.one_name.new.tokens c.one_name.new.names f refl c.in_err-expect.ensures.fault)

pub inbranch-returns-in_err-arms-clause-fault : goal.inbranch-returns-in_err-arms-clause-fault
inbranch-returns-in_err-arms-clause-fault t c =
    let a = standing c.args.tokens.now c.args.names.now in
    let o = c.args.depth in
    let m = standing c.one_name.new.tokens c.one_name.new.names in
    let u = standing c.expect.new.self c.one_name.new.names in
    let brace = plain c.one_name.new.tokens c.expect.new.self c.one_name.new.names (codes "{") refl refl c.in_ok-expect.ensures.ok in
    let front = parts_on (a_name c.in_ok-end.end ∷ []) (a_piece (codes "{") ∷ []) a m u c.in_ok-end.ensures.reads (u, brace, refl) in
    stops_behind _ c.in_err-arms.field-0.0 (a_name c.in_ok-end.end ∷ a_piece (codes "{") ∷ []) a u (λ ds. name ∷ fixed (codes ":") ∷ block o ∷ branches o ∷ ds) (λ ds. fixed (codes "}") ∷ ds) c.from_residual-in_err-arms.ensures.1 front c.in_err-arms.ensures.fault

pub inbranch-returns-in_err-expect-2-clause-fault : goal.inbranch-returns-in_err-expect-2-clause-fault
inbranch-returns-in_err-expect-2-clause-fault t c =
    let a = standing c.args.tokens.now c.args.names.now in
    let o = c.args.depth in
    let m = standing c.one_name.new.tokens c.one_name.new.names in
    let u = standing c.expect.new.self c.one_name.new.names in
    let v = standing c.arms.new.tokens c.arms.new.names in
    let brace = plain c.one_name.new.tokens c.expect.new.self c.one_name.new.names (codes "{") refl refl c.in_ok-expect.ensures.ok in
    let front = parts_on (a_name c.in_ok-end.end ∷ []) (a_piece (codes "{") ∷ []) a m u c.in_ok-end.ensures.reads (u, brace, refl) in
    let bs = branches_of (map arm_of c.in_ok-arms.arms.items) in
    let f = c.in_err-expect-2.field-0.0 in
    stops_behind _ (refusals.At f) (a_name c.in_ok-end.end ∷ a_piece (codes "{") ∷ some_arms o bs ∷ []) a v (λ ds. fixed (codes "}") ∷ ds) (λ ds. ds) c.from_residual-in_err-expect-2.ensures.1
    (parts_on (a_name c.in_ok-end.end ∷ a_piece (codes "{") ∷ []) (some_arms o bs ∷ []) a u v front (v, c.in_ok-arms.ensures.reads, refl)) (piece_stops (codes "}") c.arms.new.tokens c.arms.new.names f refl c.in_err-expect-2.ensures.fault)

pub inbranch-returns-clause-reads : goal.inbranch-returns-clause-reads
inbranch-returns-clause-reads t c =
    let a = standing c.args.tokens.now c.args.names.now in
    let o = c.args.depth in
    let m = standing c.one_name.new.tokens c.one_name.new.names in
    let u = standing c.expect.new.self c.one_name.new.names in
    let v = standing c.arms.new.tokens c.arms.new.names in
    let b = standing c.expect-2.new.self c.arms.new.names in
    let brace = plain c.one_name.new.tokens c.expect.new.self c.one_name.new.names (codes "{") refl refl c.in_ok-expect.ensures.ok in
    let front = parts_on (a_name c.in_ok-end.end ∷ []) (a_piece (codes "{") ∷ []) a m u c.in_ok-end.ensures.reads (u, brace, refl) in
    let bs = branches_of (map arm_of c.in_ok-arms.arms.items) in
    let close = plain c.arms.new.tokens c.expect-2.new.self c.arms.new.names (codes "}") refl refl c.in_ok-expect-2.ensures.ok in
    subst (λ (deed : DeedAt). ReadsDeed (codes "inbranch") o a b deed) (sym (deed_of-Branch c.in_ok-end.end c.in_ok-arms.arms))
    (record { first = refl; parts = parts_on (a_name c.in_ok-end.end ∷ a_piece (codes "{") ∷ []) (some_arms o bs ∷ a_piece (codes "}") ∷ []) a u b front (v, c.in_ok-arms.ensures.reads, (b, close, refl)) })

pub statements-all-init : goal.statements-all-init
statements-all-init t c =
    let a = standing c.args.tokens.now c.args.names.now in
    record {
      reads = subst (λ (ys : List Stmt). ReadsCode c.args.depth a a (code_of ys)) (sym c.new-list.ensures.items) (no_code c.args.depth a);
      room = keeps_itself c.args.names.now c.args.tokens.now;
      shorter = omega arith;
      kept = grows_itself c.args.names.now;
      onward = advances_none c.args.tokens.now;
    }

pub statements-returns-in_err-deed-clause-fault : goal.statements-returns-in_err-deed-clause-fault
statements-returns-in_err-deed-clause-fault t c =
    let a = standing c.args.tokens.now c.args.names.now in
    let o = c.args.depth in
    let m = standing c.all.tokens c.all.names in
    let begun = c.in-Some.begun in
    stops_behind _ c.in_err-deed.field-0.0 [] a a (λ ds. stmts o ∷ ds) (λ ds. ds) c.from_residual.ensures.1 refl
    (code_stops o (code_of c.all.list.items) a m c.in_err-deed.field-0.0 c.all.invariant.reads
    (word_stops begun.first o c.all.tokens c.begin.new.tokens c.all.names c.in_err-deed.field-0.0 c.in-Some.ensures.taken c.in_err-deed.ensures.fault))

pub statements-all-preserved : goal.statements-all-preserved
statements-all-preserved t c =
    let a = standing c.args.tokens.now c.args.names.now in
    let o = c.args.depth in
    let m = standing c.all.tokens c.all.names in
    let u = standing c.begin.new.tokens c.all.names in
    let b = standing c.deed.new.tokens c.deed.new.names in
    let begun = c.in-Some.begun in
    let x = c.statement.result in
    let deed = deed_of c.in_ok-deed.deed in
    let one = subst (λ (s : StmtAt). ReadsOnLines m b (λ names ps. IsStatement limits names o s ps)) (sym c.statement.ensures)
    (statement_read o begun.line deed (word_of begun.first) m u b (word_piece begun.first begun.line c.all.tokens c.begin.new.tokens c.all.names c.in-Some.ensures.taken c.in-Some.ensures.line) c.in_ok-deed.ensures.reads) in
    record {
      reads = subst (λ (ys : List Stmt). ReadsCode o a b (code_of ys)) (sym c.in_ok-push.ensures.items) (code_more o c.all.list.items x a m b c.all.invariant.reads one);
      room = keeps_on c.args.names.now c.all.names c.deed.new.names c.args.tokens.now c.all.tokens c.begin.new.tokens c.deed.new.tokens c.all.invariant.room c.in-Some.ensures.shorter c.in_ok-deed.ensures.leaves.room;
      shorter = omega (arith, c.in_ok-deed.ensures.leaves.shorter, c.in-Some.ensures.shorter, c.all.invariant.shorter);
      kept = grows_on c.args.names.now c.all.names c.deed.new.names c.all.invariant.kept c.in_ok-deed.ensures.leaves.kept;
      onward = advances_on c.all.invariant.onward (advances_on c.begin.ensures.onward c.in_ok-deed.ensures.leaves.onward);
    }

pub statements-returns-clause-ends : goal.statements-returns-clause-ends
statements-returns-clause-ends t c =
    subst (λ (r : Reading). Passes file_layer (stmts c.args.depth) (next_of r.ahead)) (sym c.in_default.ensures.kept) (c.in_default.ensures.none c.args.depth)

pub test-returns-in_err-test-clause-fault : goal.test-returns-in_err-test-clause-fault
test-returns-in_err-test-clause-fault t c =
    let a = standing c.args.tokens.now c.args.names.now in
    let o = c.args.depth in
    stops_behind _ c.in_err-test.field-0.0 [] a a (λ ds. expr whole ∷ ds) (λ ds. block o ∷ fixed (codes "else") ∷ block o ∷ ds) c.from_residual.ensures.1 refl c.in_err-test.ensures.fault

pub test-returns-in_err-yes-clause-fault : goal.test-returns-in_err-yes-clause-fault
test-returns-in_err-yes-clause-fault t c =
    let a = standing c.args.tokens.now c.args.names.now in
    let o = c.args.depth in
    let m = standing c.parse_expression.new.tokens c.parse_expression.new.names in
    stops_behind _ c.in_err-yes.field-0.0 (an_expression (term_of c.in_ok-test.test) ∷ []) a m (λ ds. block o ∷ ds) (λ ds. fixed (codes "else") ∷ block o ∷ ds) c.from_residual-in_err-yes.ensures.1 (m, c.in_ok-test.ensures.reads, refl) c.in_err-yes.ensures.fault

pub test-returns-in_err-expect-clause-fault : goal.test-returns-in_err-expect-clause-fault
test-returns-in_err-expect-clause-fault t c =
    let a = standing c.args.tokens.now c.args.names.now in
    let o = c.args.depth in
    let m = standing c.parse_expression.new.tokens c.parse_expression.new.names in
    let u = standing c.block.new.tokens c.block.new.names in
    let yes = code_of c.in_ok-yes.yes.items in
    let f = c.in_err-expect.field-0.0 in
    stops_behind _ (refusals.At f) (an_expression (term_of c.in_ok-test.test) ∷ a_block o yes ∷ []) a u (λ ds. fixed (codes "else") ∷ ds) (λ ds. block o ∷ ds) c.from_residual-in_err-expect.ensures.1 (m, c.in_ok-test.ensures.reads, (u, c.in_ok-yes.ensures.reads, refl))
    (piece_stops (codes "else") c.block.new.tokens c.block.new.names f refl c.in_err-expect.ensures.fault)

pub test-returns-in_err-no-clause-fault : goal.test-returns-in_err-no-clause-fault
test-returns-in_err-no-clause-fault t c =
    let a = standing c.args.tokens.now c.args.names.now in
    let o = c.args.depth in
    let m = standing c.parse_expression.new.tokens c.parse_expression.new.names in
    let u = standing c.block.new.tokens c.block.new.names in
    let v = standing c.expect.new.self c.block.new.names in
    let yes = code_of c.in_ok-yes.yes.items in
    let taken = plain c.block.new.tokens c.expect.new.self c.block.new.names (codes "else") no_name_else refl c.in_ok-expect.ensures.ok in
    stops_behind _ c.in_err-no.field-0.0 (an_expression (term_of c.in_ok-test.test) ∷ a_block o yes ∷ a_piece (codes "else") ∷ []) a v (λ ds. block o ∷ ds) (λ ds. ds) c.from_residual-in_err-no.ensures.1 (m, c.in_ok-test.ensures.reads, (u, c.in_ok-yes.ensures.reads, (v, taken, refl))) c.in_err-no.ensures.fault

pub test-returns-clause-reads : goal.test-returns-clause-reads
test-returns-clause-reads t c =
    let a = standing c.args.tokens.now c.args.names.now in
    let o = c.args.depth in
    let m = standing c.parse_expression.new.tokens c.parse_expression.new.names in
    let u = standing c.block.new.tokens c.block.new.names in
    let v = standing c.expect.new.self c.block.new.names in
    let b = standing c.block-2.new.tokens c.block-2.new.names in
    let taken = plain c.block.new.tokens c.expect.new.self c.block.new.names (codes "else") no_name_else refl c.in_ok-expect.ensures.ok in
    subst (λ (deed : DeedAt). ReadsDeed (codes "if") o a b deed) (sym (deed_of-If c.in_ok-test.test c.in_ok-yes.yes c.in_ok-no.no))
    (record { first = refl; parts = (m, c.in_ok-test.ensures.reads, (u, c.in_ok-yes.ensures.reads, (v, taken, (b, c.in_ok-no.ensures.reads, refl)))) })
