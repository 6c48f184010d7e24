use Rattle.std.proofs.Common.{◌≡◌, ◌++◌, OnOk, OnErr, sym, subst}
use Rattle.std.specs.Prelude.{codes}
use Rattle.sj_text.specs.Cut.{IsCutShort}
use Rattle.sj_text.proofs.CutLemmas.{cut_at_once, cut_in_first, cut_behind, on_err, ok_behind, err_behind, err_at_once}
use Rattle.sj_grammar.specs.Canonical.{body_text}
use Rattle.sj_party.specs.CanonicalExpression.{spelling_of}
use Rattle.sj_party.specs.CanonicalCode.{named_text}
use Rattle.sj_party.proofs.PrintedFile.{line_parts}
use Rattle.sj_party.proofs.printing.print_protocol_line.Goals as goal

pub returns-in_err-put_named-clause-err : goal.returns-in_err-put_named-clause-err
returns-in_err-put_named-clause-err c =
    let names = spelling_of c.args.names.now in
    let old = c.args.text.now.items in
    let new = c.put_named.new.text.items in
    let named = named_text names (codes " ") c.args.name in
    let rest = codes " { " ++ (body_text names.word c.args.body.now ++ codes " }\n") in
    on_err c.from_residual-in_err-put_named.result _
    (subst (λ (w : _). IsCutShort old w new) (sym (line_parts names c.args.lead.now c.args.name c.args.body.now))
    (cut_behind old c.args.lead.now (named ++ rest) c.put.new.text.items new c.in_ok-put.ensures.ok (cut_in_first c.put.new.text.items named rest new c.in_err-put_named.ensures.err)))

pub returns-in_err-put-2-clause-err : goal.returns-in_err-put-2-clause-err
returns-in_err-put-2-clause-err c =
    let names = spelling_of c.args.names.now in
    let old = c.args.text.now.items in
    let new = c.put-2.new.text.items in
    let named = named_text names (codes " ") c.args.name in
    let rest = codes " { " ++ (body_text names.word c.args.body.now ++ codes " }\n") in
    on_err c.from_residual-in_err-put-2.result _
    (subst (λ (w : _). IsCutShort old w new) (sym (line_parts names c.args.lead.now c.args.name c.args.body.now))
    (cut_behind old c.args.lead.now (named ++ rest) c.put.new.text.items new c.in_ok-put.ensures.ok
    (cut_behind c.put.new.text.items named rest c.put_named.new.text.items new c.in_ok-put_named.ensures.ok (cut_at_once c.put_named.new.text.items rest new c.in_err-put-2.ensures.err))))

pub returns-in_err-print_protocol-clause-err : goal.returns-in_err-print_protocol-clause-err
returns-in_err-print_protocol-clause-err c =
    let names = spelling_of c.args.names.now in
    let old = c.args.text.now.items in
    let new = c.print_protocol.new.text.items in
    let named = named_text names (codes " ") c.args.name in
    let body = body_text names.word c.args.body.now in
    on_err c.from_residual-in_err-print_protocol.result _
    (subst (λ (w : _). IsCutShort old w new) (sym (line_parts names c.args.lead.now c.args.name c.args.body.now))
    (cut_behind old c.args.lead.now (named ++ (codes " { " ++ (body ++ codes " }\n"))) c.put.new.text.items new c.in_ok-put.ensures.ok
    (cut_behind c.put.new.text.items named (codes " { " ++ (body ++ codes " }\n")) c.put_named.new.text.items new c.in_ok-put_named.ensures.ok
    (cut_behind c.put_named.new.text.items (codes " { ") (body ++ codes " }\n") c.put-2.new.text.items new c.in_ok-put-2.ensures.ok
    (cut_in_first c.put-2.new.text.items body (codes " }\n") new c.in_err-print_protocol.ensures.err)))))

pub returns-clause-ok : goal.returns-clause-ok
returns-clause-ok c =
    let names = spelling_of c.args.names.now in
    let old = c.args.text.now.items in
    let new = c.put-3.new.text.items in
    let r = c.put-3.result in
    let named = named_text names (codes " ") c.args.name in
    let body = body_text names.word c.args.body.now in
    subst (λ (w : _). OnOk r (new ≡ old ++ w)) (sym (line_parts names c.args.lead.now c.args.name c.args.body.now))
    (ok_behind old c.args.lead.now (named ++ (codes " { " ++ (body ++ codes " }\n"))) c.put.new.text.items new r c.in_ok-put.ensures.ok
    (ok_behind c.put.new.text.items named (codes " { " ++ (body ++ codes " }\n")) c.put_named.new.text.items new r c.in_ok-put_named.ensures.ok
    (ok_behind c.put_named.new.text.items (codes " { ") (body ++ codes " }\n") c.put-2.new.text.items new r c.in_ok-put-2.ensures.ok
    (ok_behind c.put-2.new.text.items body (codes " }\n") c.print_protocol.new.text.items new r c.in_ok-print_protocol.ensures.ok c.put-3.ensures.ok))))

pub returns-clause-err : goal.returns-clause-err
returns-clause-err c =
    let names = spelling_of c.args.names.now in
    let old = c.args.text.now.items in
    let new = c.put-3.new.text.items in
    let r = c.put-3.result in
    let named = named_text names (codes " ") c.args.name in
    let body = body_text names.word c.args.body.now in
    subst (λ (w : _). OnErr r (IsCutShort old w new)) (sym (line_parts names c.args.lead.now c.args.name c.args.body.now))
    (err_behind old c.args.lead.now (named ++ (codes " { " ++ (body ++ codes " }\n"))) c.put.new.text.items new r c.in_ok-put.ensures.ok
    (err_behind c.put.new.text.items named (codes " { " ++ (body ++ codes " }\n")) c.put_named.new.text.items new r c.in_ok-put_named.ensures.ok
    (err_behind c.put_named.new.text.items (codes " { ") (body ++ codes " }\n") c.put-2.new.text.items new r c.in_ok-put-2.ensures.ok
    (err_behind c.put-2.new.text.items body (codes " }\n") c.print_protocol.new.text.items new r c.in_ok-print_protocol.ensures.ok (err_at_once c.print_protocol.new.text.items (codes " }\n") new r c.put-3.ensures.err)))))
