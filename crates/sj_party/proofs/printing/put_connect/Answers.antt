use Rattle.std.proofs.Common.{◌++◌}
use Rattle.std.specs.Prelude.{codes}
use Rattle.sj_text.proofs.CutLemmas.{cut_in_first, cut_behind, on_err}
use Rattle.sj_lang.specs.FileView.{decl_of}
use Rattle.sj_party.specs.CanonicalExpression.{spelling_of}
use Rattle.sj_party.specs.CanonicalFile.{end_text}
use Rattle.sj_party.proofs.printing.put_connect.Goals as goal

pub returns-in_err-put_end-2-clause-err : goal.returns-in_err-put_end-2-clause-err
returns-in_err-put_end-2-clause-err c =
    let names = spelling_of c.args.names.now in
    let old = c.args.text.now.items in
    let new = c.put_end-2.new.text.items in
    let first = end_text names (decl_of c.args.connect.now.first) in
    let second = end_text names (decl_of c.args.connect.now.second) in
    on_err c.from_residual-in_err-put_end-2.result _
    (cut_behind old (codes "connect") (first ++ (codes " to" ++ (second ++ codes ";\n"))) c.put.new.text.items new c.in_ok-put.ensures.ok
    (cut_behind c.put.new.text.items first (codes " to" ++ (second ++ codes ";\n")) c.put_end.new.text.items new c.in_ok-put_end.ensures.ok
    (cut_behind c.put_end.new.text.items (codes " to") (second ++ codes ";\n") c.put-2.new.text.items new c.in_ok-put-2.ensures.ok
    (cut_in_first c.put-2.new.text.items second (codes ";\n") new c.in_err-put_end-2.ensures.err))))
