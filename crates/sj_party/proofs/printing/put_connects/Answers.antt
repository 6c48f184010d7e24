use Rattle.std.proofs.Common.{◌+◌, drop, get_or}
use Rattle.std.specs.Prelude.{map}
use Rattle.sj_text.proofs.CutLemmas.{ahead_is, cut_within, on_err}
use Rattle.sj_lang.specs.declared.file.Connect.{Connect}
use Rattle.sj_lang.specs.FileView.{connect_of}
use Rattle.sj_party.specs.CanonicalExpression.{spelling_of}
use Rattle.sj_party.specs.CanonicalFile.{connect_text, connects_text}
use Rattle.sj_party.proofs.PrintedFile.{connects_step}
use Rattle.sj_party.proofs.printing.put_connects.Goals as goal

abbrev none : Connect
none = record { line = 0; first = record { party = 0; name = 0; protocol = 0 }; second = record { party = 0; name = 0; protocol = 0 } }

pub returns-in_err-put_connect-clause-err : goal.returns-in_err-put_connect-clause-err
returns-in_err-put_connect-clause-err c =
    let names = spelling_of c.args.names.now in
    let cs = c.args.connects.now in
    let i = c.loop-connect.connect-index in
    let old = c.args.text.now.items in
    let whole = connects_text names (map connect_of cs) in
    on_err c.from_residual.result _
    (cut_within old whole (connect_text names (connect_of (get_or cs i none))) (connects_text names (map connect_of (drop (i + 1) cs))) c.loop-connect.text.items c.put_connect.new.text.items
    (ahead_is old whole (connects_text names (map connect_of (drop i cs))) _ c.loop-connect.text.items (connects_step names i cs none c.loop-connect-test.true) c.loop-connect.invariant) c.in_err-put_connect.ensures.err)
