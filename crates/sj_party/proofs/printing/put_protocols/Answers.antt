use Rattle.std.proofs.Common.{◌+◌, drop}
use Rattle.std.specs.Prelude.{codes, map}
use Rattle.sj_text.proofs.CutLemmas.{ahead_is, cut_within, on_err}
use Rattle.sj_lang.specs.FileView.{protocol_of}
use Rattle.sj_party.specs.CanonicalExpression.{spelling_of}
use Rattle.sj_party.specs.CanonicalFile.{protocol_line, protocols_text}
use Rattle.sj_party.proofs.PrintedFile.{protocols_step}
use Rattle.sj_party.proofs.printing.put_protocols.Goals as goal

pub returns-in_err-print_protocol_line-clause-err : goal.returns-in_err-print_protocol_line-clause-err
returns-in_err-print_protocol_line-clause-err c =
    let names = spelling_of c.args.names.now in
    let ps = c.args.protocols.now in
    let i = c.loop-p.p-index in
    let x = c.p-item.result in
    let old = c.args.text.now.items in
    let whole = protocols_text names (map protocol_of ps) in
    let line = protocol_line (codes "protocol") names.word x.name x.body in
    let rest = protocols_text names (map protocol_of (drop (i + 1) ps)) in
    on_err c.from_residual.result _
    (cut_within old whole line rest c.loop-p.text.items c.print_protocol_line.new.text.items
    (ahead_is old whole (protocols_text names (map protocol_of (drop i ps))) _ c.loop-p.text.items (protocols_step names i ps x c.loop-p-test.true c.p-item.is) c.loop-p.invariant) c.in_err-print_protocol_line.ensures.err)
