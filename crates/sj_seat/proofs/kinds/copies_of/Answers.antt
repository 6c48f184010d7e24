use Rattle.std.proofs.Common.{◌≡◌, ◌∙◌, ap, map}
use Rattle.sj_lang.specs.FileView.{protocol_of}
use Rattle.sj_lang.specs.declared.file.ProtocolDef.{ProtocolDef}
use Rattle.sj_seat.proofs.KindLemmas.{copied_next}
use Rattle.sj_seat.proofs.kinds.copies_of.Goals as goal

pub loop-def-preserved : goal.loop-def-preserved
loop-def-preserved c =
    let d = c.def-item.result in
    let e : ProtocolDef = record { line = d.line; name = d.name; body = c.in_ok-body.body } in
    let same : protocol_of e ≡ protocol_of d = λ i. record { line = d.line; name = d.name; body = c.in_ok-body.ensures i } in
    ap (map protocol_of) c.in_ok-push.ensures.items
    ∙ copied_next c.args.protocols.now c.loop-def.defs.items c.loop-def.def-index d e c.loop-def-test.true c.def-item.is same c.loop-def.invariant
