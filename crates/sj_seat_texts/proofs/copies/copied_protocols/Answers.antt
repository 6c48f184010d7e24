use Rattle.std.proofs.Common.{◌∙◌, ap, map}
use Rattle.sj_lang.specs.FileView.{protocol_of}
use Rattle.sj_seat_texts.proofs.CopyLemmas.{map_next}
use Rattle.sj_seat_texts.proofs.copies.copied_protocols.Goals as goal

pub loop-protocol-preserved : goal.loop-protocol-preserved
loop-protocol-preserved c =
    ap (map protocol_of) c.in_ok-push.ensures.items
    ∙ map_next protocol_of c.args.protocols.now c.loop-protocol.out.items c.loop-protocol.protocol-index c.protocol-item.result
    (record { line = c.protocol-item.result.line; name = c.protocol-item.result.name; body = c.in_ok-body.body })
    c.loop-protocol-test.true c.protocol-item.is (λ i. record { line = c.protocol-item.result.line; name = c.protocol-item.result.name; body = c.in_ok-body.ensures i }) c.loop-protocol.invariant
