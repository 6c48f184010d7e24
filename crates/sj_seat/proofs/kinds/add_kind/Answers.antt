use Rattle.std.proofs.Common.{◌∙◌, ap, map}
use Rattle.sj_lang.specs.FileAt.{protocol_named}
use Rattle.sj_lang.specs.FileView.{protocol_of}
use Rattle.sj_seat.proofs.KindLemmas.{one_more}
use Rattle.sj_seat.proofs.kinds.add_kind.Goals as goal

pub returns : goal.returns
returns c = λ p.
    ap (λ ds. protocol_named (map protocol_of ds) p) c.in_ok-push.ensures.items
    ∙ one_more c.args.defs.now.items (record { line = 0; name = c.args.name; body = c.in_ok-body.body }) c.requires.named p
