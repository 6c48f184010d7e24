use Rattle.std.proofs.Common.{◌∙◌, ap, sym}
use Rattle.sj_lang.specs.Dual.{dual_of}
use Rattle.sj_semantics.specs.Uses.{place_behind}
use Rattle.sj_table.specs.Spots.{place_in}
use Rattle.sj_plain.proofs.AheadLemmas.{behind_dual}
use Rattle.sj_plain.proofs.ahead.spot_against.Goals as goal

pub returns : goal.returns
returns c =
    let place = place_in c.args.table.now c.args.spot in
    ap dual_of c.spot_behind.ensures ∙ sym (behind_dual place c.other.result c.args.msg.now) ∙ ap (λ w. place_behind (dual_of place) w c.args.msg.now) (sym c.other.ensures)
