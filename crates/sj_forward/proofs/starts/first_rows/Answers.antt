use Rattle.std.proofs.Common.{◌+◌, ap, map, subst, sym, arith}
use Rattle.std.proofs.lemmas.Grind.{common_steps}
use Rattle.sj_lang.specs.FileView.{connect_of, file_of, party_of}
use Rattle.sj_forward.specs.Ends.{Rows}
use Rattle.sj_forward.specs.Starting.{AreFirstRows}
use Rattle.sj_forward.proofs.StartLemmas.{connect_there, one_row}
use Rattle.sj_forward.proofs.starts.first_rows.Goals as goal

pub loop-at-preserved : goal.loop-at-preserved
loop-at-preserved c =
    let file = file_of c.args.file.now in
    let at = c.loop-at.at in
    let connect = connect_of c.index-connect.result.now in
    let there = connect_there c.args.file.now.connects.items at c.index-connect.result.now (grind (arith, common_steps)) c.index-connect.ensures in
    let first = c.in_ok-row.ensures file at (ap (map party_of) (sym c.deref.ensures.value)) in
    record {
      within = grind (arith, common_steps);
      so_far =
          subst (λ (rows : Rows). AreFirstRows file c.args.party (at + 1) rows) (sym c.in_ok-push.ensures.items)
          (one_row file c.args.party at c.loop-at.rows.items c.in_ok-row.row connect c.loop-at.invariant.so_far there first);
    }
