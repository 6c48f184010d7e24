use Rattle.std.proofs.Common.{ap, sym, map, arith}
use Rattle.std.proofs.lemmas.Grind.{common_steps}
use Rattle.sj_lang.specs.FileView.{file_of, party_of}
use Rattle.sj_machine.proofs.StartLemmas.{ends_next}
use Rattle.sj_seat_lines.proofs.starts.numbered_ends.Goals as goal

pub loop-at-preserved : goal.loop-at-preserved
loop-at-preserved c =
    let file = file_of c.args.file.now in
    record {
      within = grind (arith, common_steps);
      so_far = ends_next file c.args.party c.args.file.now.connects.items c.loop-at.at c.index-connect.result.now c.loop-at.ends.items c.add_end.new.ends.items c.add_end-in-loop-at.new.ends.items _ (grind (arith, common_steps)) c.index-connect.ensures
          (c.in_ok-add_end.ensures file (ap (map party_of) (sym c.deref.ensures.value)))
          (c.in_ok-add_end-2.ensures file (ap (map party_of) (sym c.deref-in-loop-at.ensures.value)))
          c.loop-at.invariant.so_far;
    }
