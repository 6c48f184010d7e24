use Rattle.std.proofs.Common.{ap, sym, map, arith, refl}
use Rattle.std.proofs.lemmas.Grind.{common_steps}
use Rattle.sj_lang.specs.FileView.{connect_of, file_of, party_of}
use Rattle.sj_node.proofs.StartingLemmas.{slots_next}
use Rattle.sj_node.proofs.starts.first_slots.Goals as goal

pub loop-at-preserved : goal.loop-at-preserved
loop-at-preserved c =
    let file = file_of c.args.file.now in
    record {
      within = grind (arith, common_steps);
      so_far = slots_next c.args.table.now file c.args.party c.args.file.now.connects.items c.loop-at.at c.index-c.result.now c.first_record.result c.first_record-in-loop-at.result c.loop-at.slots.items c.push.new.self.items c.push-in-loop-at.new.self.items _ (grind (arith, common_steps)) c.index-c.ensures
          c.in_ok-push.ensures.items c.in_ok-push-2.ensures.items (c.first_record.ensures file (connect_of c.index-c.result.now) (ap (map party_of) (sym c.deref.ensures.value)) c.requires.starts refl refl)
          (c.first_record-in-loop-at.ensures file (connect_of c.index-c.result.now) (ap (map party_of) (sym c.deref-in-loop-at.ensures.value)) c.requires.starts refl refl)
          c.loop-at.invariant.so_far;
    }
