use Rattle.std.proofs.Common.{get_or, List, Option, None, option_map, ap, ◌∙◌}
use Rattle.sj_forward.specs.declared.records.Record.{Record}
use Rattle.sj_forward.specs.Views.{record_at}
use Rattle.sj_forward.proofs.SlotLemmas.{place_more}
use Rattle.sj_forward.proofs.slot.Slot.make_record.Goals as goal

pub loop-self-preserved : goal.loop-self-preserved
loop-self-preserved c = record {
  used = c.loop-self.invariant.used;
  records = λ k.
      ap (λ (xs : List (Option Record)). option_map record_at (get_or xs k None)) c.in_ok-push.ensures.items
      ∙ place_more c.loop-self.self.records.items k ∙ c.loop-self.invariant.records k;
}
