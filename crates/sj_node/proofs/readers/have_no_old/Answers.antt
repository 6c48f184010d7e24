use Rattle.std.proofs.Common.{arith}
use Rattle.std.proofs.lemmas.Grind.{common_steps}
use Rattle.sj_node.specs.Slots.{old_at}
use Rattle.sj_node.proofs.ReadingLemmas.{vacant}
use Rattle.sj_node.proofs.readers.have_no_old.Goals as goal

pub returns-then-is_some : goal.returns-then-is_some
returns-then-is_some c =
    (λ no. absurd (cc no), λ none. let empty = vacant old_at c.args.olds.now c.loop-slot.slot-index c.slot-item.result c.loop-slot-test.true c.slot-item.is none in absurd (grind (arith, common_steps, empty)))
