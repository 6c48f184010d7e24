use Rattle.sj_plain.specs.Plain.{world_at}
use Rattle.sj_tool.proofs.ActingLemmas.{ready_is_there}
use Rattle.sj_tool.proofs.acts.act.Goals as goal

pub act-requires : goal.act-requires
act-requires c = ready_is_there (world_at c.args.plain.now) c.args.party c.requires
