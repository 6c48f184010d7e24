use Rattle.sj_lane.proofs.MemRowsLemmas.{kept_back}
use Rattle.sj_lane.proofs.mem_links.MemLinksLinks.back.Goals as goal

pub returns-clause-kept : goal.returns-clause-kept
returns-clause-kept c = λ tells. kept_back c.args.lanes.items c.requires.square c.requires.joined
