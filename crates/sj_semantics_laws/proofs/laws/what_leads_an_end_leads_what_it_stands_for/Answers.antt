use Rattle.sj_semantics_laws.proofs.LeadsLemmas.{leads_standing}
use Rattle.sj_semantics_laws.proofs.laws.what_leads_an_end_leads_what_it_stands_for.Goals as goal

pub returns : goal.returns
returns c = leads_standing
