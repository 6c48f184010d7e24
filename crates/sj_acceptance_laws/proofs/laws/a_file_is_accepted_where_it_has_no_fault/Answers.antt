use Rattle.sj_acceptance_laws.proofs.FileLaws.{accepted_from, accepted_to}
use Rattle.sj_acceptance_laws.proofs.laws.a_file_is_accepted_where_it_has_no_fault.Goals as goal

pub returns : goal.returns
returns c = λ f. (λ i. (i.within, accepted_to f i), λ h. accepted_from f h.0 h.1)
