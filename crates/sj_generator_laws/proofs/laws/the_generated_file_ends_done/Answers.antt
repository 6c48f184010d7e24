use Rattle.sj_generator_laws.proofs.FileRunLemmas.{file_ends_so}
use Rattle.sj_generator_laws.proofs.laws.the_generated_file_ends_done.Goals as goal

pub returns-clause-messages : goal.returns-clause-messages
returns-clause-messages c = λ n le. (file_ends_so n le).messages

pub returns-clause-steps : goal.returns-clause-steps
returns-clause-steps c = λ n le. (file_ends_so n le).steps

pub returns-clause-verdict : goal.returns-clause-verdict
returns-clause-verdict c = λ n le. (file_ends_so n le).verdict
