use Rattle.sj_generator_laws.proofs.NumberLemmas.{stands_alone, text_stands}
use Rattle.sj_generator_laws.proofs.laws.the_generated_text_stands_for_the_file.Goals as goal

pub returns-clause-stands : goal.returns-clause-stands
returns-clause-stands c = text_stands

pub returns-clause-alone : goal.returns-clause-alone
returns-clause-alone c = stands_alone
