use Rattle.sj_tool.proofs.TableAnswered.{has_answer}
use Rattle.sj_tool.proofs.laws.the_table_has_an_answer.Goals as goal

pub returns : goal.returns
returns c = has_answer
