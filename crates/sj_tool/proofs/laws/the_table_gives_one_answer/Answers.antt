use Rattle.sj_tool.proofs.TableLemmas.{one_answer}
use Rattle.sj_tool.proofs.laws.the_table_gives_one_answer.Goals as goal

pub returns : goal.returns
returns c = one_answer
