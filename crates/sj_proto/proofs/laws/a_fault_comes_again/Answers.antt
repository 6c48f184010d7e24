use Rattle.sj_grammar.specs.Lexis.{bad}
use Rattle.sj_proto.proofs.EndLemmas.{fault_again}
use Rattle.sj_proto.proofs.laws.a_fault_comes_again.Goals as goal

pub returns : goal.returns
returns c = λ r rule rest e. fault_again r (bad rule rest) e
