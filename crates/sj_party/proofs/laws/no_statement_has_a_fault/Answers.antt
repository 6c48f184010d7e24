use Rattle.sj_party.proofs.Faultless.{none_broken}
use Rattle.sj_grammar.specs.Positions.{spellings}
use Rattle.sj_party.proofs.RunLemmas.{code_leads, block_leads, arms_leads}
use Rattle.sj_party.proofs.laws.no_statement_has_a_fault.Goals as goal

pub returns-clause-code : goal.returns-clause-code
returns-clause-code c = λ L names o n m b a front back w ds due is split e. let r = code_leads L names is n ds in none_broken L n r.count m _ _ due (spellings a) front back w r.steps split e

pub returns-clause-braced : goal.returns-clause-braced
returns-clause-braced c = λ L names o n m b a front back w ds due is split e. let r = block_leads L names is n ds in none_broken L n r.count m _ _ due (spellings a) front back w r.steps split e

pub returns-clause-arms : goal.returns-clause-arms
returns-clause-arms c = λ L names o n m b a front back w ds due is split e. let r = arms_leads L names is n ds in none_broken L n r.count m _ _ due (spellings a) front back w r.steps split e
