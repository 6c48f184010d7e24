use Rattle.sj_party.proofs.RunLemmas.{statement_leads, code_leads, block_leads, arms_leads}
use Rattle.sj_party.proofs.laws.statements_are_what_is_due.Goals as goal

pub returns-clause-one : goal.returns-clause-one
returns-clause-one c = λ L names o n s a ds is. statement_leads L names is n ds

pub returns-clause-code : goal.returns-clause-code
returns-clause-code c = λ L names o n b a ds is. code_leads L names is n ds

pub returns-clause-braced : goal.returns-clause-braced
returns-clause-braced c = λ L names o n b a ds is. block_leads L names is n ds

pub returns-clause-arms : goal.returns-clause-arms
returns-clause-arms c = λ L names o n b a ds is. arms_leads L names is n ds
