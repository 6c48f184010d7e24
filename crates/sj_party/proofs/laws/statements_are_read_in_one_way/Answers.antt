use Rattle.sj_party.proofs.UniquenessLemmas.{one_statement, one_code, one_block, one_arms}
use Rattle.sj_party.proofs.laws.statements_are_read_in_one_way.Goals as goal

pub returns-clause-one : goal.returns-clause-one
returns-clause-one c = λ L names o s t a b x y is also h. one_statement L names is also x y h

pub returns-clause-code : goal.returns-clause-code
returns-clause-code c = λ L names o p q a b x y is also ex ey h. one_code L names is also x y ex ey h

pub returns-clause-braced : goal.returns-clause-braced
returns-clause-braced c = λ L names o p q a b x y is also h. one_block L names is also x y h

pub returns-clause-arms : goal.returns-clause-arms
returns-clause-arms c = λ L names o p q a b x y is also ex ey h. one_arms L names is also x y ex ey h
