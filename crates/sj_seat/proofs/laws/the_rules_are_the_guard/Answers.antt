use Rattle.sj_seat_laws.specs.Calls.{place_held}
use Rattle.sj_seat.proofs.RuleLemmas.{delegates_so}
use Rattle.sj_seat.proofs.laws.the_rules_are_the_guard.Goals as goal

pub returns-clause-delegates : goal.returns-clause-delegates
returns-clause-delegates _ = λ calls os bs c e. delegates_so calls c e (place_held bs c) (place_held bs e)
