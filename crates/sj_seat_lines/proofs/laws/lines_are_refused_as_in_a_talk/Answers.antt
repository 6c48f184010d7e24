use Rattle.sj_seat_lines.proofs.RuleLemmas.{as_in_a_talk}
use Rattle.sj_seat_lines.proofs.laws.lines_are_refused_as_in_a_talk.Goals as goal

pub returns : goal.returns
returns c = λ s t says alike. as_in_a_talk s t alike says
