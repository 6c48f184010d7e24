use Rattle.sj_talk.proofs.BreakLemmas.{goes_by_lines, goes_by_talk}
use Rattle.sj_talk.proofs.laws.lines_are_moves.Goals as goal

pub returns : goal.returns
returns c = λ t lines. (goes_by_lines t lines, goes_by_talk t lines)
