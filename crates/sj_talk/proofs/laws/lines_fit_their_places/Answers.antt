use Rattle.sj_talk.proofs.FitLemmas.{line_fits}
use Rattle.sj_talk.proofs.laws.lines_fit_their_places.Goals as goal

pub returns : goal.returns
returns c = line_fits
