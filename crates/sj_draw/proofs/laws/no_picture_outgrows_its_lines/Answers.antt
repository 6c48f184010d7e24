use Rattle.sj_draw.specs.Answer.{lines_of}
use Rattle.sj_draw.proofs.GrowthLemmas.{growth}
use Rattle.sj_draw.proofs.laws.no_picture_outgrows_its_lines.Goals as goal

pub returns : goal.returns
returns c = λ bytes g e. growth g (lines_of bytes) e
