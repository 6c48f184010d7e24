use Rattle.sj_party.proofs.FileAgain.{but_lines_alone}
use Rattle.sj_party.proofs.LinesAside.{one_text}
use Rattle.sj_party.proofs.printing_laws.printed_text_comes_again.Goals as goal

pub returns : goal.returns
returns c = λ bytes f g is also. one_text g f (but_lines_alone bytes f g is also)
