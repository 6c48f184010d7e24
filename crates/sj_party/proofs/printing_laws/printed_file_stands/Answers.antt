use Rattle.sj_party.proofs.FileAgain.{stands_but_lines}
use Rattle.sj_party.proofs.printing_laws.printed_file_stands.Goals as goal

pub returns : goal.returns
returns c = stands_but_lines
