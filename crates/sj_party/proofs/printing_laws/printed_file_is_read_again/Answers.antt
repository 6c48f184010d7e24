use Rattle.sj_party.proofs.FileAgain.{but_lines_alone}
use Rattle.sj_party.proofs.printing_laws.printed_file_is_read_again.Goals as goal

pub returns : goal.returns
returns c = but_lines_alone
