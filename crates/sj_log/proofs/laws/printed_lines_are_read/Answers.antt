use Rattle.sj_log.proofs.PrintedLog.{printed_back}
use Rattle.sj_log.proofs.laws.printed_lines_are_read.Goals as goal

pub returns : goal.returns
returns c = printed_back
