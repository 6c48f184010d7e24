use Rattle.std.proofs.Common.{arith}
use Rattle.sj_resp.specs.Limits.{most_bytes}
use Rattle.sj_resp.proofs.ReadLemmas.{number_back}
use Rattle.sj_resp.proofs.laws.a_length_is_read.Goals as goal

pub returns : goal.returns
returns c = λ n h. number_back most_bytes n h (omega arith)
