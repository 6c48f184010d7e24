use Rattle.std.proofs.Common.{◌∙◌, arith, length, ◌<◌}
use Rattle.std.proofs.lemmas.List.{length-set}
use Rattle.sj_check.proofs.TableLemmas.{compared}
use Rattle.sj_check.proofs.variables.keep.Goals as goal

pub loop-n-preserved : goal.loop-n-preserved
loop-n-preserved c =
    let now = c.loop-n.table in
    let inside : c.loop-n.n < length now = omega (arith, c.loop-n-test.true, c.loop-n.invariant.len) in
    record {
      len = length-set now c.loop-n.n c.same_byte.result ∙ c.loop-n.invariant.len;
      each = compared c.args.table.now now c.args.other.now c.loop-n.n c.same_byte.result inside c.same_byte.ensures c.loop-n.invariant.each;
    }
