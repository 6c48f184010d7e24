use Rattle.sj_proto.proofs.ScanLemmas.{none_of}
use Rattle.sj_proto.proofs.scan.digits_number.Goals as goal

pub returns-then-value-gt-MOST : goal.returns-then-value-gt-MOST
returns-then-value-gt-MOST c =
    let ds = c.args.digits.now in
    none_of ds c.loop-b.b-index c.loop-b.value c.loop-b.invariant.0 c.loop-b-test.true (c.requires c.loop-b.b-index 0 c.loop-b-test.true) (rw c.from.ensures at c.if-value-gt-MOST.true)
