use Rattle.std.specs.Prelude.{codes}
use Rattle.sj_text.proofs.CutLemmas.{cut_at_once, cut_in_first, cut_behind, on_err}
use Rattle.sj_generator.specs.Generated.{numbered}
use Rattle.sj_generator.proofs.text.put_adder.Goals as goal

pub returns-in_err-put_numbered-clause-err : goal.returns-in_err-put_numbered-clause-err
returns-in_err-put_numbered-clause-err c =
    on_err c.from_residual.result _ (cut_in_first c.args.text.now.items (numbered (codes "party c") c.args.i (codes " {")) _ c.put_numbered.new.text.items c.in_err-put_numbered.ensures.err)

pub returns-in_err-put-2-clause-err : goal.returns-in_err-put-2-clause-err
returns-in_err-put-2-clause-err c =
    let old = c.args.text.now.items in let first = c.put_numbered.new.text.items in let second = c.put.new.text.items in let new = c.put-2.new.text.items in
    on_err c.from_residual-in_err-put-2.result _
    (cut_behind old (numbered (codes "party c") c.args.i (codes " {")) _ first new c.in_ok-put_numbered.ensures.ok
    (cut_behind first (codes "  recv u y session v;\n  let s = 0;\n  inwhile y {\n") _ second new c.in_ok-put.ensures.ok (cut_at_once second _ new c.in_err-put-2.ensures.err)))
