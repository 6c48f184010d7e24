use Rattle.std.specs.Prelude.{◌+◌, codes}
use Rattle.sj_text.proofs.CutLemmas.{cut_in_first, cut_behind, on_err}
use Rattle.sj_generator.specs.Generated.{numbered}
use Rattle.sj_generator.proofs.text.put_sender.Goals as goal

pub returns-in_err-put_numbered-clause-err : goal.returns-in_err-put_numbered-clause-err
returns-in_err-put_numbered-clause-err c =
    on_err c.from_residual.result _ (cut_in_first c.args.text.now.items (numbered (codes "party a") c.args.i (codes " {")) _ c.put_numbered.new.text.items c.in_err-put_numbered.ensures.err)

pub returns-in_err-put_numbered-2-clause-err : goal.returns-in_err-put_numbered-2-clause-err
returns-in_err-put_numbered-2-clause-err c =
    let old = c.args.text.now.items in let first = c.put_numbered.new.text.items in let new = c.put_numbered-2.new.text.items in
    on_err c.from_residual-in_err-put_numbered-2.result _
    (cut_behind old (numbered (codes "party a") c.args.i (codes " {")) _ first new c.in_ok-put_numbered.ensures.ok
    (cut_in_first first (numbered (codes "  outwhile x ") c.args.n (codes " {")) _ new c.in_err-put_numbered-2.ensures.err))

pub returns-in_err-put_numbered-3-clause-err : goal.returns-in_err-put_numbered-3-clause-err
returns-in_err-put_numbered-3-clause-err c =
    let old = c.args.text.now.items in let first = c.put_numbered.new.text.items in let second = c.put_numbered-2.new.text.items in let new = c.put_numbered-3.new.text.items in
    on_err c.from_residual-in_err-put_numbered-3.result _
    (cut_behind old (numbered (codes "party a") c.args.i (codes " {")) _ first new c.in_ok-put_numbered.ensures.ok
    (cut_behind first (numbered (codes "  outwhile x ") c.args.n (codes " {")) _ second new c.in_ok-put_numbered-2.ensures.ok
    (cut_in_first second (numbered (codes "    send x ") (c.args.i + 1) (codes ";")) _ new c.in_err-put_numbered-3.ensures.err)))
