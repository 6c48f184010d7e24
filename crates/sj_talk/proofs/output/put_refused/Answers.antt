use Rattle.std.proofs.lemmas.Result.{on_err_weaker}
use Rattle.sj_text.proofs.CutLemmas.{cut_here, finish_ok, on_err}
use Rattle.sj_talk.proofs.BreakLemmas.{after_mark, after_number, after_rule, after_word}
use Rattle.sj_talk.proofs.output.put_refused.Goals as goal

pub returns-clause-ok : goal.returns-clause-ok
returns-clause-ok c =
    finish_ok _ _ _ _ _ c.put-3.result
    (after_rule c.args.number c.args.rule c.args.text.now.items c.put.new.text.items c.put_number.new.text.items c.put-2.new.text.items c.put_number-2.new.text.items
    c.in_ok-put.ensures.ok c.in_ok-put_number.ensures.ok c.in_ok-put-2.ensures.ok c.in_ok-put_number-2.ensures.ok)
    c.put-3.ensures.ok

pub returns-clause-err : goal.returns-clause-err
returns-clause-err c =
    on_err_weaker c.put-3.result
    (λ same. cut_here _ _ _ _ _
    (after_rule c.args.number c.args.rule c.args.text.now.items c.put.new.text.items c.put_number.new.text.items c.put-2.new.text.items c.put_number-2.new.text.items
    c.in_ok-put.ensures.ok c.in_ok-put_number.ensures.ok c.in_ok-put-2.ensures.ok c.in_ok-put_number-2.ensures.ok) same)
    c.put-3.ensures.err

pub returns-in_err-put_number-clause-err : goal.returns-in_err-put_number-clause-err
returns-in_err-put_number-clause-err c =
    on_err c.from_residual-in_err-put_number.result _
    (cut_here _ _ _ _ _ (after_word c.args.number c.args.rule c.args.text.now.items c.put.new.text.items c.in_ok-put.ensures.ok) c.in_err-put_number.ensures.err)

pub returns-in_err-put-2-clause-err : goal.returns-in_err-put-2-clause-err
returns-in_err-put-2-clause-err c =
    on_err c.from_residual-in_err-put-2.result _
    (cut_here _ _ _ _ _ (after_number c.args.number c.args.rule c.args.text.now.items c.put.new.text.items c.put_number.new.text.items c.in_ok-put.ensures.ok c.in_ok-put_number.ensures.ok) c.in_err-put-2.ensures.err)

pub returns-in_err-put_number-2-clause-err : goal.returns-in_err-put_number-2-clause-err
returns-in_err-put_number-2-clause-err c =
    on_err c.from_residual-in_err-put_number-2.result _
    (cut_here _ _ _ _ _
    (after_mark c.args.number c.args.rule c.args.text.now.items c.put.new.text.items c.put_number.new.text.items c.put-2.new.text.items c.in_ok-put.ensures.ok c.in_ok-put_number.ensures.ok c.in_ok-put-2.ensures.ok)
    c.in_err-put_number-2.ensures.err)
