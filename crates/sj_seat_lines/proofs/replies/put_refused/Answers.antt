use Rattle.std.proofs.Common.{◌++◌, ap, ◌∙◌}
use Rattle.std.specs.Prelude.{decimal}
use Rattle.std.proofs.lemmas.Result.{on_err_weaker}
use Rattle.sj_text.proofs.CutLemmas.{cut_here, finish_ok, on_err}
use Rattle.sj_seat_lines.specs.Replies.{rule_words}
use Rattle.sj_seat_lines.proofs.RefusedLemmas.{after_mark, after_rule, after_space, after_words}
use Rattle.sj_seat_lines.proofs.replies.put_refused.Goals as goal

pub returns-in_err-put_number-2-clause-err : goal.returns-in_err-put_number-2-clause-err
returns-in_err-put_number-2-clause-err c =
    on_err c.from_residual-in_err-put_number-2.result _
    (cut_here _ _ _ _ _ (after_mark c.args.number c.args.rule (rule_words c.args.rule) c.args.text.now.items
    c.put.new.text.items c.put_number.new.text.items c.put-2.new.text.items
    c.in_ok-put.ensures.ok c.in_ok-put_number.ensures.ok c.in_ok-put-2.ensures.ok) c.in_err-put_number-2.ensures.err)

pub returns-in_err-put-3-clause-err : goal.returns-in_err-put-3-clause-err
returns-in_err-put-3-clause-err c =
    on_err c.from_residual-in_err-put-3.result _
    (cut_here _ _ _ _ _ (after_rule c.args.number c.args.rule (rule_words c.args.rule) c.args.text.now.items
    c.put.new.text.items c.put_number.new.text.items c.put-2.new.text.items c.put_number-2.new.text.items
    c.in_ok-put.ensures.ok c.in_ok-put_number.ensures.ok c.in_ok-put-2.ensures.ok (c.in_ok-put_number-2.ensures.ok ∙ ap (λ k. c.put-2.new.text.items ++ decimal k) c.from.ensures)) c.in_err-put-3.ensures.err)

pub returns-in_err-put-4-clause-err : goal.returns-in_err-put-4-clause-err
returns-in_err-put-4-clause-err c =
    on_err c.from_residual-in_err-put-4.result _
    (cut_here _ _ _ _ _ (after_space c.args.number c.args.rule (rule_words c.args.rule) c.args.text.now.items
    c.put.new.text.items c.put_number.new.text.items c.put-2.new.text.items c.put_number-2.new.text.items c.put-3.new.text.items
    c.in_ok-put.ensures.ok c.in_ok-put_number.ensures.ok c.in_ok-put-2.ensures.ok (c.in_ok-put_number-2.ensures.ok ∙ ap (λ k. c.put-2.new.text.items ++ decimal k) c.from.ensures) c.in_ok-put-3.ensures.ok) c.in_err-put-4.ensures.err)

pub returns-clause-ok : goal.returns-clause-ok
returns-clause-ok c =
    finish_ok _ _ _ _ _ c.put-5.result
    (after_words c.args.number c.args.rule (rule_words c.args.rule) c.args.text.now.items
    c.put.new.text.items c.put_number.new.text.items c.put-2.new.text.items c.put_number-2.new.text.items c.put-3.new.text.items c.put-4.new.text.items
    c.in_ok-put.ensures.ok c.in_ok-put_number.ensures.ok c.in_ok-put-2.ensures.ok (c.in_ok-put_number-2.ensures.ok ∙ ap (λ k. c.put-2.new.text.items ++ decimal k) c.from.ensures) c.in_ok-put-3.ensures.ok (c.in_ok-put-4.ensures.ok ∙ ap (λ ws. c.put-3.new.text.items ++ ws) c.rule_words.ensures))
    c.put-5.ensures.ok

pub returns-clause-err : goal.returns-clause-err
returns-clause-err c =
    on_err_weaker c.put-5.result
    (λ same. cut_here _ _ _ _ _ (after_words c.args.number c.args.rule (rule_words c.args.rule) c.args.text.now.items
    c.put.new.text.items c.put_number.new.text.items c.put-2.new.text.items c.put_number-2.new.text.items c.put-3.new.text.items c.put-4.new.text.items
    c.in_ok-put.ensures.ok c.in_ok-put_number.ensures.ok c.in_ok-put-2.ensures.ok (c.in_ok-put_number-2.ensures.ok ∙ ap (λ k. c.put-2.new.text.items ++ decimal k) c.from.ensures) c.in_ok-put-3.ensures.ok (c.in_ok-put-4.ensures.ok ∙ ap (λ ws. c.put-3.new.text.items ++ ws) c.rule_words.ensures)) same)
    c.put-5.ensures.err
