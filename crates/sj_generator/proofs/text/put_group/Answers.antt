use Rattle.std.proofs.Common.{◌++◌}
use Rattle.sj_text.proofs.CutLemmas.{cut_in_first, cut_behind, on_err, err_behind}
use Rattle.sj_generator.specs.Generated.{sender, giver, adder, group}
use Rattle.sj_generator.proofs.text.put_group.Goals as goal

pub returns-in_err-put_sender-clause-err : goal.returns-in_err-put_sender-clause-err
unfolding group
returns-in_err-put_sender-clause-err c =
    on_err c.from_residual.result _ (cut_in_first c.args.text.now.items (sender c.args.n c.args.i) (giver c.args.i ++ adder c.args.i) c.put_sender.new.text.items c.in_err-put_sender.ensures.err)

pub returns-in_err-put_giver-clause-err : goal.returns-in_err-put_giver-clause-err
unfolding group
returns-in_err-put_giver-clause-err c =
    let mid = c.put_sender.new.text.items in let new = c.put_giver.new.text.items in
    on_err c.from_residual-in_err-put_giver.result _
    (cut_behind c.args.text.now.items (sender c.args.n c.args.i) (giver c.args.i ++ adder c.args.i) mid new c.in_ok-put_sender.ensures.ok
    (cut_in_first mid (giver c.args.i) (adder c.args.i) new c.in_err-put_giver.ensures.err))

pub returns-clause-err : goal.returns-clause-err
unfolding group
returns-clause-err c =
    let mid = c.put_sender.new.text.items in let next = c.put_giver.new.text.items in let new = c.put_adder.new.text.items in let r = c.put_adder.result in
    err_behind c.args.text.now.items (sender c.args.n c.args.i) (giver c.args.i ++ adder c.args.i) mid new r c.in_ok-put_sender.ensures.ok
    (err_behind mid (giver c.args.i) (adder c.args.i) next new r c.in_ok-put_giver.ensures.ok c.put_adder.ensures.err)
