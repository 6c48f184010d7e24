use Rattle.std.proofs.Common.{◌∙◌, arith}
use Rattle.sj_text.proofs.CutLemmas.{on_err}
use Rattle.sj_party.proofs.PrintedCode.{spaces_cut}
use Rattle.sj_party.proofs.printing_parts.put_spaces.Goals as goal

pub returns-in_err-put-clause-err : goal.returns-in_err-put-clause-err
returns-in_err-put-clause-err c =
    on_err c.from_residual.result _ (spaces_cut c.args.text.now.items c.put.new.text.items c.loop.counter c.args.n (omega arith) (c.in_err-put.ensures.err ∙ c.loop.invariant))
