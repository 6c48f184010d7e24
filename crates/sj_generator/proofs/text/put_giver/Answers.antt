use Rattle.std.specs.Prelude.{codes}
use Rattle.sj_text.proofs.CutLemmas.{cut_in_first, on_err}
use Rattle.sj_generator.specs.Generated.{numbered}
use Rattle.sj_generator.proofs.text.put_giver.Goals as goal

pub returns-in_err-put_numbered-clause-err : goal.returns-in_err-put_numbered-clause-err
returns-in_err-put_numbered-clause-err c =
    on_err c.from_residual.result _ (cut_in_first c.args.text.now.items (numbered (codes "party b") c.args.i (codes " {")) _ c.put_numbered.new.text.items c.in_err-put_numbered.ensures.err)
