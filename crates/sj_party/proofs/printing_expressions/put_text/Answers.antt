use Rattle.std.proofs.Common.{◌++◌, ap, sym, ◌∙◌, append-nil}
use Rattle.sj_proto.proofs.PrintingLemmas.{no_word_at}
use Rattle.sj_party.proofs.printing_expressions.put_text.Goals as goal

pub returns-in-None-clause-ok : goal.returns-in-None-clause-ok
returns-in-None-clause-ok c = sym (ap (λ xs. c.args.text.now.items ++ xs) (no_word_at c.args.names.now.texts c.args.n c.in-None.ensures) ∙ append-nil c.args.text.now.items)
