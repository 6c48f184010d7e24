use Rattle.std.proofs.Common.{◌∷◌, [], length, refl, arith}
use Rattle.std.proofs.lemmas.Option.{slice_get_read}
use Rattle.sj_told.proofs.TellLemmas.{grows_at}
use Rattle.sj_told.proofs.ends.tell_sent.Goals as goal

pub returns : goal.returns
returns c =
    let old = c.args.ends.now.items in
    let end = c.index_mut-end.result.now in
    grows_at c.args.at (c.args.passed ∷ []) [] old end c.add_sent.new.end (slice_get_read old (length old) c.args.at end refl (omega arith) c.index_mut-end.ensures.value) c.in_ok-add_sent.ensures
