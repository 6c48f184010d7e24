use Rattle.std.proofs.Common.{◌≡◌, ◌∙◌, map}
use Rattle.std.proofs.lemmas.Result.{IfOk-weaker}
use Rattle.sj_core.specs.Views.{line_at, line_of}
use Rattle.sj_core.proofs.OneLogLemmas.{log_apart, log_merged}
use Rattle.sj_core.proofs.joins.merge_in.Goals as goal

pub merge-requires-clause-apart : goal.merge-requires-clause-apart
merge-requires-clause-apart c =
    let own : c.deref.result.now ≡ map (line_of c.args.party) c.args.log.now = c.deref.ensures.value ∙ c.in_ok-own.ensures in
    rw own (log_apart (map line_at c.args.so_far.now) c.args.party c.args.log.now c.requires.other)

pub returns : goal.returns
returns c =
    let own : c.deref.result.now ≡ map (line_of c.args.party) c.args.log.now = c.deref.ensures.value ∙ c.in_ok-own.ensures in
    IfOk-weaker c.merge.result _ _ (λ v m. log_merged (map line_at c.args.so_far.now) (map line_at v.items) c.args.party c.args.log.now c.requires.other m) (rw own at c.merge.ensures)
