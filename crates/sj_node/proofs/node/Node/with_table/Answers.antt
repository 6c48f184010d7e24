use Rattle.std.proofs.Common.{◌≡◌, subst}
use Rattle.std.specs.Prelude.{Some, slice_get}
use Rattle.sj_lang.specs.FileView.{file_of}
use Rattle.sj_lang.specs.declared.file.File.{File}
use Rattle.sj_check.specs.Held.{file_in}
use Rattle.sj_machine.specs.Sound.{program_at}
use Rattle.sj_semantics.specs.World.{start_of}
use Rattle.sj_node.proofs.StartingLemmas.{begins_own, if_ok}
use Rattle.sj_node.proofs.node.Node.with_table.Goals as goal

pub returns-clause-begins : goal.returns-clause-begins
returns-clause-begins c =
    let there : slice_get (start_of (file_of (file_in c.args.accepted.now))).parties c.args.party ≡ Some (program_at c.in_ok-machine.machine) =
    subst (λ (f : File). slice_get (start_of (file_of f)).parties c.args.party ≡ Some (program_at c.in_ok-machine.machine)) c.file.ensures.value c.in_ok-machine.ensures in
    if_ok c.begun.result _ _ (λ n b. begins_own _ _ _ _ n there b) c.begun.ensures.begins
