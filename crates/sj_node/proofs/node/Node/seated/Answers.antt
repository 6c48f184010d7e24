use Rattle.std.proofs.Common.{◌≡◌, ◌∙◌, ap}
use Rattle.sj_lang.specs.FileView.{file_of}
use Rattle.sj_lang.specs.declared.file.File.{File}
use Rattle.sj_check.specs.Held.{file_in}
use Rattle.sj_machine.specs.Sound.{program_at}
use Rattle.sj_node.specs.Starting.{nothing_to_do}
use Rattle.sj_node.proofs.StartingLemmas.{begins_idle, has_ended, if_ok}
use Rattle.sj_node.proofs.node.Node.seated.Goals as goal

pub returns-clause-begins : goal.returns-clause-begins
returns-clause-begins c =
    let idle : program_at c.in_ok-machine.machine ≡ nothing_to_do (file_of (file_in c.args.accepted.now)) =
    c.in_ok-machine.ensures ∙ ap (λ (f : File). nothing_to_do (file_of f)) c.file.ensures.value in
    if_ok c.begun.result _ _ (λ n b. begins_idle _ _ _ _ _ n idle b) c.begun.ensures.begins

pub returns-clause-ended : goal.returns-clause-ended
returns-clause-ended c =
    let idle : program_at c.in_ok-machine.machine ≡ nothing_to_do (file_of (file_in c.args.accepted.now)) =
    c.in_ok-machine.ensures ∙ ap (λ (f : File). nothing_to_do (file_of f)) c.file.ensures.value in
    if_ok c.begun.result _ _ (λ n b. has_ended _ _ _ n (begins_idle _ _ _ _ _ n idle b)) c.begun.ensures.begins
