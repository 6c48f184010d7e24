use Rattle.std.proofs.Common.{◌≢◌, subst}
use Rattle.sj_acceptance.specs.Accepted.{IsAccepted}
use Rattle.sj_check.specs.declared.refusal.CheckRefusal.TheVariants as refusals
use Rattle.sj_grammar.specs.Files.{IsFile}
use Rattle.sj_grammar.specs.Refusals.{OnFault}
use Rattle.sj_lang.specs.FileAt.{FileAt}
use Rattle.sj_seat_local.proofs.files.accepted.Goals as goal

pub returns-in-Err-At-clause-none : goal.returns-in-Err-At-clause-none
returns-in-Err-At-clause-none c = λ same file is accepted.
    subst (OnFault (λ _. (g : FileAt) → IsFile c.args.bytes.now g → ⊥)) c.in-Err-At.field-0-is c.in-Err-At.ensures.none file is

pub returns-clause-none : goal.returns-clause-none
returns-clause-none c = λ same file is accepted.
    let tells : c.in-Err-default-At.field-0-1 ≢ refusals.NoMemory = λ none. (let it = c.in-Err-default-At.field-0-1-is in absurd (cc)) in
    c.in-Err-default-At.ensures.refused tells (subst IsAccepted (c.in-Ok.ensures.only file is) accepted)
