use Rattle.std.proofs.Common.{◌≡◌, Some, subst, sym}
use Rattle.sj_check.specs.Held.{file_in as held}
use Rattle.sj_forest_laws.specs.Opens.{first_opening}
use Rattle.sj_forest_laws.proofs.OpensLemmas.{opens_is_no_forest}
use Rattle.sj_lang.specs.FileView.{file_of}
use Rattle.sj_lang.specs.declared.file.File.{File}
use Rattle.sj_forest.proofs.forests.forest.Goals as goal

pub returns-in-Some-clause-exact : goal.returns-in-Some-clause-exact
returns-in-Some-clause-exact c =
    let first = subst (λ (f : File). first_opening (file_of f) ≡ Some c.in-Some.line) c.file-file.ensures.value (sym c.in-Some.ensures) in
    (λ none. absurd none, opens_is_no_forest (file_of (held c.args.accepted.now)) c.in-Some.line first)
