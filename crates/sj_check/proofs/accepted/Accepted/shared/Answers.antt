use Rattle.std.proofs.Common.{subst, sym}
use Rattle.std.specs.Arc.{arc_value}
use Rattle.sj_lang.specs.declared.file.File.{File}
use Rattle.sj_lang.specs.FileView.{file_of}
use Rattle.sj_acceptance.specs.Accepted.{IsAccepted}
use Rattle.sj_acceptance_laws.proofs.FileLaws.{accepted_from}
use Rattle.sj_check.proofs.accepted.Accepted.shared.Goals as goal

pub returns-clause-accepted : goal.returns-clause-accepted
returns-clause-accepted c =
    subst (λ (f : File). IsAccepted (file_of f)) (sym c.in_ok-file.ensures) (accepted_from (file_of (arc_value c.args.self.now.file)) c.args.self.now.within c.args.self.now.accepted)
